-- The fields that an entry is given.
use Rattle.std.specs.Prelude.{◌≡◌, ℕ, ◌+◌, ◌*◌, ◌/◌, ◌%◌, ◌^◌, List, Some, slice_index}
use Rattle.nvme_entry.specs.Entry.{identifier_of, namespace_identifier, opcode_of}
use Rattle.common_definitions.specs.Bytes.{field}
use Rattle.nvme_entry.specs.Dwords.{dword}
use Rattle.nvme_entry.specs.declared.command.Opcode.{Opcode}
use Rattle.nvme_entry.specs.declared.encoding.CommandDwords.{CommandDwords}

-- an entry for namespace 1 with this opcode, identifier and Command Dwords, whose second byte, FUSE and PSDT, is 0, as are
-- bytes 8 to 39, the pointers and what is reserved
pub record HasFields (entry : List ℕ) (opcode : Opcode) (cid : ℕ) (fields : CommandDwords) : Type 0 where
  pub code : opcode_of (slice_index entry 0) ≡ Some opcode
  pub second_byte : field entry 1 1 ≡ 0
  pub namespace : namespace_identifier entry ≡ 1
  pub identifier : identifier_of entry ≡ cid
  pub pointers : field entry 8 32 ≡ 0
  -- these dwords,
  pub cdw10 : dword entry 10 ≡ fields.cdw10
  pub cdw11 : dword entry 11 ≡ fields.cdw11
  pub cdw12 : dword entry 12 ≡ fields.cdw12
  pub cdw13 : dword entry 13 ≡ fields.cdw13
  pub cdw14 : dword entry 14 ≡ fields.cdw14
  pub cdw15 : dword entry 15 ≡ fields.cdw15
  -- two of them as one number,
  pub starting_lba : field entry 40 8 ≡ fields.cdw10 + fields.cdw11 * 2 ^ 32
  pub destination : field entry 56 8 ≡ fields.cdw14 + fields.cdw15 * 2 ^ 32
  -- and their parts
  pub low_half : field entry 48 2 ≡ fields.cdw12 % 2 ^ 16
  pub third_byte : slice_index entry 50 ≡ fields.cdw12 / 2 ^ 16 % 2 ^ 8
  pub first_of_13 : slice_index entry 52 ≡ fields.cdw13 % 2 ^ 8
  pub second_of_13 : slice_index entry 53 ≡ fields.cdw13 / 2 ^ 8 % 2 ^ 8
  pub third_of_13 : slice_index entry 54 ≡ fields.cdw13 / 2 ^ 16 % 2 ^ 8
