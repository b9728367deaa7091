-- What the dwords of an entry tell a decoder.
use Rattle.std.proofs.Common.{◌≡◌, ℕ, ◌+◌, ◌*◌, ◌%◌, ◌^◌, ◌<◌, ◌==◌, List, [], ◌∷◌, ◌++◌, drop, Option, Some, slice_index, refl, sym, ap, subst, ◌∙◌, arith}
use Rattle.std.specs.List.{flat_map}
use Rattle.std.proofs.lemmas.Grind.{get_or_after_one}
use Rattle.byteorder.specs.Endian.{little_bytes, little_number}
use Rattle.byteorder.specs.Numbers.{little_from-bytes, little_number-reads_back}
use Rattle.zone_state.specs.declared.status.TheConstants.Status.{INVALID_FIELD_IN_COMMAND, INVALID_NAMESPACE_OR_FORMAT}
use Rattle.common_definitions.specs.Bytes.{field}
use Rattle.common_definitions.specs.Readings.{unless_fault}
use Rattle.common_definitions.proofs.Proved.{byte_is}
use Rattle.common_definitions.specs.Checks.{demand, first_failed}
use Rattle.nvme_entry.specs.steps.EntryFields.{HasFields}
use Rattle.nvme_entry.specs.Entry.{asked, decoded, decoded_by, fuse_of, identifier_of, namespace_identifier, opcode_of}
use Rattle.nvme_entry.specs.declared.command.Opcode.{Opcode}
use Rattle.nvme_entry.specs.declared.encoding.CommandDwords.{CommandDwords}

-- the bytes of sixteen dwords
abbrev bytes_of : ℕ → CommandDwords → List ℕ
bytes_of first d = flat_map (little_bytes 4) (first ∷ 1 ∷ 0 ∷ 0 ∷ 0 ∷ 0 ∷ 0 ∷ 0 ∷ 0 ∷ 0 ∷ d.cdw10 ∷ d.cdw11 ∷ d.cdw12 ∷ d.cdw13 ∷ d.cdw14 ∷ d.cdw15 ∷ [])

-- two dwords are one number
two_again : (low high : ℕ) (rest : List ℕ) → low < 2 ^ 32 → high < 2 ^ 32 → little_number 8 (little_bytes 4 low ++ (little_bytes 4 high ++ rest)) ≡ low + high * 2 ^ 32
two_again low high rest small large =
    let first = little_number-reads_back 4 low (little_bytes 4 high ++ rest) (omega (arith, small)) in
    let second = little_number-reads_back 4 high rest (omega (arith, large)) in
    omega (arith, first, second)

-- an entry that fails no check of all entries is decoded as its fields ask
pub decoded_is : (entry : List ℕ) (opcode : Opcode) → opcode_of (slice_index entry 0) ≡ Some opcode → fuse_of entry ≡ 0 → namespace_identifier entry ≡ 1
    → decoded entry ≡ asked opcode entry
decoded_is entry opcode is_opcode is_fuse is_namespace =
    ap (λ (found : Option Opcode). decoded_by found entry) is_opcode
    ∙ (ap (λ (n : ℕ). unless_fault (first_failed (demand (n == 0) INVALID_FIELD_IN_COMMAND ∷ demand (namespace_identifier entry == 1) INVALID_NAMESPACE_OR_FORMAT ∷ [])) (asked opcode entry)) is_fuse
    ∙ ap (λ (n : ℕ). unless_fault (first_failed (demand (n == 1) INVALID_NAMESPACE_OR_FORMAT ∷ [])) (asked opcode entry)) is_namespace)

-- where the second byte is 0, so are the bits of it that tell a part of a fused command
pub fuse_is : (entry : List ℕ) → field entry 1 1 ≡ 0 → fuse_of entry ≡ 0
fuse_is entry none =
    let second : slice_index entry 1 ≡ 0 = sym (get_or_after_one entry 0 0) ∙ omega (arith, none) in
    ap (λ (n : ℕ). n % 4) second

-- each dword fits
pub record AreDwords (d : CommandDwords) : Type 0 where
  pub cdw10 : d.cdw10 < 2 ^ 32
  pub cdw11 : d.cdw11 < 2 ^ 32
  pub cdw12 : d.cdw12 < 2 ^ 32
  pub cdw13 : d.cdw13 < 2 ^ 32
  pub cdw14 : d.cdw14 < 2 ^ 32
  pub cdw15 : d.cdw15 < 2 ^ 32

bytes_have : (first code cid : ℕ) (opcode : Opcode) (d : CommandDwords) → first ≡ code + cid * 2 ^ 16 → code < 2 ^ 8 → cid < 2 ^ 16 → opcode_of code ≡ Some opcode → AreDwords d
    → HasFields (bytes_of first d) opcode cid d
bytes_have first code cid opcode d is_first byte half is_opcode fit =
    let entry = bytes_of first d in
    let lowest : slice_index entry 0 ≡ code = byte_is 0 first ∙ omega arith in
    let high : identifier_of entry ≡ cid = little_from-bytes 2 2 first (drop 4 entry) ∙ omega arith in
    record {
      code = ap opcode_of lowest ∙ is_opcode;
      second_byte = little_from-bytes 1 1 first (drop 2 entry) ∙ omega arith;
      namespace = little_number-reads_back 4 1 (drop 8 entry) (omega arith);
      identifier = high;
      pointers = refl;
      cdw10 = little_number-reads_back 4 d.cdw10 (drop 44 entry) (omega (arith, fit.cdw10));
      cdw11 = little_number-reads_back 4 d.cdw11 (drop 48 entry) (omega (arith, fit.cdw11));
      cdw12 = little_number-reads_back 4 d.cdw12 (drop 52 entry) (omega (arith, fit.cdw12));
      cdw13 = little_number-reads_back 4 d.cdw13 (drop 56 entry) (omega (arith, fit.cdw13));
      cdw14 = little_number-reads_back 4 d.cdw14 (drop 60 entry) (omega (arith, fit.cdw14));
      cdw15 = little_number-reads_back 4 d.cdw15 [] (omega (arith, fit.cdw15));
      starting_lba = two_again d.cdw10 d.cdw11 (drop 48 entry) fit.cdw10 fit.cdw11;
      destination = two_again d.cdw14 d.cdw15 [] fit.cdw14 fit.cdw15;
      low_half = little_from-bytes 2 0 d.cdw12 (drop 50 entry) ∙ omega arith;
      third_byte = byte_is 2 d.cdw12;
      first_of_13 = byte_is 0 d.cdw13 ∙ omega arith;
      second_of_13 = byte_is 1 d.cdw13;
      third_of_13 = byte_is 2 d.cdw13;
    }

pub dwords_have : (entry : List ℕ) (first code cid : ℕ) (opcode : Opcode) (d : CommandDwords) → entry ≡ bytes_of first d → first ≡ code + cid * 2 ^ 16 → code < 2 ^ 8 → cid < 2 ^ 16 → opcode_of code ≡ Some opcode → AreDwords d
    → HasFields entry opcode cid d
dwords_have entry first code cid opcode d is is_first byte half is_opcode fit =
    subst (λ (e : List ℕ). HasFields e opcode cid d) (sym is) (bytes_have first code cid opcode d is_first byte half is_opcode fit)
