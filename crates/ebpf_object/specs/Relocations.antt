-- Relocations (gABI, chapter 4, Relocation): entries of 16 bytes. What the types of eBPF change is told by LLVM's and Linux's
-- list of them.
use Rattle.std.specs.Prelude.{ℕ, ◌+◌, ◌*◌, ◌/◌, ◌==◌, List, Option, None, Some, if◌then◌else◌}
use Rattle.common_definitions.specs.Bytes.{field}
use Rattle.ebpf_object.specs.declared.relocation.Relocation.{Relocation}
use Rattle.ebpf_object.specs.declared.relocation.RelocationKind.{RelocationKind}
use Rattle.ebpf_object.specs.declared.relocation.RelocationKind.TheVariants.{WideImmediate, Address64, Address32, Unloaded32, Call}
use Rattle.ebpf_object.specs.declared.relocation.TheConstants.{RELOCATION_BYTES}
use Rattle.ebpf_object.specs.declared.section.Section.{Section}

-- what a relocation changes, by its type's number, where eBPF has one
abbrev pub relocation_kind : ℕ → Option RelocationKind
relocation_kind number =
    if number == 1 then Some WideImmediate
    else if number == 2 then Some Address64
    else if number == 3 then Some Address32
    else if number == 4 then Some Unloaded32
    else if number == 10 then Some Call
    else None

-- the bytes of what it changes
abbrev pub width : RelocationKind → ℕ
width WideImmediate = 16
width Address64 = 8
width Address32 = 4
width Unloaded32 = 4
width Call = 8

-- the bytes that a relocation changes, where eBPF has its type
abbrev pub changed_bytes : Option RelocationKind → ℕ
changed_bytes None = 0
changed_bytes (Some kind) = width kind

-- the relocation whose entry is at this byte; r_info has the type in its lower half, and the symbol in its upper one
abbrev pub relocation_entry : List ℕ → ℕ → Relocation
relocation_entry bytes at = record {
  offset = field bytes at 8;
  kind = relocation_kind (field bytes (at + 8) 4);
  symbol = field bytes (at + 12) 4;
}

-- how many relocations a section of them has
abbrev pub relocation_count : Section → ℕ
relocation_count section = section.size / RELOCATION_BYTES

-- the relocation with this number of a section of them
abbrev pub relocation_at : List ℕ → Section → ℕ → Relocation
relocation_at bytes section number = relocation_entry bytes (section.offset + RELOCATION_BYTES * number)
