-- Section headers (gABI, chapter 4, Sections): 64 bytes each.
use Rattle.std.specs.Prelude.{◌≡◌, ◌<◌, ◌≤◌, ℕ, ◌+◌, ◌-◌, ◌*◌, zero, suc, ◌==◌, ◌&&◌, ◌||◌, nat_le, nat_lt, Bool, true, false, not, List, [], length, take, drop, Option, None, Some, if◌then◌else◌}
use Rattle.std.specs.Option.{option_or}
use Rattle.common_definitions.specs.Bytes.{field}
use Rattle.ebpf_object.specs.declared.header.TheConstants.{SECTION_HEADER_BYTES}
use Rattle.ebpf_object.specs.declared.header.SectionTable.{SectionTable}
use Rattle.ebpf_object.specs.declared.section.Section.{Section}
use Rattle.ebpf_object.specs.declared.section.SectionKind.{SectionKind}
use Rattle.ebpf_object.specs.declared.section.SectionKind.TheVariants.{Null, ProgramBits, SymbolTable, StringTable, Addends, NoBits, Relocations, Other}
use Rattle.ebpf_object.specs.Header.{section_table}

-- what a section has, by its sh_type
abbrev pub section_kind : ℕ → SectionKind
section_kind number =
    if number == 0 then Null
    else if number == 1 then ProgramBits
    else if number == 2 then SymbolTable
    else if number == 3 then StringTable
    else if number == 4 then Addends
    else if number == 8 then NoBits
    else if number == 9 then Relocations
    else Other number

-- the section header at this byte
abbrev pub section_header : List ℕ → ℕ → Section
section_header bytes at = record {
  name = field bytes at 4;
  kind = section_kind (field bytes (at + 4) 4);
  flags = field bytes (at + 8) 8;
  offset = field bytes (at + 24) 8;
  size = field bytes (at + 32) 8;
  link = field bytes (at + 40) 4;
  info = field bytes (at + 44) 4;
}

-- the section with this number, by its header
abbrev pub section_at : List ℕ → ℕ → Section
section_at bytes number = section_header bytes ((section_table bytes).offset + SECTION_HEADER_BYTES * number)

-- has a section of this kind bytes in the file?
abbrev pub has_contents : SectionKind → Bool
has_contents Null = false
has_contents NoBits = false
has_contents _ = true

-- the bytes of a section
abbrev pub contents : List ℕ → Section → List ℕ
contents bytes section = if has_contents section.kind then take section.size (drop section.offset bytes) else []

-- do a section's bytes lie in the file?
abbrev pub lies_inside : List ℕ → Section → Bool
lies_inside bytes section = not (has_contents section.kind) || nat_le (section.offset + section.size) (length bytes)

-- is this byte of the file one of a section's?
pub record IsIn (byte : ℕ) (section : Section) : Type 0 where
  pub has : has_contents section.kind ≡ true
  pub from : section.offset ≤ byte
  pub below : byte < section.offset + section.size

-- have two sections a byte of the file in common? (then the greater of the two at which they begin is one)
abbrev pub overlap : Section → Section → Bool
overlap a b =
    has_contents a.kind && has_contents b.kind && nat_lt (b.offset - a.offset) a.size && nat_lt (a.offset - b.offset) b.size

-- the first section with a number below this one that has a byte in common with a section
abbrev pub first_overlap : List ℕ → Section → ℕ → Option ℕ
first_overlap bytes section zero = None
first_overlap bytes section (suc count) =
    option_or (first_overlap bytes section count) (if overlap (section_at bytes count) section then Some count else None)

-- is it a string table?
abbrev pub is_strings : SectionKind → Bool
is_strings StringTable = true
is_strings _ = false

-- is it a symbol table?
abbrev pub is_symbols : SectionKind → Bool
is_symbols SymbolTable = true
is_symbols _ = false

-- is the section with this number a string table?
abbrev pub is_string_table : List ℕ → ℕ → Bool
is_string_table bytes number = is_strings (section_at bytes number).kind

-- has the section with this number bytes in the file?
abbrev pub has_bytes : List ℕ → ℕ → Bool
has_bytes bytes number = has_contents (section_at bytes number).kind

-- the section headers are where the table says, and lie in the file
pub record HeadersAre (bytes : List ℕ) (table : SectionTable) : Type 0 where
  pub are : table ≡ section_table bytes
  pub inside : table.offset + SECTION_HEADER_BYTES * table.count ≤ length bytes
