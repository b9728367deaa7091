-- What is wrong with bytes that are no eBPF object: of each part the first check that fails.
use Rattle.std.specs.Prelude.{ℕ, ◌+◌, ◌*◌, ◌%◌, ◌==◌, ◌&&◌, nat_le, nat_lt, List, [], ◌∷◌, length, slice_index, Option, None, Some, is_some, if◌then◌else◌}
use Rattle.std.specs.Option.{option_or}
use Rattle.common_definitions.specs.Bytes.{field}
use Rattle.common_definitions.specs.Checks.{demand, first_failed}
use Rattle.ebpf_object.specs.declared.fault.HeaderFault.{HeaderFault}
use Rattle.ebpf_object.specs.declared.fault.HeaderFault.TheVariants as header
use Rattle.ebpf_object.specs.declared.fault.RelocationFault.{RelocationFault}
use Rattle.ebpf_object.specs.declared.fault.RelocationFault.TheVariants as relocation
use Rattle.ebpf_object.specs.declared.fault.SectionFault.{SectionFault}
use Rattle.ebpf_object.specs.declared.fault.SectionFault.TheVariants as section
use Rattle.ebpf_object.specs.declared.fault.SymbolFault.{SymbolFault}
use Rattle.ebpf_object.specs.declared.fault.SymbolFault.TheVariants as symbol
use Rattle.ebpf_object.specs.declared.header.TheConstants.{BPF, CLASS_64, HEADER_BYTES, LITTLE_ENDIAN, MAGIC, RELOCATABLE, SECTION_HEADER_BYTES}
use Rattle.ebpf_object.specs.declared.relocation.Relocation.{Relocation}
use Rattle.ebpf_object.specs.declared.relocation.TheConstants.{RELOCATION_BYTES}
use Rattle.ebpf_object.specs.declared.section.Section.{Section}
use Rattle.ebpf_object.specs.declared.section.SectionKind.{SectionKind}
use Rattle.ebpf_object.specs.declared.section.SectionKind.TheVariants.{StringTable, SymbolTable, Addends, Relocations}
use Rattle.ebpf_object.specs.declared.symbol.Place.{Place}
use Rattle.ebpf_object.specs.declared.symbol.Place.TheVariants as places
use Rattle.ebpf_object.specs.declared.symbol.Symbol.{Symbol}
use Rattle.ebpf_object.specs.declared.symbol.TheConstants.{SYMBOL_BYTES}
use Rattle.ebpf_object.specs.Header.{section_table}
use Rattle.ebpf_object.specs.Names.{is_ended}
use Rattle.ebpf_object.specs.Relocations.{changed_bytes, relocation_at}
use Rattle.ebpf_object.specs.Sections.{contents, first_overlap, has_bytes, is_string_table, lies_inside, section_at}
use Rattle.ebpf_object.specs.Symbols.{is_whole, symbol_at, symbol_count}

-- ---- of the ELF header

-- e_ident: the magic number, the class and the encoding
abbrev pub identification_fault : List ℕ → Option HeaderFault
identification_fault bytes =
    first_failed (
    demand (field bytes 0 4 == MAGIC) header.Magic
    ∷ demand (slice_index bytes 4 == CLASS_64) header.Class
    ∷ demand (slice_index bytes 5 == LITTLE_ENDIAN) header.Encoding
    ∷ [])

-- e_type and e_machine
abbrev pub file_fault : List ℕ → Option HeaderFault
file_fault bytes =
    first_failed (demand (field bytes 16 2 == RELOCATABLE) header.Type ∷ demand (field bytes 18 2 == BPF) header.Machine ∷ [])

-- e_shentsize, and the section headers themselves, which lie in the file; among the sections is the string table with their names
abbrev pub table_checks : List ℕ → List (Option HeaderFault)
table_checks bytes =
    let table = section_table bytes in
    demand (field bytes 58 2 == SECTION_HEADER_BYTES) header.HeaderSize
    ∷ demand (nat_le (table.offset + SECTION_HEADER_BYTES * table.count) (length bytes)) header.Outside
    ∷ demand (nat_lt table.names table.count && is_string_table bytes table.names) header.Names
    ∷ []

-- the first that fails
abbrev pub table_fault : List ℕ → Option HeaderFault
table_fault bytes = first_failed (table_checks bytes)

-- the first fault of the header
abbrev pub header_fault : List ℕ → Option HeaderFault
header_fault bytes =
    if nat_lt (length bytes) HEADER_BYTES then Some header.Short
    else option_or (option_or (identification_fault bytes) (file_fault bytes)) (table_fault bytes)

-- ---- of a section

-- of a section of any kind: its bytes lie in the file, and its name begins among the names of sections
abbrev pub any_section_checks : List ℕ → Section → List (Option SectionFault)
any_section_checks bytes at =
    demand (lies_inside bytes at) section.Outside
    ∷ demand (nat_lt at.name (section_at bytes (section_table bytes).names).size) section.Name
    ∷ []

-- the first that fails
abbrev pub any_section_fault : List ℕ → Section → Option SectionFault
any_section_fault bytes at = first_failed (any_section_checks bytes at)

-- of a section that has bytes in common with this one of a lower number
abbrev pub told_overlap : Option ℕ → Option SectionFault
told_overlap None = None
told_overlap (Some other) = Some (section.Overlap other)

-- of a symbol table: it has whole entries, whose names are in a string table
abbrev pub symbol_table_checks : List ℕ → Section → List (Option SectionFault)
symbol_table_checks bytes at =
    demand (at.size % SYMBOL_BYTES == 0) section.Entries
    ∷ demand (nat_lt at.link (section_table bytes).count && is_string_table bytes at.link) section.Strings
    ∷ []

-- of a section of relocations: it has whole entries, with symbols of the object's symbol table, of a section that has bytes
abbrev pub relocations_checks : List ℕ → ℕ → Section → List (Option SectionFault)
relocations_checks bytes symbols at =
    demand (at.size % RELOCATION_BYTES == 0) section.Entries
    ∷ demand (at.link == symbols) section.Symbols
    ∷ demand (nat_lt at.info (section_table bytes).count && has_bytes bytes at.info) section.Target
    ∷ []

-- of a section by its kind: a string table ends with a 0, and there are no relocations with addends
abbrev pub kind_fault : List ℕ → ℕ → Section → SectionKind → Option SectionFault
kind_fault bytes symbols at StringTable = demand (is_ended (contents bytes at)) section.Unended
kind_fault bytes symbols at SymbolTable = first_failed (symbol_table_checks bytes at)
kind_fault bytes symbols at Relocations = first_failed (relocations_checks bytes symbols at)
kind_fault bytes symbols at Addends = Some section.Addends
kind_fault bytes symbols at _ = None

-- the first fault of the section with this number, where the symbol table has that number
abbrev pub section_fault : List ℕ → ℕ → ℕ → Option SectionFault
section_fault bytes symbols number =
    let at = section_at bytes number in
    option_or (any_section_fault bytes at) (option_or (told_overlap (first_overlap bytes at number)) (kind_fault bytes symbols at at.kind))

-- ---- of a symbol

-- of a symbol in a section: that is there, the symbol lies in it, and a function is whole instructions
abbrev pub inside_checks : List ℕ → Symbol → ℕ → List (Option SymbolFault)
inside_checks bytes of number =
    demand (nat_lt number (section_table bytes).count) symbol.Section
    ∷ demand (nat_le (of.value + of.size) (section_at bytes number).size) symbol.Outside
    ∷ demand (is_whole of (section_at bytes number).kind) symbol.Function
    ∷ []

-- of a symbol by where it is
abbrev pub place_fault : List ℕ → Symbol → Place → Option SymbolFault
place_fault bytes of (places.Section number) = first_failed (inside_checks bytes of number)
place_fault bytes of _ = None

-- the first fault of the symbol with this number of a symbol table
abbrev pub symbol_fault : List ℕ → Section → ℕ → Option SymbolFault
symbol_fault bytes table number =
    let of = symbol_at bytes table number in
    option_or (demand (nat_lt of.name (section_at bytes table.link).size) symbol.Name) (place_fault bytes of of.place)

-- ---- of a relocation

-- of a relocation of the section with this number: its symbol is there, eBPF has its type, and what it changes lies in that section
abbrev pub relocation_checks : List ℕ → Section → ℕ → Relocation → List (Option RelocationFault)
relocation_checks bytes table target of =
    demand (nat_lt of.symbol (symbol_count table)) relocation.Symbol
    ∷ demand (is_some of.kind) relocation.Type
    ∷ demand (nat_le (of.offset + changed_bytes of.kind) (section_at bytes target).size) relocation.Outside
    ∷ []

-- the first fault of the relocation with this number of a section of them, with symbols of this symbol table
abbrev pub relocation_fault : List ℕ → Section → Section → ℕ → Option RelocationFault
relocation_fault bytes table at number = first_failed (relocation_checks bytes table at.info (relocation_at bytes at number))
