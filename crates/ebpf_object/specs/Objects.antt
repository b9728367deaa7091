-- What an object is, and what is told of bytes that are none.
use Rattle.std.specs.Prelude.{◌≡◌, ◌<◌, ℕ, List, Option, None, Some, if◌then◌else◌}
use Rattle.ebpf_object.specs.declared.fault.ObjectFault.{ObjectFault}
use Rattle.ebpf_object.specs.declared.fault.ObjectFault.TheVariants.{Header, NoSymbols, Section, Symbol, Relocation}
use Rattle.ebpf_object.specs.declared.fault.RelocationFault.{RelocationFault}
use Rattle.ebpf_object.specs.declared.fault.SectionFault.{SectionFault}
use Rattle.ebpf_object.specs.declared.section.SectionKind.{SectionKind}
use Rattle.ebpf_object.specs.declared.section.SectionKind.TheVariants.{Relocations}
use Rattle.ebpf_object.specs.Faults.{header_fault, relocation_fault, section_fault, symbol_fault}
use Rattle.ebpf_object.specs.First.{IsFirst, NoneHas}
use Rattle.ebpf_object.specs.Header.{section_table}
use Rattle.ebpf_object.specs.Names.{name_in}
use Rattle.ebpf_object.specs.Relocations.{relocation_count}
use Rattle.ebpf_object.specs.Sections.{IsIn, contents, is_symbols, section_at}
use Rattle.ebpf_object.specs.Symbols.{symbol_at, symbol_count}

-- how many sections there are
abbrev pub section_count : List ℕ → ℕ
section_count bytes = (section_table bytes).count

-- is the section with this number a symbol table?
abbrev pub symbol_table_at : List ℕ → ℕ → Option ℕ
symbol_table_at bytes number = if is_symbols (section_at bytes number).kind then Some number else None

-- the object's symbol table is its first one (the gABI has at most one)
abbrev pub IsSymbolTable : List ℕ → ℕ → Type 0
IsSymbolTable bytes number = IsFirst (symbol_table_at bytes) (section_count bytes) number number

-- how many relocations a section of this kind has, which takes so many
abbrev pub relocations_of : SectionKind → ℕ → ℕ
relocations_of Relocations count = count
relocations_of _ count = 0

-- how many relocations the section with this number has
abbrev pub relocations_in : List ℕ → ℕ → ℕ
relocations_in bytes number = let at = section_at bytes number in relocations_of at.kind (relocation_count at)

-- the faults of the relocations that the section with this number has, with symbols of this symbol table
abbrev pub faults_in : List ℕ → ℕ → ℕ → ℕ → Option RelocationFault
faults_in bytes symbols number = relocation_fault bytes (section_at bytes symbols) (section_at bytes number)

-- no relocation of the sections below a number has a fault
abbrev pub NoRelocationHas : List ℕ → ℕ → ℕ → Type 0
NoRelocationHas bytes symbols count =
    (section : ℕ) → section < count → NoneHas (faults_in bytes symbols section) (relocations_in bytes section)

-- the first relocation with a fault, by its section and by its number in that
pub record IsFirstRelocation (bytes : List ℕ) (symbols section number : ℕ) (fault : RelocationFault) : Type 0 where
  pub within : section < section_count bytes
  pub before : NoRelocationHas bytes symbols section
  pub here : IsFirst (faults_in bytes symbols section) (relocations_in bytes section) number fault

-- the first section with a fault, where the symbol table is the section with this number
abbrev pub IsFirstSection : List ℕ → ℕ → ℕ → SectionFault → Type 0
IsFirstSection bytes symbols number fault =
    IsSymbolTable bytes symbols × IsFirst (section_fault bytes symbols) (section_count bytes) number fault

-- bytes whose header and sections have no fault; the symbol table is the section with this number
pub record AreSections (bytes : List ℕ) (symbols : ℕ) : Type 0 where
  pub header : header_fault bytes ≡ None
  pub is : IsSymbolTable bytes symbols
  pub sections : NoneHas (section_fault bytes symbols) (section_count bytes)

-- bytes whose symbols have no fault either
pub record AreSymbols (bytes : List ℕ) (symbols : ℕ) : Type 0 where
  pub sections_are : AreSections bytes symbols
  pub none : NoneHas (symbol_fault bytes (section_at bytes symbols)) (symbol_count (section_at bytes symbols))

-- the bytes of an object: nothing in them has a fault
pub record IsObject (bytes : List ℕ) (symbols : ℕ) : Type 0 where
  pub symbols_are : AreSymbols bytes symbols
  pub relocations : NoRelocationHas bytes symbols (section_count bytes)

-- What is told of bytes: the first fault of the header, else of the sections, else of the symbols, else of the relocations.
abbrev pub IsTold : List ℕ → ObjectFault → Type 0
IsTold bytes (Header fault) = header_fault bytes ≡ Some fault
IsTold bytes NoSymbols = (header_fault bytes ≡ None) × NoneHas (symbol_table_at bytes) (section_count bytes)
IsTold bytes (Section number fault) =
    (symbols : ℕ) × (header_fault bytes ≡ None) × IsFirstSection bytes symbols number fault
IsTold bytes (Symbol number fault) =
    (symbols : ℕ) × AreSections bytes symbols
    × IsFirst (symbol_fault bytes (section_at bytes symbols)) (symbol_count (section_at bytes symbols)) number fault
IsTold bytes (Relocation section number fault) =
    (symbols : ℕ) × AreSymbols bytes symbols × IsFirstRelocation bytes symbols section number fault

-- ---- what an object has

-- no byte of the file is in two sections (gABI, chapter 4, Sections)
abbrev pub AreApart : List ℕ → Type 0
AreApart bytes =
    (byte a b : ℕ) → a < section_count bytes → b < section_count bytes → IsIn byte (section_at bytes a) → IsIn byte (section_at bytes b)
    → a ≡ b

-- the name of the section with this number
abbrev pub section_name : List ℕ → ℕ → List ℕ
section_name bytes number = name_in (contents bytes (section_at bytes (section_table bytes).names)) (section_at bytes number).name

-- the name of the symbol with this number, where the symbol table is this section
abbrev pub symbol_name : List ℕ → ℕ → ℕ → List ℕ
symbol_name bytes symbols number =
    let table = section_at bytes symbols in name_in (contents bytes (section_at bytes table.link)) (symbol_at bytes table number).name
