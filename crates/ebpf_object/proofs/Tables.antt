-- What is known of the tables of an object whose sections have no fault.
use Rattle.std.proofs.Common.{◌≡◌, ℕ, ◌+◌, ◌<◌, ◌≤◌, Bool, true, false, cond, List, length, None, Some, nat_lt, refl, ap, arith, subst}
use Rattle.std.proofs.lemmas.Bool.{ltb-true}
use Rattle.common_definitions.specs.Checks.{demand}
use Rattle.common_definitions.proofs.Proved as proved
use Rattle.common_definitions.proofs.Proved.{demanded}
use Rattle.ebpf_object.specs.declared.fault.SymbolFault.TheVariants as symbols
use Rattle.ebpf_object.specs.declared.section.Section.{Section}
use Rattle.ebpf_object.specs.declared.section.SectionKind.{SectionKind}
use Rattle.ebpf_object.specs.declared.section.SectionKind.TheVariants.{Relocations, SymbolTable}
use Rattle.ebpf_object.specs.declared.symbol.Place.{Place}
use Rattle.ebpf_object.specs.declared.symbol.Place.TheVariants as places
use Rattle.ebpf_object.specs.declared.symbol.Symbol.{Symbol}
use Rattle.ebpf_object.specs.Faults.{inside_checks, place_fault, relocation_checks, relocation_fault, section_fault, symbol_fault}
use Rattle.ebpf_object.specs.Objects.{AreSections, relocations_in, relocations_of, section_count}
use Rattle.ebpf_object.specs.Relocations.{relocation_at, relocation_count}
use Rattle.ebpf_object.specs.Sections.{has_contents, is_symbols, section_at}
use Rattle.ebpf_object.specs.Symbols.{symbol_at, symbol_count}
use Rattle.ebpf_object.proofs.Passed as passed

-- what a test lets through has passed it
let_through : (test : Bool) (n m : ℕ) → cond test (Some n) None ≡ Some m → test ≡ true
let_through true n m e = refl
let_through false n m e = absurd cc

-- the kind that is a symbol table's
of_symbols : (kind : SectionKind) → is_symbols kind ≡ true → kind ≡ SymbolTable
of_symbols SymbolTable e = refl
of_symbols _ e = absurd cc

module _ (bytes : List ℕ) (symbols : ℕ) (are : AreSections bytes symbols) where
  abbrev table : Section
  table = section_at bytes symbols

  kind_is : table.kind ≡ SymbolTable
  kind_is = of_symbols table.kind (let_through (is_symbols table.kind) symbols symbols are.is.has)

  -- the symbol table lies in the file,
  pub table_inside : table.offset + table.size ≤ length bytes
  table_inside = passed.ends_inside bytes symbols symbols (are.sections symbols are.is.within) (ap has_contents kind_is)

  -- and so does the section with the names of its symbols
  pub strings_there : table.link < section_count bytes
  strings_there = passed.strings_there bytes symbols symbols (are.sections symbols are.is.within) kind_is

-- the checks that a symbol in a section passed
of_place : (bytes : List ℕ) (symbol : Symbol) (place : Place) (section : ℕ) → place_fault bytes symbol place ≡ None → place ≡ places.Section section
    → section < section_count bytes
of_place bytes symbol (places.Section number) section e is =
    let here : number < section_count bytes = ltb-true _ _ (demanded _ _ (proved.passed (inside_checks bytes symbol number) 0 e)) in
    let same : number ≡ section = cc in
    subst (λ (n : ℕ). n < section_count bytes) same here
of_place bytes symbol _ section e is = absurd cc

-- a symbol in a section is in one that is there
pub section_there : (bytes : List ℕ) (table : Section) (number section : ℕ) → symbol_fault bytes table number ≡ None
    → (symbol_at bytes table number).place ≡ places.Section section → section < section_count bytes
section_there bytes table number section none is =
    let symbol = symbol_at bytes table number in
    of_place bytes symbol symbol.place section
    (passed.neither (demand (nat_lt symbol.name (section_at bytes table.link).size) symbols.Name) (place_fault bytes symbol symbol.place) none).1 is

-- the symbol of a relocation is there
pub symbol_there : (bytes : List ℕ) (table at : Section) (number : ℕ) → relocation_fault bytes table at number ≡ None
    → (relocation_at bytes at number).symbol < symbol_count table
symbol_there bytes table at number none =
    ltb-true _ _ (demanded _ _ (proved.passed (relocation_checks bytes table at.info (relocation_at bytes at number)) 0 none))

-- a section that has relocations is one of them
of_relocations : (kind : SectionKind) (count number : ℕ) → number < relocations_of kind count → (kind ≡ Relocations) × (number < count)
of_relocations Relocations count number h = (refl, h)
of_relocations _ count number h = absurd (omega (arith, h))

-- and it lies in the file
pub relocations_inside : (bytes : List ℕ) (symbols section number : ℕ) → section_fault bytes symbols section ≡ None → number < relocations_in bytes section
    → ((section_at bytes section).offset + (section_at bytes section).size ≤ length bytes) × (number < relocation_count (section_at bytes section))
relocations_inside bytes symbols section number none h =
    let at = section_at bytes section in
    let is = of_relocations at.kind (relocation_count at) number h in
    (passed.ends_inside bytes symbols section none (ap has_contents is.0), is.1)
