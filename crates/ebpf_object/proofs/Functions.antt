-- A function of an object lies in its section.
use Rattle.std.proofs.Common.{◌≡◌, ◌∙◌, ℕ, ◌+◌, ◌*◌, ◌/◌, ◌<◌, ◌≤◌, ◌==◌, ◌&&◌, ◌%◌, Bool, true, false, cond, List, [], length, take, drop, Option, None, Some, refl, ap, arith, subst, sym, length-drop, nat_lt}
use Rattle.std.proofs.lemmas.Bool.{leb-true, ltb-true}
use Rattle.std.specs.Prelude.{IfSome}
use Rattle.std.proofs.lemmas.List.{length-take}
use Rattle.common_definitions.specs.Checks.{demand}
use Rattle.common_definitions.proofs.Proved.{demanded, passed}
use Rattle.ebpf_object.specs.declared.fault.SymbolFault.TheVariants as faults
use Rattle.ebpf_object.specs.declared.section.Section.{Section}
use Rattle.ebpf_object.specs.declared.section.SectionKind.{SectionKind}
use Rattle.ebpf_object.specs.declared.section.SectionKind.TheVariants.{ProgramBits}
use Rattle.ebpf_object.specs.declared.symbol.Place.{Place}
use Rattle.ebpf_object.specs.declared.symbol.Place.TheVariants as places
use Rattle.ebpf_object.specs.declared.symbol.Symbol.{Symbol}
use Rattle.ebpf_object.specs.Faults.{inside_checks, place_fault}
use Rattle.ebpf_object.specs.Functions.{LiesIn, function_of, part_of}
use Rattle.ebpf_object.specs.Objects.{AreSymbols, section_count}
use Rattle.ebpf_object.specs.Sections.{contents, has_contents, lies_inside, section_at}
use Rattle.ebpf_object.specs.Symbols.{is_function, is_program, is_whole, symbol_at, symbol_count}
use Rattle.ebpf_object.proofs.Passed.{both, ends_inside, holds_then, neither}

-- what lies below a count that a test lets through lies below that count
pub within_all : (test : Bool) (count number : ℕ) → number < cond test count 0 → number < count
within_all true count number h = h
within_all false count number h = absurd (omega (arith, h))

of_program : (kind : SectionKind) → is_program kind ≡ true → kind ≡ ProgramBits
of_program ProgramBits e = refl
of_program _ e = absurd cc

-- a section that lies in the file has as many bytes as its header tells
length-contents : (bytes : List ℕ) (at : Section) → has_contents at.kind ≡ true → at.offset + at.size ≤ length bytes → length (contents bytes at) ≡ at.size
length-contents bytes at has inside =
    let opened : contents bytes at ≡ take at.size (drop at.offset bytes) = ap (λ (b : Bool). cond b (take at.size (drop at.offset bytes)) []) has in
    let size : length (take at.size (drop at.offset bytes)) ≡ at.size
    = omega (arith, inside, length-take at.size (drop at.offset bytes), length-drop at.offset bytes) in
    ap length opened ∙ size

module _ (bytes : List ℕ) (symbols : ℕ) (are : AreSymbols bytes symbols) where
  lies_of : (symbol : Symbol) (test : Bool) (place : Place) → is_function symbol.kind ≡ test → place_fault bytes symbol place ≡ None
      → IfSome (cond test (part_of symbol place) None) (λ f. LiesIn bytes f)
  lies_of symbol false place e none = tt
  lies_of symbol true (places.Section number) e none =
      let at : Section = section_at bytes number in
      let checks = inside_checks bytes symbol number in
      let there : number < section_count bytes = ltb-true _ _ (demanded _ _ (passed checks 0 none)) in
      let within : symbol.value + symbol.size ≤ at.size = leb-true _ _ (demanded _ _ (passed checks 1 none)) in
      let whole : is_whole symbol at.kind ≡ true = demanded _ _ (passed checks 2 none) in
      let program : at.kind ≡ ProgramBits
      = of_program at.kind (both _ _ (holds_then (is_function symbol.kind) _ whole e)).1 in
      let has : has_contents at.kind ≡ true = ap has_contents program in
      let inside = ends_inside bytes symbols number (are.sections_are.sections number there) has in
      record { there = there; inside = omega (arith, within, length-contents bytes at has inside) }
  lies_of symbol true _ e none = tt

  -- the function that a symbol stands for lies in its section
  pub functions_lie : (number : ℕ) → number < symbol_count (section_at bytes symbols)
      → IfSome (function_of (symbol_at bytes (section_at bytes symbols) number)) (λ f. LiesIn bytes f)
  functions_lie number below =
      let table = section_at bytes symbols in
      let symbol = symbol_at bytes table number in
      lies_of symbol (is_function symbol.kind) symbol.place refl
      (neither (demand (nat_lt symbol.name (section_at bytes table.link).size) faults.Name) (place_fault bytes symbol symbol.place) (are.none number below)).1
