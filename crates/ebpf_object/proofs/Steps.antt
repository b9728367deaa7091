-- The steps of the code that find a fault or a change.
use Rattle.std.proofs.Common.{◌≡◌, ◌≢◌, ◌∙◌, ℕ, ◌+◌, ◌≤◌, ◌<◌, ◌==◌, nat_le, nat_lt, Bool, true, false, cond, List, [], ◌∷◌, is_some, Option, None, Some, refl, ap, arith, subst, sym}
use Rattle.std.specs.Option.{option_or}
use Rattle.std.proofs.lemmas.Bool.{eq-eqb, lt-ltb, ne_eqb}
use Rattle.std.proofs.lemmas.Bool.Decides.{nat_tests}
use Rattle.common_definitions.specs.Checks.{demand, first_failed}
use Rattle.ebpf_object.specs.declared.fault.RelocationFault.{RelocationFault}
use Rattle.ebpf_object.specs.declared.fault.RelocationFault.TheVariants as faults
use Rattle.ebpf_object.specs.declared.relocation.Relocation.{Relocation}
use Rattle.ebpf_object.specs.declared.relocation.RelocationKind.{RelocationKind}
use Rattle.ebpf_object.specs.declared.section.Section.{Section}
use Rattle.ebpf_object.specs.declared.symbol.Symbol.{Symbol}
use Rattle.ebpf_object.specs.Faults.{relocation_checks}
use Rattle.ebpf_object.specs.Relocations.{changed_bytes, width}
use Rattle.ebpf_object.specs.Sections.{section_at}
use Rattle.ebpf_object.specs.Symbols.{symbol_count}

taken : (test : Bool) {A : Type 0} (a b : A) → test ≡ true → a ≡ cond test a b
taken true a b e = refl
taken false a b e = absurd cc

left : (test : Bool) {A : Type 0} (a b : A) → test ≡ false → b ≡ cond test a b
left false a b e = refl
left true a b e = absurd cc

-- a relocation of what begins at a byte is a change there
pub changes_there : (found of : Relocation) (byte : ℕ) → found ≡ of → found.offset ≡ byte
    → Some found ≡ cond (of.offset == byte) (Some of) None
changes_there found of byte is there = rw (← is) (taken (found.offset == byte) (Some found) None (eq-eqb found.offset byte there))

-- and one of something else is none
pub changes_elsewhere : (found of : Relocation) (byte : ℕ) → found ≡ of → found.offset ≢ byte
    → None ≡ cond (of.offset == byte) (Some of) None
changes_elsewhere found of byte is there = rw (← is) (left (found.offset == byte) (Some found) None (ne_eqb found.offset byte there))

not_below : (a b : ℕ) → b ≤ a → nat_lt a b ≡ false
not_below a b h = grind (arith, nat_tests)

fails : {F : Type 0} (test : Bool) (fault : F) (others : Option F) → test ≡ false → Some fault ≡ option_or (demand test fault) others
fails false fault others e = refl
fails true fault others e = absurd cc

passes : {F : Type 0} (test : Bool) (fault : F) (others : Option F) → test ≡ true → others ≡ option_or (demand test fault) others
passes true fault others e = refl
passes false fault others e = absurd cc

alone : {F : Type 0} (fault : Option F) → fault ≡ option_or fault None
alone None = refl
alone (Some fault) = refl

-- a name at or above a number has the fault
pub above : {F : Type 0} (symbol of : Symbol) (at names : Section) (fault : F) (others : Option F) → symbol ≡ of → at ≡ names → at.size ≤ symbol.name
    → Some fault ≡ option_or (demand (nat_lt of.name names.size) fault) others
above symbol of at names fault others p q h = rw (← p, ← q) (fails (nat_lt symbol.name at.size) fault others (not_below _ _ h))

-- and one below it has what the other checks find
pub below : {F : Type 0} (symbol of : Symbol) (at names : Section) (fault : F) (others : Option F) → symbol ≡ of → at ≡ names → symbol.name < at.size
    → others ≡ option_or (demand (nat_lt of.name names.size) fault) others
below symbol of at names fault others p q h = rw (← p, ← q) (passes (nat_lt symbol.name at.size) fault others (lt-ltb _ _ h))

module _ (bytes : List ℕ) (table : Section) (target : ℕ) (relocation : Relocation) where
  abbrev first : Option RelocationFault
  first = first_failed (relocation_checks bytes table target relocation)

  -- a symbol that is not there is the first fault,
  pub no_symbol : symbol_count table ≤ relocation.symbol → Some faults.Symbol ≡ first
  no_symbol h = fails (nat_lt relocation.symbol (symbol_count table)) faults.Symbol _ (not_below _ _ h)

  named : relocation.symbol < symbol_count table
      → first_failed (demand (is_some relocation.kind) faults.Type ∷ demand (nat_le (relocation.offset + changed_bytes relocation.kind) (section_at bytes target).size) faults.Outside ∷ []) ≡ first
  named h = passes (nat_lt relocation.symbol (symbol_count table)) faults.Symbol _ (lt-ltb _ _ h)

  -- then a type that eBPF has not,
  pub no_type : relocation.symbol < symbol_count table → relocation.kind ≡ None → Some faults.Type ≡ first
  no_type h none = fails (is_some relocation.kind) faults.Type _ (ap is_some none) ∙ named h

  -- and then bytes behind the section
  pub of_place : (kind : RelocationKind) (bytes_changed : ℕ) (at : Section) (inside : Bool) → relocation.symbol < symbol_count table → relocation.kind ≡ Some kind
      → bytes_changed ≡ width kind → at ≡ section_at bytes target → inside ≡ nat_le (relocation.offset + bytes_changed) at.size → demand inside faults.Outside ≡ first
  of_place kind bytes_changed at inside h is changed at_is test =
      let changes : bytes_changed ≡ changed_bytes relocation.kind = changed ∙ ap changed_bytes (sym is) in
      let same : inside ≡ nat_le (relocation.offset + changed_bytes relocation.kind) (section_at bytes target).size
      = test ∙ ap (λ (n : ℕ). nat_le (relocation.offset + n) at.size) changes ∙ ap (λ (s : Section). nat_le (relocation.offset + changed_bytes relocation.kind) s.size) at_is in
      ap (λ (b : Bool). demand b faults.Outside) same ∙ alone _ ∙ passes (is_some relocation.kind) faults.Type _ (ap is_some is) ∙ named h
