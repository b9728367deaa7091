-- Data that is referred to is in a section that is there.
use Rattle.std.proofs.Common.{◌≡◌, ℕ, ◌<◌, ◌+◌, ◌%◌, ◌==◌, nat_le, Bool, true, false, List, [], ◌∷◌, refl}
use Rattle.std.proofs.lemmas.Bool.{leb-true}
use Rattle.std.specs.Prelude.{IfOk}
use Rattle.common_definitions.specs.Checks.{demand, first_failed, unless_failed}
use Rattle.ebpf_gather.specs.declared.fault.ReferenceFault.TheVariants as faults
use Rattle.ebpf_gather.specs.declared.reference.Reference.TheVariants as references
use Rattle.ebpf_gather.specs.References.{LiesWithin, address, is_data}
use Rattle.ebpf_object.specs.Objects.{section_count}
use Rattle.ebpf_object.specs.Sections.{section_at}

module _ (bytes : List ℕ) (number byte : ℕ) (there : number < section_count bytes) where
  lies : (has kept within : Bool) → nat_le byte (section_at bytes number).size ≡ within
      → IfOk (unless_failed (first_failed (demand has faults.NoData ∷ demand kept faults.Writable ∷ demand within faults.Outside ∷ [])) (references.Data number byte))
      (λ found. LiesWithin bytes found)
  lies false kept within e = tt
  lies true false within e = tt
  lies true true false e = tt
  lies true true true e = (there, leb-true byte (section_at bytes number).size e)

-- what an address is of lies in a section that is there
pub address_lies : (bytes : List ℕ) (number value more : ℕ) → number < section_count bytes
    → IfOk (address (section_at bytes number) number value more) (λ found. LiesWithin bytes found)
address_lies bytes number value more there =
    let section = section_at bytes number in
    lies bytes number (value + more) there (is_data section.kind) (section.flags % 2 == 0) (nat_le (value + more) section.size) refl
