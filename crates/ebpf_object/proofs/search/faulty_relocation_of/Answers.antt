use Rattle.std.proofs.Common.{◌≡◌, ◌∙◌, ℕ, ap, sym, subst}
use Rattle.std.specs.Prelude.{MatchOption}
use Rattle.ebpf_object.specs.declared.section.Section.{Section}
use Rattle.ebpf_object.specs.declared.section.SectionKind.{SectionKind}
use Rattle.ebpf_object.specs.declared.section.SectionKind.TheVariants.{Relocations}
use Rattle.ebpf_object.specs.Faults.{relocation_fault}
use Rattle.ebpf_object.specs.First.{IsFirst, NoneHas}
use Rattle.ebpf_object.specs.Objects.{relocations_of}
use Rattle.ebpf_object.specs.Relocations.{relocation_count}
use Rattle.ebpf_object.specs.Sections.{has_contents, section_at}
use Rattle.ebpf_object.proofs.Passed.{ends_inside, target_there}
use Rattle.ebpf_object.proofs.search.faulty_relocation_of.Goals as goal

pub faulty_relocation_in-requires-clause-inside : goal.faulty_relocation_in-requires-clause-inside
faulty_relocation_in-requires-clause-inside c =
    let is : (section_at c.args.bytes.now c.args.number).kind ≡ Relocations = ap (λ (s : Section). s.kind) (sym c.section_at-section.ensures) ∙ c.in-Relocations.is in
    rw c.section_at-section.ensures (ends_inside c.args.bytes.now c.args.symbols c.args.number c.requires.none (ap has_contents is))

pub faulty_relocation_in-requires-clause-target : goal.faulty_relocation_in-requires-clause-target
faulty_relocation_in-requires-clause-target c =
    let is : (section_at c.args.bytes.now c.args.number).kind ≡ Relocations = ap (λ (s : Section). s.kind) (sym c.section_at-section.ensures) ∙ c.in-Relocations.is in
    rw (c.section_at-section.ensures, c.requires.headers.are) (target_there c.args.bytes.now c.args.symbols c.args.number c.requires.none is)

pub returns-in-Relocations : goal.returns-in-Relocations
returns-in-Relocations c =
    let bytes = c.args.bytes.now in
    let at : Section = section_at bytes c.args.number in
    let is : at.kind ≡ Relocations = ap (λ (s : Section). s.kind) (sym c.section_at-section.ensures) ∙ c.in-Relocations.is in
    let Found : Section → Section → ℕ → Type 0
    = λ table section count. MatchOption c.faulty_relocation_in.result (NoneHas (relocation_fault bytes table section) count)
    (λ found. IsFirst (relocation_fault bytes table section) count found.0 found.1) in
    let table = section_at bytes c.args.symbols in
    let told : Found table c.section_at-section.result (relocation_count c.section_at-section.result)
    = subst (λ (t : Section). Found t c.section_at-section.result (relocation_count c.section_at-section.result)) c.section_at.ensures c.faulty_relocation_in.ensures in
    let here : Found table at (relocation_count at) = subst (λ (s : Section). Found table s (relocation_count s)) c.section_at-section.ensures told in
    subst (λ (n : ℕ). Found table at n) (sym (ap (λ (kind : SectionKind). relocations_of kind (relocation_count at)) is)) here
