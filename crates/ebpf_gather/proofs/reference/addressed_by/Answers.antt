use Rattle.std.proofs.Common.{◌≡◌, ◌∙◌, ◌<◌, Result, ap, subst, sym}
use Rattle.std.specs.Prelude.{IfOk}
use Rattle.ebpf_gather.specs.declared.fault.ReferenceFault.{ReferenceFault}
use Rattle.ebpf_gather.specs.declared.reference.Reference.{Reference}
use Rattle.ebpf_gather.specs.References.{LiesWithin, address}
use Rattle.ebpf_gather.proofs.ReferencedData.{address_lies}
use Rattle.ebpf_object.specs.declared.section.Section.{Section}
use Rattle.ebpf_object.specs.Objects.{section_count}
use Rattle.ebpf_object.specs.Sections.{section_at}
use Rattle.ebpf_gather.proofs.reference.addressed_by.Goals as goal

pub section-requires : goal.section-requires
section-requires c = c.symbol-told.ensures.there c.in-Section.section c.in-Section.is

pub returns-in-Section-clause-inside : goal.returns-in-Section-clause-inside
returns-in-Section-clause-inside c =
    let bytes = c.args.object.now.bytes.now in
    let number = c.in-Section.section in
    let there : number < section_count bytes = c.symbol-told.ensures.there number c.in-Section.is in
    let value : c.address.result ≡ address (section_at bytes number) number c.symbol-told.result.value c.args.more
    = c.address.ensures ∙ ap (λ (s : Section). address s number c.symbol-told.result.value c.args.more) c.section.ensures.value in
    subst (λ (r : Result Reference ReferenceFault). IfOk r (λ found. LiesWithin bytes found)) (sym value)
    (address_lies bytes number c.symbol-told.result.value c.args.more there)
