use Rattle.std.proofs.Common.{◌≡◌, ◌∙◌, true, false, ap, sym}
use Rattle.ebpf_object.specs.declared.section.Section.{Section}
use Rattle.ebpf_object.specs.Sections.{overlap, section_at}
use Rattle.ebpf_object.proofs.Apart.{found_stays, none_up_to}
use Rattle.ebpf_object.proofs.section.first_overlap.Goals as goal

pub returns-then-overlap : goal.returns-then-overlap
returns-then-overlap c =
    let bytes = c.args.bytes.now in
    let here : overlap (section_at bytes c.loop-number.number) c.args.section ≡ true
    = ap (λ (s : Section). overlap s c.args.section) (sym c.section_at.ensures) ∙ sym c.overlap.ensures ∙ c.if-overlap.true in
    sym (found_stays bytes c.args.section c.loop-number.number c.args.count c.loop-number.invariant here c.loop-number-test.true)

pub loop-number-preserved : goal.loop-number-preserved
loop-number-preserved c =
    let bytes = c.args.bytes.now in
    let number = c.loop-number.number in
    let here : overlap (section_at bytes number) c.args.section ≡ false
    = ap (λ (s : Section). overlap s c.args.section) (sym c.section_at.ensures) ∙ sym c.overlap.ensures ∙ c.if-overlap.false in
    none_up_to bytes c.args.section number c.loop-number.invariant here
