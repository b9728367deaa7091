use Rattle.ebpf_object.proofs.Passed.{lies}
use Rattle.ebpf_object.proofs.parts.section_of.Goals as goal

pub returns-clause-inside : goal.returns-clause-inside
returns-clause-inside c =
    let sections = c.requires.object.symbols_are.sections_are.sections in
    rw c.section_at.ensures (lies c.args.bytes.now c.args.symbols c.args.number (sections c.args.number c.requires.there))
