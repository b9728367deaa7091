use Rattle.ebpf_object.specs.Sections.{section_at}
use Rattle.ebpf_object.proofs.Tables.{relocations_inside, symbol_there}
use Rattle.ebpf_object.proofs.parts.relocation_of.Goals as goal

pub relocation_at-requires-clause-inside : goal.relocation_at-requires-clause-inside
relocation_at-requires-clause-inside c =
    let sections = c.requires.object.symbols_are.sections_are.sections in
    rw c.section_at.ensures (relocations_inside c.args.bytes.now c.args.symbols c.args.section c.args.number (sections c.args.section c.requires.section_there) c.requires.there).0

pub relocation_at-requires-clause-there : goal.relocation_at-requires-clause-there
relocation_at-requires-clause-there c =
    let sections = c.requires.object.symbols_are.sections_are.sections in
    rw c.section_at.ensures (relocations_inside c.args.bytes.now c.args.symbols c.args.section c.args.number (sections c.args.section c.requires.section_there) c.requires.there).1

pub returns-clause-symbol : goal.returns-clause-symbol
returns-clause-symbol c =
    let bytes = c.args.bytes.now in
    let table = section_at bytes c.args.symbols in
    rw (c.relocation_at.ensures, c.section_at.ensures)
    (symbol_there bytes table (section_at bytes c.args.section) c.args.number (c.requires.object.relocations c.args.section c.requires.section_there c.args.number c.requires.there))
