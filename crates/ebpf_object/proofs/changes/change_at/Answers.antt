use Rattle.ebpf_object.specs.Relocations.{relocation_at}
use Rattle.ebpf_object.specs.Sections.{section_at}
use Rattle.ebpf_object.proofs.Steps.{changes_elsewhere, changes_there}
use Rattle.ebpf_object.proofs.changes.change_at.Goals as goal

pub relocation-relocation-requires-clause-section :
    goal.relocation-relocation-requires-clause-section
relocation-relocation-requires-clause-section c = c.requires.there

pub relocation-relocation-requires-clause-there : goal.relocation-relocation-requires-clause-there
relocation-relocation-requires-clause-there c = c.requires.number

pub returns-then-relocation-byte-clause-value : goal.returns-then-relocation-byte-clause-value
returns-then-relocation-byte-clause-value c =
    let bytes = c.args.object.now.bytes.now in
    changes_there c.relocation-relocation.result (relocation_at bytes (section_at bytes c.args.of) c.args.number) c.args.byte c.relocation-relocation.ensures.value c.if-relocation-byte.true

pub returns-then-relocation-byte-clause-symbol : goal.returns-then-relocation-byte-clause-symbol
returns-then-relocation-byte-clause-symbol c = c.relocation-relocation.ensures.symbol

pub returns-else-relocation-byte-clause-value : goal.returns-else-relocation-byte-clause-value
returns-else-relocation-byte-clause-value c =
    let bytes = c.args.object.now.bytes.now in
    changes_elsewhere c.relocation-relocation.result (relocation_at bytes (section_at bytes c.args.of) c.args.number) c.args.byte c.relocation-relocation.ensures.value c.if-relocation-byte.false
