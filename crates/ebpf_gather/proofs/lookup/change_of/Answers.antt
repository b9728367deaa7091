use Rattle.std.proofs.Common.{sym}
use Rattle.ebpf_gather.proofs.Changes.{first_changes, none_changes}
use Rattle.ebpf_gather.proofs.lookup.change_of.Goals as goal

pub returns-in-Some-clause-value : goal.returns-in-Some-clause-value
returns-in-Some-clause-value c =
    sym (first_changes c.args.object.now.bytes.now c.args.section c.args.byte c.in-Some.field-0-0 c.in-Some.field-0-1 c.in-Some.relocation c.in-Some.ensures.first)

pub returns-in-None-clause-value : goal.returns-in-None-clause-value
returns-in-None-clause-value c = sym (none_changes c.args.object.now.bytes.now c.args.section c.args.byte c.in-None.ensures.first)
