use Rattle.std.proofs.Common.{ap, ◌∙◌}
use Rattle.tcp_device.specs.State.{ServedState}
use Rattle.tcp_device.proofs.Beginning.{begun_in_file, if_ok, settled_parts}
use Rattle.tcp_device.proofs.loop_serving.begin_in_file.Goals as goal

pub returns-clause-holds : goal.returns-clause-holds
returns-clause-holds c =
    let file = c.args.keeper.events.journal.file in
    let p = settled_parts file c.requires.settled in
    if_ok c.new.result _ _ c.new.ensures.begins
    (λ l so. begun_in_file _ _ _ _ c.of-target.result c.args.served file c.of-target.ensures.state c.of-target.ensures.file
    (c.of-target.ensures.covers c.requires.none p.1 p.0) so)

pub returns-clause-fair : goal.returns-clause-fair
returns-clause-fair c =
    if_ok c.new.result _ _ c.new.ensures.fair
    (λ l so o none. so o (λ place low. ap (λ (s : ServedState). o.is_there place s) c.of-target.ensures.state ∙ none place low))
