use Rattle.durable_machine.proofs.in_file.InFileStore.commit.Goals as goal

pub commit-requires-clause-settled : goal.commit-requires-clause-settled
commit-requires-clause-settled g c =
    let but = c.requires.kept.1 in
    record { front = but.durable.front; batches = but.durable.batches; rests = but.durable.rests }

pub commit-requires-clause-spelled : goal.commit-requires-clause-spelled
commit-requires-clause-spelled g c =
    let but = c.requires.kept.1 in
    record { events = but.events; sized = but.sized; are = but.are_spelled }
