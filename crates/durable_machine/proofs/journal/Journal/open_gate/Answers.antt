use Rattle.std.proofs.Common.{length, arith}
use Rattle.durable_machine.proofs.Staged.{gate_written, is_settled, staged_gate_there, staged_gate_whole}
use Rattle.durable_machine.proofs.journal.Journal.open_gate.Goals as goal

pub write_durably-requires-clause-within : goal.write_durably-requires-clause-within
write_durably-requires-clause-within g c =
    let staged = c.requires.staged in
    omega (arith, staged_gate_there staged.front staged.batches staged.staged c.args.self.now.gate c.args.next _ staged.rests)

pub write_durably-requires-clause-whole : goal.write_durably-requires-clause-whole
write_durably-requires-clause-whole g c =
    let staged = c.requires.staged in
    (staged_gate_whole staged.front staged.batches staged.staged c.args.self.now.gate c.args.next _ staged.rests, omega (arith, c.open_sector.ensures.size))

pub returns-in_err-write_durably-clause-any_moment : goal.returns-in_err-write_durably-clause-any_moment
returns-in_err-write_durably-clause-any_moment g c = λ front before staged rests.
    gate_written front before staged c.args.self.now.gate c.args.next _ rests (length c.open_sector.result) _ c.open_sector.ensures.size c.write_durably.ensures.any_moment

pub returns-clause-any_moment : goal.returns-clause-any_moment
returns-clause-any_moment g c = λ front before staged rests.
    gate_written front before staged c.args.self.now.gate c.args.next _ rests (length c.open_sector.result) _ c.open_sector.ensures.size c.write_durably.ensures.any_moment

pub returns-clause-acknowledged : goal.returns-clause-acknowledged
returns-clause-acknowledged g c = λ front before staged rests.
    is_settled front before staged c.args.self.now.gate c.args.next _ rests c.open_sector.result c.open_sector.ensures _ c.in_ok-write_durably.ensures.written c.in_ok-write_durably.ensures.durable
