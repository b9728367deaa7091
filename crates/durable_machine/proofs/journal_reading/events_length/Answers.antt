use Rattle.durable_machine.proofs.FirstEvents.{one_more_read}
use Rattle.durable_machine.proofs.journal_reading.events_length.Goals as goal

pub loop-behind-preserved : goal.loop-behind-preserved
loop-behind-preserved c =
    let so_far = c.loop-behind.invariant in
    (_, one_more_read so_far.0 _ _ _ _ so_far.1 c.in-Some.ensures)
