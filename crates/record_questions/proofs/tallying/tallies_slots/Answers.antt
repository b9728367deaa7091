use Rattle.record_questions.proofs.Loops.{all_counted}
use Rattle.record_questions.proofs.tallying.tallies_slots.Goals as goal

pub returns : goal.returns
returns c =
    all_counted c.args.tallies.now c.loop-tally.slots c.loop-tally.tally-index c.loop-tally-test.false c.loop-tally.invariant.0 c.loop-tally.invariant.1
