use Rattle.std.proofs.Common.{◌≡◌}
use Rattle.device_meaning.specs.Judging.{judge_by}
use Rattle.device_meaning.specs.Reached.{IsReached}
use Rattle.runner.specs.Turns.{turned_on}
use Rattle.runner.proofs.turn.turns.Given as goal

abbrev pub invariant-loop-left : goal.invariant-loop-left
invariant-loop-left g l = record {
  same : turned_on l.left l.state l.fn.run ≡ turned_on l.fn.more l.fn.state l.fn.run;
  reached : IsReached (judge_by g.D.Domain.operations) l.state;
}

abbrev pub decreases-loop-left : goal.decreases-loop-left
decreases-loop-left g l = l.left
