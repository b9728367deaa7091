use Rattle.std.proofs.Common.{ℕ, List}
use Rattle.tcp_loop.specs.Holding.{Keeps}
use Rattle.tcp_loop.specs.Kept.{Resting}
use Rattle.tcp_loop.specs.declared.clock.Clock.{Clock}
use Rattle.tcp_loop.specs.Orderly.{HasGrown, IsOrderly}
use Rattle.tcp_loop.proofs.turning.resume_runs.Given as goal

abbrev pub invariant-loop-run : goal.invariant-loop-run
invariant-loop-run g l =
    ((waiting : List (List ℕ)) (clock : Clock) → Keeps g.T.KeptTarget.means Resting (g.T.KeptTarget.at l.fn.target) waiting clock
    Resting (g.T.KeptTarget.at l.target) waiting clock)
    × ((o : IsOrderly g.T.KeptTarget.means g.T.KeptTarget.free)
    → HasGrown g.T.KeptTarget.means g.T.KeptTarget.free o (g.T.KeptTarget.at l.fn.target).state (g.T.KeptTarget.at l.target).state)
