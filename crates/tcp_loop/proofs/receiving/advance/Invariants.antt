use Rattle.std.proofs.Common.{◌≡◌, ◌≤◌, true, false, length}
use Rattle.tcp_loop.specs.Holding.{Attends, Takes}
use Rattle.tcp_loop.specs.Orderly.{HasGrown, IsOrderly}
use Rattle.tcp_loop.proofs.receiving.advance.Given as goal

abbrev pub invariant-loop : goal.invariant-loop
invariant-loop g l =
    (l.done.taken ≤ length l.piece)
    × Takes g.T.KeptTarget.means l.number l.piece l.done.taken (g.T.KeptTarget.at l.fn.target) (g.T.KeptTarget.at l.target)
    × (l.done.failed ≡ false
    → Attends g.T.KeptTarget.means l.number l.piece 0 l.done.taken (g.T.KeptTarget.at l.fn.target) (g.T.KeptTarget.at l.target))
    × ((o : IsOrderly g.T.KeptTarget.means g.T.KeptTarget.free)
    → HasGrown g.T.KeptTarget.means g.T.KeptTarget.free o (g.T.KeptTarget.at l.fn.target).state (g.T.KeptTarget.at l.target).state)
    × (l.done.goes_on ≡ true → l.done.failed ≡ false)
