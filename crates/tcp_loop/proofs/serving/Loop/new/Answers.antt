use Rattle.std.proofs.Common.{rules, sym, []}
use Rattle.tcp_loop.proofs.Holding.{begins_with}
use Rattle.tcp_loop.proofs.Fairness.{fair_at_first}
use Rattle.tcp_loop.proofs.serving.Loop.new.Goals as goal

pub returns-clause-begins : goal.returns-clause-begins
returns-clause-begins g c = rw (sym c.in_ok-made.ensures.target) (λ covers. c.make_first_calls.ensures.keeps _ _ _
    (begins_with g.T.KeptTarget.means _ _ _ c.in_ok-made.ensures.incoming (search rules) c.in_ok-made.ensures.clock.0 c.in_ok-made.ensures.clock.1 covers))

pub returns-clause-fair : goal.returns-clause-fair
returns-clause-fair g c = λ o none. c.make_first_calls.ensures.fair o []
    (fair_at_first g.T.KeptTarget.means g.T.KeptTarget.free o _ _ _ c.in_ok-made.ensures.hosts (rw c.in_ok-made.ensures.target none))

pub returns-clause-ends : goal.returns-clause-ends
returns-clause-ends g c = c.make_first_calls.ensures.ends
