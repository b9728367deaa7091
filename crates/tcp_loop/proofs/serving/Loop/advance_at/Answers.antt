use Rattle.std.proofs.Common.{◌<◌, ℕ, List, length, refl, rules, subst}
use Rattle.tcp_loop.specs.Holding.{Attends, Takes}
use Rattle.tcp_loop.proofs.Holding.{advanced, attends_at}
use Rattle.tcp_loop.proofs.Fairness.{begins_grown}
use Rattle.tcp_loop.proofs.serving.Loop.advance_at.Goals as goal

pub returns-clause-keeps : goal.returns-clause-keeps
returns-clause-keeps g c =
    let within : c.args.place < length c.args.self.now.incoming.items = search rules in
    let takes = subst (λ (l : List ℕ). Takes g.T.KeptTarget.means c.args.place l c.advance-done.result.taken
    (g.T.KeptTarget.at c.args.self.now.target) (g.T.KeptTarget.at c.advance-done.new.target)) c.rest_at.ensures c.advance-done.ensures.takes in
    rw c.take_at.ensures (advanced g.T.KeptTarget.means c.args.place c.advance-done.result.taken _ _ _ _ _ within refl takes)

pub returns-clause-attends : goal.returns-clause-attends
returns-clause-attends g c = λ well.
    let within : c.args.place < length c.args.self.now.incoming.items = search rules in
    let attends = subst (λ (l : List ℕ). Attends g.T.KeptTarget.means c.args.place l 0 c.advance-done.result.taken
    (g.T.KeptTarget.at c.args.self.now.target) (g.T.KeptTarget.at c.advance-done.new.target)) c.rest_at.ensures (c.advance-done.ensures.attends well) in
    rw c.take_at.ensures (attends_at g.T.KeptTarget.means c.args.place c.advance-done.result.taken _ _ _ _ _ within refl attends)

pub returns-clause-fair : goal.returns-clause-fair
returns-clause-fair g c = λ o trace f.
    begins_grown g.T.KeptTarget.means g.T.KeptTarget.free o trace _ _ _ _ _ (c.advance-done.ensures.grows o) f
