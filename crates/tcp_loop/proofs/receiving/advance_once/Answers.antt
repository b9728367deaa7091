use Rattle.std.proofs.Common.{◌≡◌, ◌-◌, ℕ, List, arith, drop, length, length-drop, subst, take, take_all, ap, refl}
use Rattle.tcp_loop.specs.Deeds.{Received, Served}
use Rattle.tcp_loop.proofs.Holding.{attended, received_and_same, received_and_served}
use Rattle.tcp_loop.proofs.Fairness.{grown_by, grown_same, grown_two}
use Rattle.tcp_loop.proofs.receiving.advance_once.Goals as goal

-- all from a place on
rest_of : (n : ℕ) (l : List ℕ) → take (length l - n) (drop n l) ≡ drop n l
rest_of n l =
    let long : length (drop n l) ≡ length l - n = length-drop n l in
    take_all (length l - n) (drop n l) (omega (arith, long))

pub returns-then-served-clause-takes : goal.returns-then-served-clause-takes
returns-then-served-clause-takes g c = λ begun so.
    let did = subst (λ (l : List ℕ). g.T.KeptTarget.means.does (Received c.args.number l c.receive-count.result)
    (g.T.KeptTarget.at c.args.target.now).state (g.T.KeptTarget.at c.receive-count.new.self).state)
    (rest_of c.args.done.taken c.args.piece.now) c.receive-count.ensures.done in
    received_and_served g.T.KeptTarget.means c.args.number c.args.done.taken c.receive-count.result c.args.piece.now
    begun _ _ _ so did c.receive-count.ensures.file c.in-Ok.ensures.done c.in-Ok.ensures.file

pub returns-else-served-clause-takes : goal.returns-else-served-clause-takes
returns-else-served-clause-takes g c = λ begun so.
    let did = subst (λ (l : List ℕ). g.T.KeptTarget.means.does (Received c.args.number l c.receive-count.result)
    (g.T.KeptTarget.at c.args.target.now).state (g.T.KeptTarget.at c.receive-count.new.self).state)
    (rest_of c.args.done.taken c.args.piece.now) c.receive-count.ensures.done in
    received_and_served g.T.KeptTarget.means c.args.number c.args.done.taken c.receive-count.result c.args.piece.now
    begun _ _ _ so did c.receive-count.ensures.file c.in-Ok.ensures.done c.in-Ok.ensures.file

pub returns-in-Err-clause-takes : goal.returns-in-Err-clause-takes
returns-in-Err-clause-takes g c = λ begun so.
    let did = subst (λ (l : List ℕ). g.T.KeptTarget.means.does (Received c.args.number l c.receive-count.result)
    (g.T.KeptTarget.at c.args.target.now).state (g.T.KeptTarget.at c.receive-count.new.self).state)
    (rest_of c.args.done.taken c.args.piece.now) c.receive-count.ensures.done in
    received_and_same g.T.KeptTarget.means c.args.number c.args.done.taken c.receive-count.result c.args.piece.now
    begun _ _ _ so did c.receive-count.ensures.file c.in-Err.ensures.refused

pub returns-then-served-clause-attends : goal.returns-then-served-clause-attends
returns-then-served-clause-attends g c = λ well.
    let did = subst (λ (l : List ℕ). g.T.KeptTarget.means.does (Received c.args.number l c.receive-count.result)
    (g.T.KeptTarget.at c.args.target.now).state (g.T.KeptTarget.at c.receive-count.new.self).state)
    (rest_of c.args.done.taken c.args.piece.now) c.receive-count.ensures.done in
    attended g.T.KeptTarget.means c.args.number c.args.done.taken c.receive-count.result c.args.piece.now
    _ _ _ c.requires.number did c.receive-count.ensures.file c.in-Ok.ensures.done c.in-Ok.ensures.file

pub returns-then-served-clause-grows : goal.returns-then-served-clause-grows
returns-then-served-clause-grows g c = λ o.
    grown_two g.T.KeptTarget.means g.T.KeptTarget.free o _ _ _
    (grown_by g.T.KeptTarget.means g.T.KeptTarget.free o (Received c.args.number _ c.receive-count.result) _ _ c.receive-count.ensures.done (λ q. refl) (λ q b. refl))
    (grown_by g.T.KeptTarget.means g.T.KeptTarget.free o (Served c.args.number) _ _ c.in-Ok.ensures.done (λ q. refl) (λ q b. refl))

pub returns-else-served-clause-attends : goal.returns-else-served-clause-attends
returns-else-served-clause-attends g c = λ well.
    let did = subst (λ (l : List ℕ). g.T.KeptTarget.means.does (Received c.args.number l c.receive-count.result)
    (g.T.KeptTarget.at c.args.target.now).state (g.T.KeptTarget.at c.receive-count.new.self).state)
    (rest_of c.args.done.taken c.args.piece.now) c.receive-count.ensures.done in
    attended g.T.KeptTarget.means c.args.number c.args.done.taken c.receive-count.result c.args.piece.now
    _ _ _ c.requires.number did c.receive-count.ensures.file c.in-Ok.ensures.done c.in-Ok.ensures.file

pub returns-else-served-clause-grows : goal.returns-else-served-clause-grows
returns-else-served-clause-grows g c = λ o.
    grown_two g.T.KeptTarget.means g.T.KeptTarget.free o _ _ _
    (grown_by g.T.KeptTarget.means g.T.KeptTarget.free o (Received c.args.number _ c.receive-count.result) _ _ c.receive-count.ensures.done (λ q. refl) (λ q b. refl))
    (grown_by g.T.KeptTarget.means g.T.KeptTarget.free o (Served c.args.number) _ _ c.in-Ok.ensures.done (λ q. refl) (λ q b. refl))

pub returns-in-Err-clause-grows : goal.returns-in-Err-clause-grows
returns-in-Err-clause-grows g c = λ o.
    grown_two g.T.KeptTarget.means g.T.KeptTarget.free o _ _ _
    (grown_by g.T.KeptTarget.means g.T.KeptTarget.free o (Received c.args.number _ c.receive-count.result) _ _ c.receive-count.ensures.done (λ q. refl) (λ q b. refl))
    (grown_same g.T.KeptTarget.means g.T.KeptTarget.free o _ _ (ap (λ k. k.state) c.in-Err.ensures.refused))
