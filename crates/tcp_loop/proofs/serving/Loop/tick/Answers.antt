use Rattle.std.proofs.Common.{arith, refl, true}
use Rattle.tcp_loop.proofs.Phasing.{rests}
use Rattle.tcp_loop.proofs.Fairness.{grown_same, to_closes}
use Rattle.tcp_loop.proofs.serving.Loop.tick.Goals as goal

pub returns-then-tell-clause-keeps : goal.returns-then-tell-clause-keeps
returns-then-tell-clause-keeps g c = λ opened begun trace h.
    let is_told = c.tell.ensures.told c.if-tell.true in
    c.tick.ensures.keeps _ _ _ c.tell.ensures.last is_told (λ few. omega (arith, is_told, few)) opened begun trace h

pub returns-else-tell-clause-keeps : goal.returns-else-tell-clause-keeps
returns-else-tell-clause-keeps g c =
    let same = c.tell.ensures.none c.if-tell.false in
    rw same.0 (λ opened begun trace h. rests g.T.KeptTarget.means _ _ _ same.1 opened begun trace h)

pub returns-then-tell-clause-fair : goal.returns-then-tell-clause-fair
returns-then-tell-clause-fair g c = λ o trace f. to_closes g.T.KeptTarget.means g.T.KeptTarget.free o trace _ _ _ _ true (c.tick.ensures.grows o) (λ was. refl) f

pub returns-else-tell-clause-fair : goal.returns-else-tell-clause-fair
returns-else-tell-clause-fair g c = λ o trace f. to_closes g.T.KeptTarget.means g.T.KeptTarget.free o trace _ _ _ _ c.args.self.now.hosts.accepts (grown_same g.T.KeptTarget.means g.T.KeptTarget.free o _ _ refl) (λ was. was) f
