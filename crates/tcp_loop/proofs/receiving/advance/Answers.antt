use Rattle.std.proofs.lemmas.Bool.{not-false}
use Rattle.tcp_loop.proofs.Holding.{attended_again, takes_none}
use Rattle.tcp_loop.proofs.Fairness.{grown_two}
use Rattle.tcp_loop.proofs.receiving.advance.Goals as goal

pub loop-init : goal.loop-init
loop-init g c = (
  c.advance_once-done.ensures.within,
  c.advance_once-done.ensures.takes _ (takes_none g.T.KeptTarget.means c.args.number c.args.piece.now (g.T.KeptTarget.at c.args.target.now)),
  c.advance_once-done.ensures.attends,
  c.advance_once-done.ensures.grows,
  c.advance_once-done.ensures.well,
)

pub loop-preserved : goal.loop-preserved
loop-preserved g c = (
  c.advance_once-done-in-loop.ensures.within,
  c.advance_once-done-in-loop.ensures.takes _ c.loop.invariant.1,
  λ well. attended_again g.T.KeptTarget.means c.args.number 0 _ _ c.args.piece.now _ _ _
      (c.loop.invariant.2 (c.loop.invariant.4 (not-false _ c.if-not-done.false))) (c.advance_once-done-in-loop.ensures.attends well),
  λ o. grown_two g.T.KeptTarget.means g.T.KeptTarget.free o _ _ _ (c.loop.invariant.3 o) (c.advance_once-done-in-loop.ensures.grows o),
  c.advance_once-done-in-loop.ensures.well,
)
