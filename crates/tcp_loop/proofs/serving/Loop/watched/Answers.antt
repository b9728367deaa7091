use Rattle.tcp_loop.proofs.Fairness.{watched_more}
use Rattle.tcp_loop.proofs.serving.Loop.watched.Goals as goal

pub loop-place-preserved : goal.loop-place-preserved
loop-place-preserved g c = record {
  below = watched_more g.T.KeptTarget.means c.args.self.now.hosts c.args.self.now.incoming.items _ _ _ _ _ _
      c.set.ensures.here c.set.ensures.others c.set-in-loop-place.ensures.here c.set-in-loop-place.ensures.others
      c.may_read.ensures.yes c.may_read.ensures.no c.may_write.ensures.yes c.may_write.ensures.no c.loop-place.invariant.below;
  accepts = c.loop-place.invariant.accepts;
}
