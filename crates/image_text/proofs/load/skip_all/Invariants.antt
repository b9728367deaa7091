use Rattle.std.proofs.Common.{◌≡◌}
use Rattle.image_text.specs.steps.LoadStages.{bytes_after}
use Rattle.image_text.proofs.load.skip_all.Given as goal

abbrev pub invariant-loop-left : goal.invariant-loop-left
invariant-loop-left g l = record {
  after : g.R.Source.tells → bytes_after l.fn.count (g.R.Source.rest l.initial.source) ≡ bytes_after l.left (g.R.Source.rest l.source);
  count : g.R.Source.failures l.source ≡ g.R.Source.failures l.initial.source;
}

abbrev pub decreases-loop-left : goal.decreases-loop-left
decreases-loop-left g l = l.left
