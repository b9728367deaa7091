use Rattle.std.proofs.Common.{◌≡◌, ◌++◌, ◌-◌, ◌≤◌, length, take}
use Rattle.image_text.proofs.load.fill.Given as goal

abbrev pub invariant-loop-at : goal.invariant-loop-at
invariant-loop-at g l = record {
  bytes : g.R.Source.tells → g.R.Source.rest l.initial.source ≡ take l.at l.to ++ g.R.Source.rest l.source;
  within : l.at ≤ length l.to;
  count : g.R.Source.failures l.source ≡ g.R.Source.failures l.initial.source;
}

abbrev pub decreases-loop-at : goal.decreases-loop-at
decreases-loop-at g l = length l.to - l.at
