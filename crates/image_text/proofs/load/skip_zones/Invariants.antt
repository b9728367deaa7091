use Rattle.std.proofs.Common.{◌≡◌, drop}
use Rattle.image_text.specs.steps.LoadStages.{blocks_after}
use Rattle.image_text.proofs.load.skip_zones.Given as goal

abbrev pub invariant-loop-zone : goal.invariant-loop-zone
invariant-loop-zone g l = record {
  after : g.R.Source.tells → blocks_after l.fn.geometry.block l.zones (g.R.Source.rest l.initial.source) ≡ blocks_after l.fn.geometry.block (drop l.zone-index l.zones) (g.R.Source.rest l.source);
  count : g.R.Source.failures l.source ≡ g.R.Source.failures l.initial.source;
}
