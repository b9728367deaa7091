use Rattle.std.proofs.Common.{◌≡◌, ◌≤◌, drop, length}
use Rattle.image_text.specs.SameText.{IsSameSoFar}
use Rattle.image_text.specs.Text.{zone_rows}
use Rattle.image_text.proofs.same_text.compare_zone_rows.Given as goal

abbrev pub invariant-loop-zone : goal.invariant-loop-zone
invariant-loop-zone g l = record {
  same : g.R.Source.tells → IsSameSoFar (g.R.Source.rest l.initial.source) (g.R.Source.rest l.source) (zone_rows l.zones) (zone_rows (drop l.zone-index l.zones));
  room : 1 ≤ length l.piece;
  count : g.R.Source.failures l.source ≡ g.R.Source.failures l.initial.source;
}
