use Rattle.std.proofs.Common.{◌≡◌, ◌≤◌, length}
use Rattle.image_text.specs.SameText.{IsSameSoFar}
use Rattle.image_text.proofs.same_text.compare_bytes.Given as goal

abbrev pub invariant-loop-rest : goal.invariant-loop-rest
invariant-loop-rest g l = record {
  same : g.R.Source.tells → IsSameSoFar (g.R.Source.rest l.initial.source) (g.R.Source.rest l.source) l.bytes l.rest;
  room : 1 ≤ length l.piece;
  count : g.R.Source.failures l.source ≡ g.R.Source.failures l.initial.source;
}

abbrev pub decreases-loop-rest : goal.decreases-loop-rest
decreases-loop-rest g l = length l.rest
