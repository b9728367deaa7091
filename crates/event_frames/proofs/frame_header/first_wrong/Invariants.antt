use Rattle.std.proofs.Common.{ℕ, ◌<◌}
use Rattle.event_frames.specs.Streams.{IsAllowed}
use Rattle.event_frames.proofs.frame_header.first_wrong.Given as goal

abbrev pub invariant-loop-place : goal.invariant-loop-place
invariant-loop-place l = (k : ℕ) → k < l.place → IsAllowed l.bytes k
