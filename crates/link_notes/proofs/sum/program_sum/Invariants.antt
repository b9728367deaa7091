use Rattle.std.proofs.Common.{◌≡◌, drop}
use Rattle.link_notes.specs.Sum.{after_bytes}
use Rattle.link_notes.proofs.sum.program_sum.Given as goal

abbrev pub invariant-loop-byte : goal.invariant-loop-byte
invariant-loop-byte l = after_bytes l.left (drop l.byte-index l.bytes) ≡ after_bytes 4294967295 l.bytes
