use Rattle.std.proofs.Common.{◌≡◌, ◌-◌, ◌/◌, ◌≤◌, length}
use Rattle.common_definitions.specs.Readings.{with_front}
use Rattle.emit_append.specs.Unpacking.{output_blocks_at, unpacked, record_bytes}
use Rattle.emit_append.proofs.unpacking.unpack.Given as goal

abbrev pub invariant-loop-rest : goal.invariant-loop-rest
invariant-loop-rest l = record {
  read : with_front (record_bytes l.records.items) (output_blocks_at (length l.rest / l.size) l.size (length l.bytes - length l.rest) l.rest) ≡ unpacked l.fn.block l.bytes;
  within : length l.rest ≤ length l.bytes;
}

abbrev pub decreases-loop-rest : goal.decreases-loop-rest
decreases-loop-rest l = length l.rest
