use Rattle.std.proofs.Common.{◌≡◌, ◌+◌, ◌<◌, ◌^◌, length}
use Rattle.common_definitions.specs.Readings.{with_front}
use Rattle.emit_append.specs.Unpacking.{output_block_at, frame_length, record_bytes}
use Rattle.emit_append.proofs.unpacking.read_block.Given as goal

abbrev pub invariant-loop-length : goal.invariant-loop-length
invariant-loop-length l = record {
  read : with_front (record_bytes l.records.items) (output_block_at l.byte l.rest) ≡ with_front (record_bytes l.initial.records.items) (output_block_at l.at l.block);
  front : l.length ≡ frame_length l.rest;
  small : l.length < 2 ^ 16;
  bytes : l.byte + length l.rest ≡ l.at + length l.block;
}

abbrev pub decreases-loop-length : goal.decreases-loop-length
decreases-loop-length l = length l.rest
