use Rattle.std.proofs.Common.{◌≡◌, drop}
use Rattle.image_text.specs.Streams.{IsBegun}
use Rattle.image_text.specs.Text.{blocks_text}
use Rattle.image_text.proofs.save.write_blocks.Given as goal

abbrev pub invariant-loop-zone : goal.invariant-loop-zone
invariant-loop-zone g l = record {
  begun : g.W.Sink.tells → IsBegun (g.W.Sink.taken l.initial.sink) (g.W.Sink.taken l.sink) (blocks_text l.image.zones) (blocks_text (drop l.zone l.image.zones));
  count : g.W.Sink.failures l.sink ≡ g.W.Sink.failures l.initial.sink;
}
