use Rattle.std.proofs.Common.{◌≡◌, drop}
use Rattle.image_text.specs.Streams.{IsBegun}
use Rattle.image_text.specs.Text.{zone_rows}
use Rattle.image_text.proofs.save.write_zone_rows.Given as goal

abbrev pub invariant-loop-zone : goal.invariant-loop-zone
invariant-loop-zone g l = record {
  begun : g.W.Sink.tells → IsBegun (g.W.Sink.taken l.initial.sink) (g.W.Sink.taken l.sink) (zone_rows l.zones) (zone_rows (drop l.zone-index l.zones));
  count : g.W.Sink.failures l.sink ≡ g.W.Sink.failures l.initial.sink;
}
