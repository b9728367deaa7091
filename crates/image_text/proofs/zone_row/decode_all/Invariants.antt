use Rattle.std.proofs.Common.{◌≡◌, ◌*◌, ◌-◌, length}
use Rattle.common_definitions.specs.Readings.{with_front}
use Rattle.image_text.specs.Reading.{zones_in}
use Rattle.image_text.proofs.zone_row.decode_all.Given as goal

abbrev pub invariant-loop-zone : goal.invariant-loop-zone
invariant-loop-zone l = record {
  read : with_front l.zones.items (zones_in l.zone l.capacity (l.count - l.zone) l.rest) ≡ zones_in 0 l.capacity l.count l.bytes;
  left : length l.rest ≡ (l.count - l.zone) * 8;
}
