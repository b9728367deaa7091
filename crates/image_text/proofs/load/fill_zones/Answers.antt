use Rattle.std.proofs.Common.{◌∙◌}
use Rattle.std.proofs.lemmas.List.{get_or_default}
use Rattle.image_store.specs.ImageInMemory.{no_counted_zone}
use Rattle.image_text.specs.Reading.{blocks_in}
use Rattle.image_text.proofs.BlocksRead.{room_holds, goes_on, flat_same}
use Rattle.image_text.proofs.load.fill_zones.Goals as goal

pub fill_part-requires-clause-inside : goal.fill_part-requires-clause-inside
fill_part-requires-clause-inside g c =
    let l = c.loop-number in
    let read = c.index-zones-number.is ∙ get_or_default c.args.zones.now l.number c.index-zones-number.result no_counted_zone c.loop-number-test.true in
    let holds = room_holds c.args.geometry c.args.zones.now l.blocks l.number l.invariant.flat c.loop-number-test.true in
    rw (c.zone_room-room.ensures, c.written.ensures, c.bytes-block.ensures.value, c.block.ensures.value, read) holds

pub loop-number-preserved : goal.loop-number-preserved
loop-number-preserved g c =
    let l = c.loop-number in
    let s = c.args.geometry in
    let zs = c.args.zones.now in
    let read = c.index-zones-number.is ∙ get_or_default zs l.number c.index-zones-number.result no_counted_zone c.loop-number-test.true in
    record {
      read = λ told.
          let got = rw (c.zone_room-room.ensures, c.written.ensures, c.bytes-block.ensures.value, c.block.ensures.value, read) at c.in_ok-fill_part.ensures.bytes told in
          goes_on s zs l.blocks c.fill_part.new.to (g.R.Source.rest l.source) (g.R.Source.rest c.fill_part.new.source) l.number (blocks_in s.block zs (g.R.Source.rest c.args.source.now)) l.invariant.flat c.loop-number-test.true got (l.invariant.read told);
      flat = flat_same s zs l.blocks c.fill_part.new.to l.invariant.flat c.fill_part.auto.to;
      count = c.in_ok-fill_part.ensures.failures ∙ l.invariant.count;
    }
