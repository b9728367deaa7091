use Rattle.std.proofs.Common.{◌+◌, ◌*◌, ◌^◌, ◌<◌, arith}
use Rattle.std.proofs.Math.Facts.{Fits-of_lt}
use Rattle.image_store.proofs.ImageFields.{part_fits, part_seen}
use Rattle.image_store.proofs.image_fields.blocks.Goals as goal

pub overflow_add-start : goal.overflow_add-start
overflow_add-start c =
    let g = c.args.geometry in
    let fits = part_fits g c.args.zones.now c.args.blocks.now c.args.zone c.args.first c.args.count c.requires.flat c.requires.inside c.requires.written in
    let small : c.args.zone * (g.capacity * g.block) + c.args.first * g.block < 2 ^ 64 = omega (arith, fits, c.requires.flat.room, c.requires.flat.shape.room) in
    rw (c.zone_room.ensures, c.bytes-block.ensures.value, c.block.ensures.value) (Fits-of_lt small)

pub part-requires : goal.part-requires
part-requires c =
    rw (c.zone_room.ensures, c.bytes-block.ensures.value, c.block.ensures.value) (part_fits c.args.geometry c.args.zones.now c.args.blocks.now c.args.zone c.args.first c.args.count c.requires.flat c.requires.inside c.requires.written)

pub returns-clause-value : goal.returns-clause-value
returns-clause-value c =
    rw (c.part.ensures.value, c.zone_room.ensures, c.bytes-block.ensures.value, c.block.ensures.value) (part_seen c.args.geometry c.args.zones.now c.args.blocks.now c.args.zone c.args.first c.args.count c.requires.inside c.requires.written)
