use Rattle.std.proofs.Common.{◌+◌}
use Rattle.image_store.proofs.ImageFields.{inside_seen, written_seen}
use Rattle.image_store.proofs.image.Image.blocks.Goals as goal

pub blocks-requires-clause-inside : goal.blocks-requires-clause-inside
blocks-requires-clause-inside c =
    let fields = c.self.inside in
    rw c.deref.ensures.value (inside_seen fields.geometry fields.zones.items fields.blocks.items c.args.zone c.args.self.now c.self.view_is c.requires.inside)

pub blocks-requires-clause-written : goal.blocks-requires-clause-written
blocks-requires-clause-written c =
    let fields = c.self.inside in
    let inside = inside_seen fields.geometry fields.zones.items fields.blocks.items c.args.zone c.args.self.now c.self.view_is c.requires.inside in
    rw c.deref.ensures.value (written_seen fields.geometry fields.zones.items fields.blocks.items c.args.zone (c.args.first + c.args.count) c.args.self.now c.self.view_is inside c.requires.written)
