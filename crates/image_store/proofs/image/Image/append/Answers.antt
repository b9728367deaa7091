use Rattle.image_store.proofs.ImageFields.{inside_seen, allowed_seen}
use Rattle.image_store.proofs.image.Image.append.Goals as goal

pub append-requires-clause-inside : goal.append-requires-clause-inside
append-requires-clause-inside c =
    let fields = c.self.inside in
    rw c.deref_mut.ensures.value (inside_seen fields.geometry fields.zones.items fields.blocks.items c.args.zone c.args.self.now c.self.view_is c.requires.inside)

pub append-requires-clause-allowed : goal.append-requires-clause-allowed
append-requires-clause-allowed c =
    let fields = c.self.inside in
    let inside = inside_seen fields.geometry fields.zones.items fields.blocks.items c.args.zone c.args.self.now c.self.view_is c.requires.inside in
    rw c.deref_mut.ensures.value (allowed_seen fields.geometry fields.zones.items fields.blocks.items c.args.zone c.args.bytes.now c.args.self.now c.self.view_is c.self.invariant.flat inside c.requires.allowed)
