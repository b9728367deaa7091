use Rattle.image_store.proofs.ImageFields.{inside_seen}
use Rattle.image_store.proofs.ReplacedZones.{fits_seen}
use Rattle.image_store.proofs.image.Image.set_state.Goals as goal

pub set_state-requires-clause-inside : goal.set_state-requires-clause-inside
set_state-requires-clause-inside c =
    let fields = c.self.inside in
    rw c.deref_mut.ensures.value (inside_seen fields.geometry fields.zones.items fields.blocks.items c.args.zone c.args.self.now c.self.view_is c.requires.inside)

pub set_state-requires-clause-fits : goal.set_state-requires-clause-fits
set_state-requires-clause-fits c =
    let fields = c.self.inside in
    let inside = inside_seen fields.geometry fields.zones.items fields.blocks.items c.args.zone c.args.self.now c.self.view_is c.requires.inside in
    rw c.deref_mut.ensures.value (fits_seen fields.geometry fields.zones.items fields.blocks.items c.args.zone c.args.self.now c.args.to c.self.view_is inside c.requires.fits)
