use Rattle.std.proofs.Common.{sym, ◌∙◌}
use Rattle.image_store.proofs.ImageFields.{zones_counted}
use Rattle.image_store.proofs.image.Image.zones.Goals as goal

pub returns : goal.returns
returns c =
    let fields = c.self.inside in
    rw (← c.self.view_is) (c.deref.ensures.value ∙ sym (zones_counted fields.geometry.block fields.geometry.capacity fields.zones.items fields.blocks.items c.self.invariant.flat.capacities))
