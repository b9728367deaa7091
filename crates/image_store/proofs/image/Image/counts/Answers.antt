use Rattle.std.proofs.Common.{ap, sym, ◌∙◌}
use Rattle.zone_resources.specs.Counts.{counts_of}
use Rattle.image_store.proofs.ImageFields.{zones_counted}
use Rattle.image_store.proofs.image.Image.counts.Goals as goal

pub returns : goal.returns
returns c =
    let fields = c.self.inside in
    rw (← c.self.view_is) (c.self.invariant.counted ∙ ap counts_of (sym (zones_counted fields.geometry.block fields.geometry.capacity fields.zones.items fields.blocks.items c.self.invariant.flat.capacities)))
