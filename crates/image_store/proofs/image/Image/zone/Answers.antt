use Rattle.std.proofs.Common.{sym, ◌∙◌}
use Rattle.std.proofs.lemmas.List.{get_or_default}
use Rattle.image_store.specs.ImageInMemory.{no_counted_zone}
use Rattle.image_store.proofs.ImageFields.{inside_seen, counted_at}
use Rattle.image_store.proofs.image.Image.zone.Goals as goal

pub bounds-zones-zone : goal.bounds-zones-zone
bounds-zones-zone c =
    let fields = c.self.inside in
    rw c.as_slice-zones.ensures.value (inside_seen fields.geometry fields.zones.items fields.blocks.items c.args.zone c.args.self.now c.self.view_is c.requires)

pub returns : goal.returns
returns c =
    let fields = c.self.inside in
    let inside = inside_seen fields.geometry fields.zones.items fields.blocks.items c.args.zone c.args.self.now c.self.view_is c.requires in
    let read = rw c.as_slice-zones.ensures.value at c.index-zones-zone.is in
    rw (← c.self.view_is) (read ∙ (get_or_default fields.zones.items c.args.zone c.index-zones-zone.result no_counted_zone inside ∙ sym (counted_at fields.geometry fields.zones.items fields.blocks.items c.args.zone c.self.invariant.flat inside)))
