use Rattle.image_store.proofs.ImageFields.{empty_seen}
use Rattle.image_store.proofs.image.Image.empty.Goals as goal

pub returns : goal.returns
returns c =
    let zones = c.in_ok-zones.ensures.items_if_clones_equal (λ y e. e) in
    rw (zones, c.zones.ensures, c.empty_zone-zone.ensures, c.capacity.ensures) (empty_seen c.args.geometry c.in_ok-vec.field-0.items)
