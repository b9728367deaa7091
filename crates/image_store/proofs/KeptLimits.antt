-- The limits, of an image's zones and of the namespace that it stands for.
use Rattle.std.proofs.Common.{◌≡◌, ℕ, List, sym, subst}
use Rattle.zone_state.specs.Zone.{CountedZone}
use Rattle.zone_resources.specs.Admission.{IsWithin}
use Rattle.image_store.specs.ImageInMemory.{namespace_of, IsFlat}
use Rattle.image_store.specs.Geometry.{Shape}
use Rattle.image_store.specs.Namespace.{ZonedNamespace, IsWithinLimits}
use Rattle.image_store.proofs.ImageFields.{zones_counted}

pub within_seen : (s : Shape) (zs : List CountedZone) (xs : List ℕ) → IsFlat s zs xs → IsWithin zs s.limits → IsWithinLimits (namespace_of s zs xs)
within_seen s zs xs flat within =
    subst (λ (all : List CountedZone). IsWithin all s.limits) (sym (zones_counted s.block s.capacity zs xs flat.capacities)) within

-- the namespace that an image is to stand for tells whether its zones will be within the limits
pub limits_seen : (s : Shape) (zs : List CountedZone) (xs : List ℕ) (ns : ZonedNamespace) → IsFlat s zs xs → namespace_of s zs xs ≡ ns → IsWithinLimits ns → IsWithin zs s.limits
limits_seen s zs xs ns flat seen within =
    subst (λ (all : List CountedZone). IsWithin all s.limits) (zones_counted s.block s.capacity zs xs flat.capacities)
    (subst IsWithinLimits (sym seen) within)
