-- What holds of a command that passed its checks, as its effect asks for it.
use Rattle.std.specs.Prelude.{ℕ, ◌≢◌, ◌<◌, length, Option, Some, Ok, ◌*◌, List, ◌≡◌, ◌≤◌}
use Rattle.std.specs.Option.{ForSome}
use Rattle.zone_state.specs.declared.state.ZoneState.TheVariants.{Closed}
use Rattle.zone_state.specs.Zone.{IsZone, write_check, kept}
use Rattle.image_store.specs.Namespace.{ZonedNamespace, zone_at, with_state, IsWithinLimits}
use Rattle.image_store.specs.Blocks.{block_count}
use Rattle.zns_commands.specs.Resources.{closed}
use Rattle.zns_commands.specs.declared.write.WritePlan.{WritePlan}
use Rattle.zns_commands.specs.Address.{counted_zone_at}
use Rattle.zns_commands.specs.steps.Plans.{written_by}
use Rattle.zns_commands.specs.declared.send.ZonePlan.{ZonePlan}

-- what holds of the zone that gives way, if one does: it is another than the one that wants room, and
-- can be Closed, which the limits allow
pub record CanGiveWay (ns : ZonedNamespace) (zone : ℕ) (closing : Option ℕ) : Type 0 where
  pub inside : ForSome closing (λ z. z < length ns.zones)
  pub fits : ForSome closing (λ z. IsZone Closed (length (zone_at ns z).blocks) ns.capacity)
  pub other : closing ≢ Some zone
  pub limits : IsWithinLimits (closed ns closing)

-- what holds of a write to a zone that isn't refused
pub record CanWrite (ns : ZonedNamespace) (at blocks : ℕ) (plan : WritePlan) : Type 0 where
  pub inside : plan.zone < length ns.zones
  pub some : 1 ≤ blocks
  pub fits : write_check (counted_zone_at ns plan.zone) at blocks ≡ Ok tt
  pub gives : CanGiveWay ns plan.zone plan.closing
  pub limits : (bytes : List ℕ) → IsWithinLimits (written_by ns plan bytes)

-- the data is whole blocks, as many as the command says
pub record IsWhole (ns : ZonedNamespace) (blocks : ℕ) (input : List ℕ) : Type 0 where
  pub count : block_count ns.block input ≡ blocks
  pub size : length input ≡ blocks * ns.block

-- what holds where an action on a zone isn't refused
pub record CanMove (ns : ZonedNamespace) (plan : ZonePlan) : Type 0 where
  pub inside : plan.zone < length ns.zones
  pub fits : IsZone plan.to (kept plan.to (length (zone_at ns plan.zone).blocks)) ns.capacity
  pub gives : CanGiveWay ns plan.zone plan.closing
  pub limits : IsWithinLimits (with_state (closed ns plan.closing) plan.zone plan.to)
