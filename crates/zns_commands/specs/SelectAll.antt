-- What Select All does, said by the action on one zone (ZNS 1.1, 3.4.3).
use Rattle.std.specs.Prelude.{ℕ, ◌≡◌, ◌*◌, ◌<◌, ◌≤◌, true, false, [], length, Ok}
use Rattle.zone_state.specs.Transition.{transition}
use Rattle.zone_state.specs.declared.action.Action.{Action}
use Rattle.zone_state.specs.declared.action.Action.TheVariants as action
use Rattle.zone_state.specs.declared.state.ZoneState.{ZoneState}
use Rattle.zone_state.specs.declared.status.TheConstants.Status.{SUCCESS, TOO_MANY_OPEN_ZONES, ZONE_HELD}
use Rattle.zone_resources.specs.Counts.{open_count}
use Rattle.zone_resources.specs.Holds.{refuses}
use Rattle.zone_resources.specs.declared.holds.Holds.{Holds}
use Rattle.nvme_entry.specs.declared.command.StandardCommand.TheVariants.{Send}
use Rattle.image_store.specs.Namespace.{ZonedNamespace, zone_at, counted_zones, IsNamespace}
use Rattle.zns_commands.specs.Effect.{Effect}
use Rattle.zns_commands.specs.Meaning.{meaning}
use Rattle.zns_commands.specs.Send.{takes, all_effect}

-- the action leads on from each state of the zones that Select All takes
abbrev pub TakenZonesMove : Type 0
TakenZonesMove = (action : Action) (state : ZoneState) → takes action state ≡ true → (to : ZoneState) × (transition action state ≡ Ok to)

-- an action with Select All, without data, whatever the address
abbrev pub sent_to_all : ZonedNamespace → Holds → Action → ℕ → Effect
sent_to_all ns holds action lba = meaning ns holds (Send lba action true) []

-- the action on one zone alone
abbrev pub sent_to_one : ZonedNamespace → Holds → Action → ℕ → Effect
sent_to_one ns holds action z = meaning ns holds (Send (z * ns.size) action false) []

-- what an action with Select All leaves of a zone
pub record IsLeftAsAlone (ns : ZonedNamespace) (holds : Holds) (action : Action) (lba z : ℕ) : Type 0 where
  -- where Select All takes the zone, the action on that zone alone isn't refused either, and leaves it so;
  pub alone : takes action (zone_at ns z).state ≡ true → (sent_to_one ns holds action z).status ≡ SUCCESS
  pub taken : takes action (zone_at ns z).state ≡ true
      → zone_at (sent_to_all ns holds action lba).namespace z ≡ zone_at (sent_to_one ns holds action z).namespace z
  -- any other zone is as it was
  pub other : takes action (zone_at ns z).state ≡ false → zone_at (sent_to_all ns holds action lba).namespace z ≡ zone_at ns z

-- Select All that isn't refused leaves each zone that it takes as the action on it alone does, and any other as it was
abbrev pub SelectAllIsEachAlone : Type 0
SelectAllIsEachAlone =
    (ns : ZonedNamespace) (holds : Holds) (action : Action) (lba z : ℕ) → IsNamespace ns → z < length ns.zones
    → (sent_to_all ns holds action lba).status ≡ SUCCESS → IsLeftAsAlone ns holds action lba z

-- no zone that would be taken is held against the action
abbrev pub NoneIsHeld : ZonedNamespace → Holds → Action → Type 0
NoneIsHeld ns holds action = (z : ℕ) → z < length ns.zones → takes action (zone_at ns z).state ≡ true → refuses holds action z ≡ false

-- once each zone that would be opened is open, no more are than may be; the other actions open none
abbrev pub EachHasRoom : ZonedNamespace → Action → Type 0
EachHasRoom ns action.Open = open_count (counted_zones (all_effect ns action.Open)) ≤ ns.limits.open_limit
EachHasRoom ns _ = Unit {0}

-- the status of an action with Select All
pub record HasStatus (ns : ZonedNamespace) (holds : Holds) (action : Action) (lba : ℕ) : Type 0 where
  -- a zone that would be taken and is held against the action refuses all,
  pub held : (z : ℕ) → z < length ns.zones → takes action (zone_at ns z).state ≡ true → refuses holds action z ≡ true
      → (sent_to_all ns holds action lba).status ≡ ZONE_HELD
  -- so do the limits where they leave one without room,
  pub crowded : NoneIsHeld ns holds action → ¬ EachHasRoom ns action → (sent_to_all ns holds action lba).status ≡ TOO_MANY_OPEN_ZONES
  -- and nothing else does
  pub done : NoneIsHeld ns holds action → EachHasRoom ns action → (sent_to_all ns holds action lba).status ≡ SUCCESS

-- what refuses an action with Select All
abbrev pub SelectAllIsRefusedByHoldsAndLimits : Type 0
SelectAllIsRefusedByHoldsAndLimits = (ns : ZonedNamespace) (holds : Holds) (action : Action) (lba : ℕ) → HasStatus ns holds action lba
