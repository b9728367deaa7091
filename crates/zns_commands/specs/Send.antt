-- Zone Management Send (ZNS 1.1, 3.4.3).
use Rattle.std.specs.Prelude.{ℕ, Bool, true, false, ◌+◌, ◌==◌, ◌&&◌, not, nat_le, nat_lt, List, [], ◌∷◌, length, map, Option, None, Result, Ok, if◌then◌else◌}
use Rattle.std.specs.List.{enumerate_from, list_any}
use Rattle.std.specs.Result.{result_err, result_unwrap_or}
use Rattle.zone_state.specs.State.{is_open, is_active}
use Rattle.zone_state.specs.Transition.{transition}
use Rattle.zone_state.specs.Zone.{CountedZone}
use Rattle.zone_state.specs.declared.action.Action.{Action}
use Rattle.zone_state.specs.declared.action.Action.TheVariants as action
use Rattle.zone_state.specs.declared.state.ZoneState.{ZoneState}
use Rattle.zone_state.specs.declared.state.ZoneState.TheVariants.{Closed, ReadOnly, Full}
use Rattle.zone_state.specs.declared.status.Status.{Status}
use Rattle.zone_state.specs.declared.status.TheConstants.Status.{INVALID_FIELD_IN_COMMAND, LBA_OUT_OF_RANGE, TOO_MANY_OPEN_ZONES, ZONE_HELD}
use Rattle.zone_resources.specs.Counts.{count_in, open_count}
use Rattle.zone_resources.specs.Holds.{refuses}
use Rattle.zone_resources.specs.declared.holds.Holds.{Holds}
use Rattle.common_definitions.specs.Checks.{demand}
use Rattle.image_store.specs.Namespace.{ZoneWithBlocks, ZonedNamespace, zone_at, counted_zones, arrived, with_state}
use Rattle.zns_commands.specs.Address.{block_total, zone_number, zone_offset}
use Rattle.zns_commands.specs.Resources.{room_for, closed}

-- the zone to be closed so that the action can be taken on one of this state, if one has to be, or why there is no room: only
-- Open takes resources
abbrev pub room_of : ZonedNamespace → Holds → Action → ZoneState → Result (Option ℕ) Status
room_of ns holds action.Open state = room_for ns holds state
room_of ns holds _ state = Ok None

-- the checks of an action on one zone, in order (the order is profile)
abbrev pub zone_checks : ZonedNamespace → Holds → ℕ → Action → List (Option Status)
zone_checks ns holds lba action =
    let z = zone_number ns lba in
    demand (nat_lt lba (block_total ns)) LBA_OUT_OF_RANGE
    ∷ demand (zone_offset ns lba == 0) INVALID_FIELD_IN_COMMAND
    ∷ demand (not (refuses holds action z)) ZONE_HELD
    ∷ result_err (transition action (zone_at ns z).state)
    ∷ result_err (room_of ns holds action (zone_at ns z).state)
    ∷ []

-- the state that the action leads to, or the same one where it is refused
abbrev pub led_to : Action → ZoneState → ZoneState
led_to action from = result_unwrap_or (transition action from) from

-- the zone that gives way to one of this state that the action opens, if one does
abbrev pub gives_way_to : ZonedNamespace → Holds → Action → ZoneState → Option ℕ
gives_way_to ns holds action state = result_unwrap_or (room_of ns holds action state) None

-- the zone comes into the state that the action leads to; the one that gives way is closed first
abbrev pub zone_effect : ZonedNamespace → Holds → ℕ → Action → ZonedNamespace
zone_effect ns holds lba action =
    let z = zone_number ns lba in
    let from = (zone_at ns z).state in
    with_state (closed ns (gives_way_to ns holds action from)) z (led_to action from)

-- does Select All take a zone of this state? (ZNS 1.1, 3.4.3)
abbrev pub takes : Action → ZoneState → Bool
takes action.Close state = is_open state
takes action.Finish state = is_active state
takes action.Open Closed = true
takes action.Open _ = false
takes action.Reset Full = true
takes action.Reset state = is_active state
takes action.Offline ReadOnly = true
takes action.Offline _ = false

-- is one of these zones, which would be taken, held against the action?
abbrev pub held_among : List CountedZone → Holds → Action → Bool
held_among zones holds action = list_any (λ p. takes action p.1.state && refuses holds action p.0) (enumerate_from 0 zones)

-- how many of these zones would be taken
abbrev pub taken_among : List CountedZone → Action → ℕ
taken_among zones action = count_in (takes action) zones

-- has each zone that would be opened an open resource? None is freed for it (profile)
abbrev pub all_fit : ZonedNamespace → Action → Bool
all_fit ns action.Open = nat_le (open_count (counted_zones ns) + taken_among (counted_zones ns) action.Open) ns.limits.open_limit
all_fit ns _ = true

-- the checks of Select All, which is all or nothing (profile); the address is ignored
abbrev pub all_checks : ZonedNamespace → Holds → Action → List (Option Status)
all_checks ns holds action =
    demand (not (held_among (counted_zones ns) holds action)) ZONE_HELD
    ∷ demand (all_fit ns action) TOO_MANY_OPEN_ZONES
    ∷ []

-- a zone, once Select All has gone over it
abbrev pub swept : Action → ZoneWithBlocks → ZoneWithBlocks
swept action zone = if takes action zone.state then arrived (led_to action zone.state) zone else zone

-- the namespace once each zone that Select All takes has moved
abbrev pub all_effect : ZonedNamespace → Action → ZonedNamespace
all_effect ns action = record ns { zones = map (swept action) ns.zones }

-- the checks, in order: the data, and those of all zones or of the one that is named
abbrev pub send_checks : ZonedNamespace → Holds → ℕ → Action → Bool → List ℕ → List (Option Status)
send_checks ns holds lba action select_all input =
    demand (length input == 0) INVALID_FIELD_IN_COMMAND
    ∷ (if select_all then all_checks ns holds action else zone_checks ns holds lba action)

-- all zones that Select All takes have moved, or the one that is named
abbrev pub send_effect : ZonedNamespace → Holds → ℕ → Action → Bool → ZonedNamespace
send_effect ns holds lba action select_all = if select_all then all_effect ns action else zone_effect ns holds lba action
