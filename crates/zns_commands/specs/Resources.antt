-- The open and active resources that a command takes.
use Rattle.std.specs.Prelude.{ℕ, Option, Some, None, Result, Ok}
use Rattle.std.specs.Option.{option_map_or}
use Rattle.std.specs.Result.{result_unwrap_or}
use Rattle.zone_state.specs.declared.state.ZoneState.{ZoneState}
use Rattle.zone_state.specs.declared.state.ZoneState.TheVariants.{Closed}
use Rattle.zone_state.specs.declared.status.Status.{Status}
use Rattle.zone_resources.specs.Admission.{admission, wanted_of}
use Rattle.zone_resources.specs.declared.holds.Holds.{Holds}
use Rattle.image_store.specs.Namespace.{ZonedNamespace, with_state, counted_zones}

-- the zone that is closed to make room, so that one of this state can be open, if one has to be; or the status that refuses it
abbrev pub room_for : ZonedNamespace → Holds → ZoneState → Result (Option ℕ) Status
room_for ns holds state = option_map_or (admission (counted_zones ns) ns.limits holds) (wanted_of state) (Ok None)

-- the zone that gives way so that one of this state can be open, if one does
abbrev pub gives_way : ZonedNamespace → Holds → ZoneState → Option ℕ
gives_way ns holds state = result_unwrap_or (room_for ns holds state) None

-- the namespace once the zone that gives way, if one does, is closed
abbrev pub closed : ZonedNamespace → Option ℕ → ZonedNamespace
closed ns None = ns
closed ns (Some z) = with_state ns z Closed
