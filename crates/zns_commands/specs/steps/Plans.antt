-- The plans that the code makes of a write and of an action on one zone, before it carries them out.
use Rattle.std.specs.Prelude.{ℕ, List, Option, None, Result, Ok}
use Rattle.std.specs.Option.{option_map_or}
use Rattle.std.specs.Result.{result_unwrap_or}
use Rattle.zone_state.specs.declared.action.Action.{Action}
use Rattle.zone_state.specs.declared.status.Status.{Status}
use Rattle.zone_resources.specs.Admission.{admission}
use Rattle.zone_resources.specs.declared.admission.Wanted.{Wanted}
use Rattle.zone_resources.specs.declared.holds.Holds.{Holds}
use Rattle.image_store.specs.Namespace.{ZonedNamespace, zone_at, counted_zones, appended}
use Rattle.zns_commands.specs.Address.{zone_number}
use Rattle.zns_commands.specs.Resources.{gives_way, closed}
use Rattle.zns_commands.specs.Send.{gives_way_to, led_to}
use Rattle.zns_commands.specs.declared.send.ZonePlan.{ZonePlan}
use Rattle.zns_commands.specs.declared.write.WritePlan.{WritePlan}

-- the zone that is closed for what is wanted, if one is, or why there is no room
abbrev pub room_by : ZonedNamespace → Holds → Option Wanted → Result (Option ℕ) Status
room_by ns holds wanted = option_map_or (admission (counted_zones ns) ns.limits holds) wanted (Ok None)

-- the zone that is closed, if one is
abbrev pub closing_of : Result (Option ℕ) Status → Option ℕ
closing_of room = result_unwrap_or room None

-- a write to a zone that isn't refused, with the zone that gives way to it
abbrev pub write_plan : ZonedNamespace → Holds → ℕ → WritePlan
write_plan ns holds z = record { zone = z; closing = gives_way ns holds (zone_at ns z).state }

-- the namespace once the plan of a write is carried out
abbrev pub written_by : ZonedNamespace → WritePlan → List ℕ → ZonedNamespace
written_by ns plan input = appended (closed ns plan.closing) plan.zone input

-- an action on one zone that isn't refused
abbrev pub zone_plan : ZonedNamespace → Holds → ℕ → Action → ZonePlan
zone_plan ns holds lba action =
    let z = zone_number ns lba in
    let from = (zone_at ns z).state in
    record { zone = z; to = led_to action from; closing = gives_way_to ns holds action from }
