-- Zone faults (profile).
use Rattle.std.specs.Prelude.{ℕ, ◌&&◌, not, nat_lt, length, Result, Ok, Err, if◌then◌else◌}
use Rattle.zone_state.specs.declared.state.FaultState.{FaultState}
use Rattle.zone_state.specs.declared.zone.FaultRefused.{FaultRefused}
use Rattle.zone_state.specs.Zone.{fault_refusal, state_of_fault}
use Rattle.zone_resources.specs.Holds.{is_held}
use Rattle.zone_resources.specs.declared.holds.Holds.{Holds}
use Rattle.image_store.specs.Namespace.{ZonedNamespace, zone_at, with_state}

-- a fault is refused for a zone that there isn't, for a held one, and where what is lost would come
-- back
abbrev pub zone_fault_refusal : ZonedNamespace → Holds → ℕ → FaultState → Result Unit FaultRefused
zone_fault_refusal ns holds z fault =
    if nat_lt z (length ns.zones) && not (is_held holds z) then fault_refusal fault (zone_at ns z).state else Err (record {})

-- the namespace after a fault that is taken or refused
abbrev pub faulted_by : Result Unit FaultRefused → ZonedNamespace → ℕ → FaultState → ZonedNamespace
faulted_by (Ok done) ns z fault = with_state ns z (state_of_fault fault)
faulted_by (Err refused) ns z fault = ns

-- the namespace after a fault: a zone that has one keeps its blocks where it can still be read
abbrev pub faulted : ZonedNamespace → Holds → ℕ → FaultState → ZonedNamespace
faulted ns holds z fault = faulted_by (zone_fault_refusal ns holds z fault) ns z fault
