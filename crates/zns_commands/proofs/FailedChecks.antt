-- What a check tells that fails: no success, and a status of the standards or Zone Held.
use Rattle.std.proofs.Common.{◌≡◌, ◌≢◌, ℕ, ◌+◌, ◌%◌, ◌≤◌, Bool, true, false, cond, List, [], ◌∷◌, length, Option, Some, None, Result, Ok, Err, refl, ap, inl, inr, arith}
use Rattle.std.specs.Prelude.{◌⊎◌, ◌&&◌, ◌||◌, nat_lt, nat_le, nat_eq, not, ok_or, option_map}
use Rattle.std.specs.List.{AllByRecursion}
use Rattle.std.specs.Option.{option_map_or}
use Rattle.std.specs.Result.{result_err}
use Rattle.std.proofs.lemmas.Bool.{and_parts, eqb-true, leb-true, ltb-true}
use Rattle.zone_state.specs.Transition.{transition}
use Rattle.zone_state.specs.Zone.{CountedZone, checks_of_write, write_check, write_refusal}
use Rattle.zone_state.specs.declared.action.Action.{Action}
use Rattle.zone_state.specs.declared.action.Action.TheVariants as action
use Rattle.zone_state.specs.declared.state.ZoneState.{ZoneState}
use Rattle.zone_state.specs.declared.state.ZoneState.TheVariants.{Closed, Full, Offline}
use Rattle.zone_state.specs.declared.status.Status.{Status}
use Rattle.zone_state.specs.declared.status.StatusType.{StatusType}
use Rattle.zone_state.specs.declared.status.StatusType.TheVariants.{Generic, CommandSpecific, VendorSpecific}
use Rattle.zone_state.specs.declared.status.TheConstants.Status.{SUCCESS, INVALID_FIELD_IN_COMMAND, LBA_OUT_OF_RANGE, ZONE_BOUNDARY_ERROR, ZONE_INVALID_WRITE, ZONE_HELD, TOO_MANY_OPEN_ZONES, TOO_MANY_ACTIVE_ZONES}
use Rattle.zone_resources.specs.Admission.{open_admission, zone_to_close, wanted_of}
use Rattle.zone_resources.specs.Counts.{open_count, active_count}
use Rattle.zone_resources.specs.Holds.{is_destination, refuses}
use Rattle.zone_resources.specs.declared.admission.Limits.{Limits}
use Rattle.zone_resources.specs.declared.admission.Wanted.{Wanted}
use Rattle.zone_resources.specs.declared.admission.Wanted.TheVariants.{OpenOnly, OpenAndActive}
use Rattle.zone_resources.specs.declared.holds.Holds.{Holds}
use Rattle.nvme_entry.specs.declared.command.TheConstants.{MOST_TRANSFER}
use Rattle.common_definitions.specs.Checks.{demand, first_failed, unless_failed}
use Rattle.common_definitions.proofs.Proved.{all_append}
use Rattle.image_store.specs.Namespace.{ZonedNamespace, zone_at, counted_zones}
use Rattle.zns_commands.specs.Address.{counted_zone_at, zone_number, block_total}
use Rattle.zns_commands.specs.Laws.{IsStandardStatus}
use Rattle.zns_commands.specs.Read.{read_refusal}
use Rattle.zns_commands.specs.steps.Plans.{room_by}
use Rattle.zns_commands.specs.Send.{all_checks, all_fit, held_among, room_of, zone_checks}
use Rattle.zns_commands.specs.steps.Checks.{address_check, lowest_checks, range_checks, transfer_checks, zone_write_checks}

abbrev pub is_of_standards : StatusType → Bool
is_of_standards Generic = true
is_of_standards CommandSpecific = true
is_of_standards VendorSpecific = false

abbrev pub is_standard : Status → Bool
is_standard status = is_of_standards status.kind || nat_eq status.code 0xC0

abbrev pub tells_fault : Status → Bool
tells_fault status = nat_le 1 status.code && (nat_lt status.code 256 && is_standard status)

-- a check passes, or its status is such a one
abbrev pub Fails : Option Status → Type 0
Fails check = option_map_or tells_fault check true ≡ true

-- ---- what such a status isn't, and what it is

pub no_success : (status : Status) → 1 ≤ status.code → status ≡ SUCCESS → ⊥
no_success status some is =
    let none : status.code ≡ 0 = ap (λ (s : Status). s.code) is in
    omega (arith, some, none)

pub fault_no_success : (status : Status) → tells_fault status ≡ true → status ≢ SUCCESS
fault_no_success status tells =
    no_success status (leb-true 1 status.code (and_parts (nat_le 1 status.code) (nat_lt status.code 256 && is_standard status) tells).0)

standard_by : (kind : StatusType) (code : ℕ) → (is_of_standards kind || nat_eq code 0xC0) ≡ true
    → let status : Status = record { kind = kind; code = code } in (kind ≢ VendorSpecific) ⊎ (status ≡ ZONE_HELD)
standard_by Generic code tells = inl (λ is. cc)
standard_by CommandSpecific code tells = inl (λ is. cc)
standard_by VendorSpecific code tells =
    let of : ℕ → Status = λ n. record { kind = VendorSpecific; code = n } in
    inr (ap of (eqb-true code 0xC0 tells))

pub fault_standard : (status : Status) → tells_fault status ≡ true → IsStandardStatus status
fault_standard status tells =
    let small = nat_lt status.code 256 in
    let both = and_parts small (is_standard status) (and_parts (nat_le 1 status.code) (small && is_standard status) tells).1 in
    record { code = ltb-true status.code 256 both.0; standard = standard_by status.kind status.code both.1 }

-- ---- checks, one by one

demand_fails : (test : Bool) (status : Status) → tells_fault status ≡ true → Fails (demand test status)
demand_fails true status tells = refl
demand_fails false status tells = tells

pub some_fails : (checks : List (Option Status)) → AllByRecursion Fails checks → Fails (first_failed checks)
some_fails [] all = refl
some_fails (None ∷ checks) all = some_fails checks all.1
some_fails (Some status ∷ checks) all = all.0

cond_fails : {X : Type 0} (test : Bool) (x y : Result X Status) → Fails (result_err x) → Fails (result_err y) → Fails (result_err (cond test x y))
cond_fails true x y left right = left
cond_fails false x y left right = right

unless_fails : {X : Type 0} (why : Option Status) (x : X) → Fails why → Fails (result_err (unless_failed why x))
unless_fails None x fails = fails
unless_fails (Some status) x fails = fails

refusal_fails : (state : ZoneState) → Fails (write_refusal state)
refusal_fails Full = refl
refusal_fails state = refl

write_check_fails : (z : CountedZone) (at n : ℕ) → Fails (result_err (write_check z at n))
write_check_fails z at n =
    unless_fails (first_failed (checks_of_write z at n)) tt
    (some_fails (checks_of_write z at n) (
      refusal_fails z.state,
      (
        demand_fails (nat_eq at z.written) ZONE_INVALID_WRITE refl,
        (demand_fails (nat_le (z.written + n) z.capacity) ZONE_BOUNDARY_ERROR refl, tt),
      ),
    ))

closing_fails : (found : Option ℕ) → Fails (result_err (ok_or (option_map Some found) TOO_MANY_OPEN_ZONES))
closing_fails None = refl
closing_fails (Some k) = refl

open_fails : (zones : List CountedZone) (limits : Limits) (holds : Holds) → Fails (result_err (open_admission zones limits holds))
open_fails zones limits holds =
    cond_fails (nat_lt (open_count zones) limits.open_limit) (Ok None) (ok_or (option_map Some (zone_to_close holds zones)) TOO_MANY_OPEN_ZONES)
    refl (closing_fails (zone_to_close holds zones))

wanted_fails : (ns : ZonedNamespace) (holds : Holds) (wanted : Option Wanted) → Fails (result_err (room_by ns holds wanted))
wanted_fails ns holds None = refl
wanted_fails ns holds (Some OpenOnly) = open_fails (counted_zones ns) ns.limits holds
wanted_fails ns holds (Some OpenAndActive) =
    cond_fails (nat_lt (active_count (counted_zones ns)) ns.limits.active_limit) (open_admission (counted_zones ns) ns.limits holds) (Err TOO_MANY_ACTIVE_ZONES)
    (open_fails (counted_zones ns) ns.limits holds) refl

pub read_refusal_fails : (state : ZoneState) → Fails (read_refusal state)
read_refusal_fails Offline = refl
read_refusal_fails state = refl

transition_fails : (a : Action) (state : ZoneState) → Fails (result_err (transition a state))
transition_fails action.Close Closed = refl
transition_fails action.Finish Full = refl
transition_fails action.Open Closed = refl
transition_fails action.Reset Full = refl
transition_fails action.Offline Offline = refl
transition_fails a state = refl

room_fails : (ns : ZonedNamespace) (holds : Holds) (a : Action) (state : ZoneState) → Fails (result_err (room_of ns holds a state))
room_fails ns holds action.Open state = wanted_fails ns holds (wanted_of state)
room_fails ns holds a state = refl

-- ---- lists of checks, of which those of commands are made

pub data_fails : (beside : ℕ) (input : List ℕ) → Fails (demand (nat_eq (length input) beside) INVALID_FIELD_IN_COMMAND)
data_fails beside input = demand_fails (nat_eq (length input) beside) INVALID_FIELD_IN_COMMAND refl

pub transfer_fails : (bytes beside : ℕ) (input : List ℕ) → AllByRecursion Fails (transfer_checks bytes beside input)
transfer_fails bytes beside input =
    (demand_fails (nat_le bytes MOST_TRANSFER) INVALID_FIELD_IN_COMMAND refl, (data_fails beside input, tt))

pub address_fails : (ns : ZonedNamespace) (lba : ℕ) → Fails (address_check ns lba)
address_fails ns lba = demand_fails (nat_lt lba (block_total ns)) LBA_OUT_OF_RANGE refl

pub lowest_fails : (ns : ZonedNamespace) (lba : ℕ) → AllByRecursion Fails (lowest_checks ns lba)
lowest_fails ns lba = (address_fails ns lba, (demand_fails (nat_eq (lba % ns.size) 0) INVALID_FIELD_IN_COMMAND refl, tt))

pub range_fails : (ns : ZonedNamespace) (lba blocks : ℕ) → AllByRecursion Fails (range_checks ns lba blocks)
range_fails ns lba blocks =
    (demand_fails (nat_le (lba + blocks) (block_total ns)) LBA_OUT_OF_RANGE refl, (demand_fails (nat_le (lba % ns.size + blocks) ns.size) ZONE_BOUNDARY_ERROR refl, tt))

pub zone_write_fails : (ns : ZonedNamespace) (holds : Holds) (z at blocks : ℕ) → AllByRecursion Fails (zone_write_checks ns holds z at blocks)
zone_write_fails ns holds z at blocks = (
  demand_fails (not (is_destination holds z)) ZONE_HELD refl,
  (
    write_check_fails (counted_zone_at ns z) at blocks,
    (wanted_fails ns holds (wanted_of (zone_at ns z).state), tt),
  ),
)

pub zone_fails : (ns : ZonedNamespace) (holds : Holds) (lba : ℕ) (a : Action) → AllByRecursion Fails (zone_checks ns holds lba a)
zone_fails ns holds lba a =
    let z = zone_number ns lba in
    let state = (zone_at ns z).state in
    all_append Fails (lowest_checks ns lba) (demand (not (refuses holds a z)) ZONE_HELD ∷ result_err (transition a state) ∷ result_err (room_of ns holds a state) ∷ [])
    (lowest_fails ns lba)
    (demand_fails (not (refuses holds a z)) ZONE_HELD refl, (transition_fails a state, (room_fails ns holds a state, tt)))

pub all_fails : (ns : ZonedNamespace) (holds : Holds) (a : Action) → AllByRecursion Fails (all_checks ns holds a)
all_fails ns holds a =
    (demand_fails (not (held_among (counted_zones ns) holds a)) ZONE_HELD refl, (demand_fails (all_fit ns a) TOO_MANY_OPEN_ZONES refl, tt))
