-- No status that refuses an entry is that of a program that couldn't go on.
use Rattle.std.proofs.Common.{◌≡◌, ◌≢◌, ℕ, Bool, true, false, List, [], ◌∷◌, ◌++◌, drop, Option, Some, None, Result, refl, ap, sym, subst, ◌∙◌, inl, inr}
use Rattle.std.specs.Prelude.{◌<◌, ◌^◌, ◌&&◌, is_some, nat_eq, nat_lt, not, slice_index}
use Rattle.std.proofs.lemmas.Bool.{and_parts, ltb-true, not-true}
use Rattle.std.specs.List.{AllByRecursion}
use Rattle.std.specs.Option.{ok_or, option_map_or}
use Rattle.std.specs.Result.{result_err}
use Rattle.common_definitions.specs.Checks.{demand, first_failed}
use Rattle.common_definitions.specs.Readings.{unless_fault}
use Rattle.zone_state.specs.declared.state.ZoneState.{ZoneState}
use Rattle.zone_state.specs.declared.state.ZoneState.TheVariants.{Offline}
use Rattle.zone_state.specs.declared.status.Status.{Status}
use Rattle.zone_state.specs.declared.status.TheConstants.Status.{SUCCESS, INVALID_COMMAND_OPCODE, INVALID_FIELD_IN_COMMAND, ZONE_IS_OFFLINE, ZONE_HELD, PROGRAM_TRAPPED}
use Rattle.nvme_entry.specs.Entry.{asked, command_of, decoded, decoded_by, entry_checks, opcode_of}
use Rattle.nvme_entry.specs.declared.command.Command.{Command}
use Rattle.nvme_entry.specs.declared.command.LoadCommand.{LoadCommand}
use Rattle.nvme_entry.specs.declared.command.RunCommand.{RunCommand}
use Rattle.zns_commands.specs.Laws.{IsStandardStatus}
use Rattle.zns_commands.specs.Read.{read_refusal}
use Rattle.zns_commands.specs.steps.Checks.{transfer_checks}
use Rattle.image_store.specs.Namespace.{ZonedNamespace, zone_at}
use Rattle.image_store.specs.declared.geometry.ZoneBlock.{ZoneBlock}
use Rattle.emit_append.specs.Need.{need}
use Rattle.zone_resources.specs.declared.holds.Holds.{Holds}
use Rattle.zns_commands.specs.Address.{zone_block_in}
use Rattle.device_meaning.specs.Admission.{admission_checks, destination_zone, sizes_in}
use Rattle.device_meaning.specs.steps.Checks.{address_checks, destination_checks, source_checks}
use Rattle.device_meaning.specs.EventReplies.{Submission}
use Rattle.device_meaning.specs.Happenings.{load_checks, why_not_run}
use Rattle.device_meaning.specs.State.{State, free_place, holds_at, loaded_at}

-- a status code has 8 bits
pub record IsOther (status : Status) : Type 0 where
  pub code : status.code < 2 ^ 8
  pub differs : status ≢ PROGRAM_TRAPPED

abbrev pub is_other : Status → Bool
is_other status = nat_lt status.code 256 && not (nat_eq status.code 0xC8)

-- a check passes, or it fails with such a status
pub record FailsOther (check : Option Status) : Type 0 where
  pub is : option_map_or is_other check true ≡ true

pub other : (status : Status) → is_other status ≡ true → IsOther status
other status is =
    let both = and_parts (nat_lt status.code 256) (not (nat_eq status.code 0xC8)) is in
    record {
      code = ltb-true status.code 256 both.0;
      differs = λ same.
          let equal : nat_eq status.code 0xC8 ≡ true = ap (λ (s : Status). nat_eq s.code 0xC8) same in
          let unequal = not-true (nat_eq status.code 0xC8) both.1 in
          cc;
    }

pub failed_other : (status : Status) → FailsOther (Some status) → IsOther status
failed_other status fails = other status fails.is

-- ---- checks

none_other : FailsOther None
none_other = record { is = refl }

pub some_is : (status : Status) → is_other status ≡ true → FailsOther (Some status)
some_is status is = record { is = is }

demand_other : (test : Bool) (status : Status) → is_other status ≡ true → FailsOther (demand test status)
demand_other true status is = none_other
demand_other false status is = some_is status is

some_other : (checks : List (Option Status)) → AllByRecursion FailsOther checks → FailsOther (first_failed checks)
some_other [] all = none_other
some_other (None ∷ checks) all = some_other checks all.1
some_other (Some status ∷ checks) all = all.0

read_other : (state : ZoneState) → FailsOther (read_refusal state)
read_other Offline = some_is ZONE_IS_OFFLINE refl
read_other state = none_other

-- those of a transfer, with others behind them
transfer_others : (bytes beside : ℕ) (input : List ℕ) (later : List (Option Status)) → AllByRecursion FailsOther later
    → AllByRecursion FailsOther (transfer_checks bytes beside input ++ later)
transfer_others bytes beside input later all = (demand_other _ _ refl, (demand_other _ _ refl, all))

pub transfer_other : (bytes beside : ℕ) (input : List ℕ) → FailsOther (first_failed (transfer_checks bytes beside input))
transfer_other bytes beside input = some_other (transfer_checks bytes beside input) (transfer_others bytes beside input [] tt)

-- ---- entries

unless_other : {X : Type 0} (why : Option Status) (r : Result X Status) → FailsOther why → FailsOther (result_err r) → FailsOther (result_err (unless_fault why r))
unless_other None r first later = later
unless_other (Some status) r first later = first

field_other : (c : Option Command) → FailsOther (result_err (ok_or c INVALID_FIELD_IN_COMMAND))
field_other None = some_is INVALID_FIELD_IN_COMMAND refl
field_other (Some c) = none_other

opcode_other : (o : Option _) (entry : List ℕ) → FailsOther (result_err (decoded_by o entry))
opcode_other None entry = some_is INVALID_COMMAND_OPCODE refl
opcode_other (Some o) entry =
    unless_other (first_failed (entry_checks entry)) (asked o entry)
    (some_other (entry_checks entry) (demand_other _ _ refl, (demand_other _ _ refl, tt))) (field_other (command_of o entry))

pub entry_other : (entry : List ℕ) → FailsOther (result_err (decoded entry))
entry_other entry = opcode_other (opcode_of (slice_index entry 0)) entry

-- ---- commands

pub load_other : (s : State) (load : LoadCommand) (input : List ℕ) → FailsOther (first_failed (load_checks s load input))
load_other s load input =
    some_other (load_checks s load input)
    (transfer_others load.bytes load.bytes input (drop 2 (load_checks s load input)) (demand_other _ _ refl, (demand_other _ _ refl, tt)))

address_others : (ns : ZonedNamespace) (command : RunCommand) (later : List (Option Status)) → AllByRecursion FailsOther later
    → AllByRecursion FailsOther (address_checks ns command ++ later)
address_others ns command later all = (demand_other _ _ refl, (demand_other _ _ refl, (demand_other _ _ refl, (demand_other _ _ refl, all))))

source_others : (ns : ZonedNamespace) (first : ZoneBlock) (blocks : ℕ) (later : List (Option Status)) → AllByRecursion FailsOther later
    → AllByRecursion FailsOther (source_checks ns first blocks ++ later)
source_others ns first blocks later all = (demand_other _ _ refl, (read_other (zone_at ns first.zone).state, (demand_other _ _ refl, all)))

destination_others : (ns : ZonedNamespace) (holds : Holds) (z blocks : ℕ) → AllByRecursion FailsOther (destination_checks ns holds z blocks)
destination_others ns holds z blocks = (demand_other _ _ refl, (demand_other _ _ refl, (demand_other _ _ refl, tt)))

pub run_other : (sub : Submission) (s : State) (command : RunCommand) → FailsOther (why_not_run sub s command)
run_other sub s command =
    let ns = s.namespace in
    let slot = loaded_at s command.slot in
    let checks = admission_checks ns (holds_at s) (is_some (free_place s)) slot command sub.input in
    let destination = destination_others ns (holds_at s) (destination_zone ns command) (need command.blocks (sizes_in ns slot)) in
    let source = source_others ns (zone_block_in ns command.lba) command.blocks (drop 10 checks) destination in
    let address = address_others ns command (drop 6 checks) (demand_other _ _ refl, source) in
    some_other checks (demand_other _ _ refl, (demand_other _ _ refl, address))

pub standard_other : (status : Status) → IsStandardStatus status → IsOther status
standard_other status h = record {
  code = h.code;
  differs = λ is. elim h.standard [
    | inl standard ↦ standard (ap (λ (s : Status). s.kind) is)
    | inr held ↦ (other ZONE_HELD refl).differs (sym held ∙ is)
  ];
}

-- success has a code of 8 bits, and isn't the status of a program that trapped
pub success_other : (status : Status) → status ≡ SUCCESS → IsOther status
success_other status done = subst IsOther (sym done) (other SUCCESS refl)
