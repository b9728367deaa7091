-- Checks, commands and faults are told the same of runs that have turns and of runs that have none.
use Rattle.std.proofs.Common.{◌≡◌, ℕ, ◌+◌, Bool, true, false, cond, List, [], ◌∷◌, ◌++◌, length, map, Option, Some, None, Result, Ok, Err, refl, ap, sym, subst, ◌∙◌}
use Rattle.std.specs.Prelude.{not, nat_le, nat_lt, is_none, is_some, option_map, ◌||◌}
use Rattle.std.specs.List.{list_any, position_or_len}
use Rattle.std.proofs.lemmas.List.{length-map}
use Rattle.zone_state.specs.declared.state.FaultState.{FaultState}
use Rattle.zone_state.specs.declared.status.Status.{Status}
use Rattle.zone_state.specs.declared.status.TheConstants.Status.{INVALID_FIELD_IN_COMMAND, PROGRAM_IN_USE, WANT_OF_MEMORY}
use Rattle.zone_resources.specs.declared.holds.Holds.{Holds}
use Rattle.common_definitions.specs.Checks.{demand, first_failed}
use Rattle.nvme_entry.specs.declared.command.LoadCommand.{LoadCommand}
use Rattle.nvme_entry.specs.declared.command.RunCommand.{RunCommand}
use Rattle.nvme_entry.specs.declared.command.StandardCommand.{StandardCommand}
use Rattle.instruction_set.specs.declared.instruction.Instruction.{Instruction}
use Rattle.zns_commands.specs.Effect.{Effect}
use Rattle.zns_commands.specs.Fault.{faulted, zone_fault_refusal}
use Rattle.zns_commands.specs.Meaning.{meaning}
use Rattle.zns_commands.specs.steps.Checks.{transfer_checks}
use Rattle.device_meaning.specs.Admission.{Loaded, run_refusal}
use Rattle.device_meaning.specs.EventReplies.{Happening, Submission, refused}
use Rattle.device_meaning.specs.Happenings.{commanded, fault_reply, faulting, judged, load_checks, load_unless, loading, result_by, sizes_for, why_not_run}
use Rattle.device_meaning.specs.Judging.{Judge, ProgramRefused}
use Rattle.device_meaning.specs.State.{Place, State, destination_of, free_place, holds_at, in_use, loaded_at, source_of, uses, with_namespace}
use Rattle.device_meaning.specs.View.{Active, seen, view_of}
use Rattle.device_events.specs.Replies.{without_data}
use Rattle.turn_machine.specs.Machine.{Machine, place_without_turns, without_turns}

-- the state that corresponds to a machine
abbrev pub viewed : Machine → State
viewed m = view_of m.namespace m.slots m.runs

module _ (m : Machine) where
  abbrev with : Option Active → Option Place
  with = seen m.namespace m.slots

  abbrev bare : Option Active → Option Place
  bare = option_map (place_without_turns m.namespace)

  -- ---- what runs hold, the slots that they use, and the places that are free

  same_zones : (of : Option Place → Option ℕ) → ((at : Option Active) → of (with at) ≡ of (bare at)) → (runs : List (Option Active))
      → map of (map with runs) ≡ map of (map bare runs)
  same_zones of same [] = refl
  same_zones of same (a ∷ runs) =
      ap (λ (zone : Option ℕ). zone ∷ map of (map with runs)) (same a)
      ∙ ap (λ (zones : List (Option ℕ)). of (bare a) ∷ zones) (same_zones of same runs)

  same_source : (at : Option Active) → source_of (with at) ≡ source_of (bare at)
  same_source None = refl
  same_source (Some a) = refl

  same_destination : (at : Option Active) → destination_of (with at) ≡ destination_of (bare at)
  same_destination None = refl
  same_destination (Some a) = refl

  holds_same : holds_at (viewed m) ≡ holds_at (without_turns m)
  holds_same =
      ap (λ (held : List (Option ℕ)). record { sources = held; destinations = map destination_of (viewed m).places })
      (same_zones source_of same_source m.runs)
      ∙ ap (λ (held : List (Option ℕ)). record { sources = map source_of (without_turns m).places; destinations = held })
      (same_zones destination_of same_destination m.runs)

  same_uses : (slot : ℕ) (at : Option Active) → uses slot (with at) ≡ uses slot (bare at)
  same_uses slot None = refl
  same_uses slot (Some a) = refl

  used_same_of : (slot : ℕ) (runs : List (Option Active)) → list_any (uses slot) (map with runs) ≡ list_any (uses slot) (map bare runs)
  used_same_of slot [] = refl
  used_same_of slot (a ∷ runs) =
      ap (λ (used : Bool). used || list_any (uses slot) (map with runs)) (same_uses slot a)
      ∙ ap (λ (used : Bool). uses slot (bare a) || used) (used_same_of slot runs)

  used_same : (slot : ℕ) → in_use (viewed m) slot ≡ in_use (without_turns m) slot
  used_same slot = used_same_of slot m.runs

  same_free : (at : Option Active) → is_none (with at) ≡ is_none (bare at)
  same_free None = refl
  same_free (Some a) = refl

  first_free : (runs : List (Option Active)) → position_or_len is_none (map with runs) ≡ position_or_len is_none (map bare runs)
  first_free [] = refl
  first_free (a ∷ runs) =
      ap (λ (free : Bool). cond (not free) (1 + position_or_len is_none (map with runs)) 0) (same_free a)
      ∙ ap (λ (n : ℕ). cond (not (is_none (bare a))) (1 + n) 0) (first_free runs)

  pub free_same : free_place (viewed m) ≡ free_place (without_turns m)
  free_same =
      let number : ℕ = position_or_len is_none (map bare m.runs) in
      ap (λ (n : ℕ). cond (nat_lt n (length (map with m.runs))) (Some n) None) (first_free m.runs)
      ∙ ap (λ (n : ℕ). cond (nat_lt number n) (Some number) None) (length-map m.runs with ∙ sym (length-map m.runs bare))

  -- the checks of a Run are those of the machine
  pub why_same : (sub : Submission) (command : RunCommand) → why_not_run sub (viewed m) command ≡ why_not_run sub (without_turns m) command
  why_same sub command =
      let slot = loaded_at (viewed m) command.slot in
      ap (λ (holds : Holds). run_refusal m.namespace holds (is_some (free_place (viewed m))) slot command sub.input) holds_same
      ∙ ap (λ (free : Option ℕ). run_refusal m.namespace (holds_at (without_turns m)) (is_some free) slot command sub.input) free_same

  -- ---- what other entries and faults come to

  -- what comes of the state that corresponds, and of the machine without turns: the same, and the first leaves its places
  pub record IsSame (h g : Happening) : Type 0 where
    pub reply : h.reply ≡ g.reply
    pub namespace : h.state.namespace ≡ g.state.namespace
    pub slots : h.state.slots ≡ g.state.slots
    pub places : h.state.places ≡ (viewed m).places

  same_command : (sub : Submission) (effect : Effect) → IsSame (commanded sub (viewed m) effect) (commanded sub (without_turns m) effect)
  same_command sub effect = record { reply = refl; namespace = refl; slots = refl; places = refl }

  pub command_same : (sub : Submission) (c : StandardCommand)
      → IsSame (commanded sub (viewed m) (meaning m.namespace (holds_at (viewed m)) c sub.input))
      (commanded sub (without_turns m) (meaning m.namespace (holds_at (without_turns m)) c sub.input))
  command_same sub c =
      let made = commanded sub (viewed m) (meaning m.namespace (holds_at (viewed m)) c sub.input) in
      subst (λ (holds : Holds). IsSame made (commanded sub (without_turns m) (meaning m.namespace holds c sub.input))) holds_same
      (same_command sub (meaning m.namespace (holds_at (viewed m)) c sub.input))

  pub fault_same : (zone : ℕ) (state : FaultState) → IsSame (faulting (viewed m) zone state) (faulting (without_turns m) zone state)
  fault_same zone state =
      let by : Holds → Happening = λ holds. record {
        reply = without_data (fault_reply (zone_fault_refusal m.namespace holds zone state));
        state = with_namespace (without_turns m) (faulted m.namespace holds zone state);
      } in
      let made = faulting (viewed m) zone state in
      let start : IsSame made (by (holds_at (viewed m))) = record { reply = refl; namespace = refl; slots = refl; places = refl } in
      subst (λ (holds : Holds). IsSame made (by holds)) holds_same start

  pub result_same : (sub : Submission) (slot : Option Loaded) (why : Option Status)
      → IsSame (result_by slot why sub (viewed m)) (result_by slot why sub (without_turns m))
  result_same sub slot (Some status) = record { reply = refl; namespace = refl; slots = refl; places = refl }
  result_same sub None None = record { reply = refl; namespace = refl; slots = refl; places = refl }
  result_same sub (Some loaded) None = record { reply = refl; namespace = refl; slots = refl; places = refl }

  pub refused_same : (sub : Submission) (status : Status) → IsSame (refused sub status (viewed m)) (refused sub status (without_turns m))
  refused_same sub status = record { reply = refl; namespace = refl; slots = refl; places = refl }

  judged_same : (sub : Submission) (load : LoadCommand) (made : Result (List (Option Instruction)) ProgramRefused)
      → IsSame (judged sub (viewed m) load made) (judged sub (without_turns m) load made)
  judged_same sub load (Err why) = record { reply = refl; namespace = refl; slots = refl; places = refl }
  judged_same sub load (Ok program) = record { reply = refl; namespace = refl; slots = refl; places = refl }

  module _ (judge : Judge) where
    unless_same : (sub : Submission) (load : LoadCommand) (why : Option Status) (starved : Bool)
        → IsSame (load_unless judge why starved sub (viewed m) load) (load_unless judge why starved sub (without_turns m) load)
    unless_same sub load (Some status) starved = refused_same sub status
    unless_same sub load None true = refused_same sub WANT_OF_MEMORY
    unless_same sub load None false = judged_same sub load (judge sub.input (sizes_for (viewed m) load))

    pub load_same : (sub : Submission) (load : LoadCommand) (starved : Bool)
        → IsSame (loading judge starved sub (viewed m) load) (loading judge starved sub (without_turns m) load)
    load_same sub load starved =
        let checks : Bool → List (Option Status) = λ used.
        transfer_checks load.bytes load.bytes sub.input
        ++ demand (nat_le load.limit m.namespace.block) INVALID_FIELD_IN_COMMAND ∷ demand (not used) PROGRAM_IN_USE ∷ [] in
        let why = first_failed (load_checks (viewed m) load sub.input) in
        let made = load_unless judge why starved sub (viewed m) load in
        subst (λ (used : Bool). IsSame made (load_unless judge (first_failed (checks used)) starved sub (without_turns m) load))
        (used_same load.slot)
        (unless_same sub load why starved)
