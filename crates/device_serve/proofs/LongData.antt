-- That data which no command moves changes nothing.
use Rattle.std.proofs.Common.{◌≡◌, ◌*◌, ◌<◌, ℕ, Bool, true, false, List, [], ◌∷◌, drop, length, Option, Some, None, Result, Ok, Err, refl, ap, ◌∙◌, arith}
use Rattle.std.specs.Prelude.{◌==◌, is_some, nat_le}
use Rattle.std.proofs.lemmas.Bool.{eqb-true, leb-true}
use Rattle.zone_state.specs.declared.status.Status.{Status}
use Rattle.zone_state.specs.declared.status.TheConstants.Status.{INVALID_FIELD_IN_COMMAND}
use Rattle.common_definitions.specs.Checks.{demand, first_failed}
use Rattle.nvme_entry.specs.Entry.{decoded}
use Rattle.nvme_entry.specs.declared.command.Command.{Command}
use Rattle.nvme_entry.specs.declared.command.Command.TheVariants as commands
use Rattle.nvme_entry.specs.declared.command.LoadCommand.{LoadCommand}
use Rattle.nvme_entry.specs.declared.command.RunCommand.{RunCommand}
use Rattle.nvme_entry.specs.declared.command.StandardCommand.{StandardCommand}
use Rattle.nvme_entry.specs.declared.command.StandardCommand.TheVariants.{Write, Read, Send, Receive, Append}
use Rattle.nvme_entry.specs.declared.command.TheConstants.{MOST_TRANSFER}
use Rattle.image_store.specs.Namespace.{ZonedNamespace}
use Rattle.zns_commands.specs.Append.{append_checks}
use Rattle.zns_commands.specs.Effect.{Effect, concluded}
use Rattle.zns_commands.specs.Meaning.{effect_of, meaning, refusal_of}
use Rattle.zns_commands.specs.Send.{send_checks}
use Rattle.zns_commands.specs.Write.{write_checks}
use Rattle.device_events.specs.Replies.{ReplyWithData}
use Rattle.device_events.specs.declared.event.Event.{Event}
use Rattle.device_events.specs.declared.event.Event.TheVariants as event
use Rattle.event_frames.specs.Requests.{told_event}
use Rattle.device_meaning.specs.Admission.{Loaded, admission_checks}
use Rattle.device_meaning.specs.EventReplies.{Submission, submission_of}
use Rattle.device_meaning.specs.Events.{HasHappened}
use Rattle.device_meaning.specs.Happenings.{load_checks, load_unless, result_by, start_by, submitted, why_not_run}
use Rattle.device_meaning.specs.Judging.{interval_judge}
use Rattle.device_meaning.specs.State.{State, free_place, holds_at, loaded_at, with_namespace}
use Rattle.device_serve.specs.LongData.{IsLong}

-- ---- checks

-- the checks of a transfer fail that is too large, or whose data has another length
transfer_fails : (small same : Bool) (status : Status) (checks : List (Option Status)) → (small ≡ true → same ≡ true → ⊥)
    → first_failed (demand small status ∷ demand same status ∷ checks) ≡ Some status
transfer_fails false same status checks wrong = refl
transfer_fails true false status checks wrong = refl
transfer_fails true true status checks wrong = absurd (wrong refl refl)

-- as does that of a command that takes none
data_fails : (none : Bool) (status : Status) (checks : List (Option Status)) → (none ≡ true → ⊥) → first_failed (demand none status ∷ checks) ≡ Some status
data_fails false status checks wrong = refl
data_fails true status checks wrong = absurd (wrong refl)

-- what is refused leaves the namespace, and what only reads does
concluded_refused : (refusal : Option Status) (ns : ZonedNamespace) (effect : Effect) (status : Status) → refusal ≡ Some status
    → (concluded refusal ns effect).namespace ≡ ns
concluded_refused None ns effect status is = absurd cc
concluded_refused (Some why) ns effect status is = refl

concluded_same : (refusal : Option Status) (ns : ZonedNamespace) (effect : Effect) → effect.namespace ≡ ns → (concluded refusal ns effect).namespace ≡ ns
concluded_same None ns effect same = same
concluded_same (Some status) ns effect same = refl

load_refused : (failed : Option Status) (starved : Bool) (sub : Submission) (s : State) (load : LoadCommand) (status : Status) → failed ≡ Some status
    → (load_unless interval_judge failed starved sub s load).state ≡ s
load_refused None starved sub s load status is = absurd cc
load_refused (Some why) starved sub s load status is = refl

run_refused : (failed : Option Status) (free : Option ℕ) (sub : Submission) (s : State) (command : RunCommand) (status : Status) → failed ≡ Some status
    → (start_by failed free sub s command).state ≡ s
run_refused None free sub s command status is = absurd cc
run_refused (Some why) free sub s command status is = refl

result_leaves : (slot : Option Loaded) (why : Option Status) (sub : Submission) (s : State) → (result_by slot why sub s).state ≡ s
result_leaves slot (Some status) sub s = refl
result_leaves None None sub s = refl
result_leaves (Some loaded) None sub s = refl

-- ---- commands

module _ (s : State) (input : List ℕ) (long : 131072 < length input) where
  not_moved : (bytes : ℕ) → nat_le bytes MOST_TRANSFER ≡ true → (length input == bytes) ≡ true → ⊥
  not_moved bytes small same = omega (arith, leb-true bytes MOST_TRANSFER small, eqb-true (length input) bytes same, long)

  not_none : (length input == 0) ≡ true → ⊥
  not_none none = omega (arith, eqb-true (length input) 0 none, long)

  command_leaves : (c : StandardCommand) → (meaning s.namespace (holds_at s) c input).namespace ≡ s.namespace
  command_leaves (Write lba blocks) =
      let ns = s.namespace in
      concluded_refused (refusal_of ns (holds_at s) (Write lba blocks) input) ns (effect_of ns (holds_at s) (Write lba blocks) input) INVALID_FIELD_IN_COMMAND
      (transfer_fails (nat_le (blocks * ns.block) MOST_TRANSFER) (length input == blocks * ns.block) INVALID_FIELD_IN_COMMAND (drop 2 (write_checks ns (holds_at s) lba blocks input)) (not_moved (blocks * ns.block)))
  command_leaves (Append lba blocks) =
      let ns = s.namespace in
      concluded_refused (refusal_of ns (holds_at s) (Append lba blocks) input) ns (effect_of ns (holds_at s) (Append lba blocks) input) INVALID_FIELD_IN_COMMAND
      (transfer_fails (nat_le (blocks * ns.block) MOST_TRANSFER) (length input == blocks * ns.block) INVALID_FIELD_IN_COMMAND (drop 2 (append_checks ns (holds_at s) lba blocks input)) (not_moved (blocks * ns.block)))
  command_leaves (Send lba action select_all) =
      let ns = s.namespace in
      concluded_refused (refusal_of ns (holds_at s) (Send lba action select_all) input) ns (effect_of ns (holds_at s) (Send lba action select_all) input) INVALID_FIELD_IN_COMMAND
      (data_fails (length input == 0) INVALID_FIELD_IN_COMMAND (drop 1 (send_checks ns (holds_at s) lba action select_all input)) not_none)
  command_leaves (Read lba blocks) =
      let ns = s.namespace in
      concluded_same (refusal_of ns (holds_at s) (Read lba blocks) input) ns (effect_of ns (holds_at s) (Read lba blocks) input) refl
  command_leaves (Receive lba dwords filter partial) =
      let ns = s.namespace in
      concluded_same (refusal_of ns (holds_at s) (Receive lba dwords filter partial) input) ns (effect_of ns (holds_at s) (Receive lba dwords filter partial) input) refl

  submission_leaves : (starved : Bool) (queue : ℕ) (entry : List ℕ) (asked : Result Command Status)
      → (submitted interval_judge starved (submission_of queue entry input) s asked).state ≡ s
  submission_leaves starved queue entry (Err status) = refl
  submission_leaves starved queue entry (Ok (commands.Standard c)) = ap (with_namespace s) (command_leaves c)
  submission_leaves starved queue entry (Ok (commands.Load load)) =
      load_refused (first_failed (load_checks s load input)) starved (submission_of queue entry input) s load INVALID_FIELD_IN_COMMAND
      (transfer_fails (nat_le load.bytes MOST_TRANSFER) (length input == load.bytes) INVALID_FIELD_IN_COMMAND (drop 2 (load_checks s load input)) (not_moved load.bytes))
  submission_leaves starved queue entry (Ok (commands.Run command)) =
      run_refused (why_not_run (submission_of queue entry input) s command) (free_place s) (submission_of queue entry input) s command INVALID_FIELD_IN_COMMAND
      (data_fails (length input == 0) INVALID_FIELD_IN_COMMAND
      (drop 1 (admission_checks s.namespace (holds_at s) (is_some (free_place s)) (loaded_at s command.slot) command input)) not_none)
  submission_leaves starved queue entry (Ok (commands.Result slot)) = result_leaves (loaded_at s slot) (first_failed (demand (length input == 0) INVALID_FIELD_IN_COMMAND ∷ [])) (submission_of queue entry input) s

-- ---- events

pub long_leaves : (e : Event) (old new : State) (reply : ReplyWithData) → IsLong (told_event e) → HasHappened interval_judge e old new reply → new ≡ old
long_leaves (event.Submit queue entry input) old new reply long happened =
    happened.state ∙ submission_leaves old input.items long happened.starved queue entry (decoded entry)
long_leaves (event.Turn run) old new reply long happened = absurd long
long_leaves (event.Fault zone state) old new reply long happened = absurd long
