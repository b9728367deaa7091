-- What an event does to a state, and the reply to it (profile).
use Rattle.std.specs.Prelude.{ℕ, Bool, true, false, ◌==◌, not, nat_le, List, [], ◌∷◌, length, set, is_some, Option, Some, None, Result, Ok, Err}
use Rattle.zone_state.specs.declared.state.FaultState.{FaultState}
use Rattle.zone_state.specs.declared.status.Status.{Status}
use Rattle.zone_state.specs.declared.status.TheConstants.Status.{SUCCESS, INVALID_FIELD_IN_COMMAND, NO_SUCH_PROGRAM, PROGRAM_REFUSED, PROGRAM_IN_USE, WANT_OF_MEMORY}
use Rattle.zone_state.specs.declared.zone.FaultRefused.{FaultRefused}
use Rattle.common_definitions.specs.Checks.{demand, first_failed}
use Rattle.nvme_entry.specs.Entry.{decoded, identifier_of}
use Rattle.nvme_entry.specs.declared.command.Command.{Command}
use Rattle.nvme_entry.specs.declared.command.Command.TheVariants as commands
use Rattle.nvme_entry.specs.declared.command.LoadCommand.{LoadCommand}
use Rattle.nvme_entry.specs.declared.command.RunCommand.{RunCommand}
use Rattle.nvme_entry.specs.declared.command.TheConstants.{MOST_TRANSFER}
use Rattle.instruction_set.specs.declared.instruction.Instruction.{Instruction}
use Rattle.program_interface.specs.RunSizes.{Sizes}
use Rattle.image_store.specs.Namespace.{ZonedNamespace, grown_at}
use Rattle.zns_commands.specs.Effect.{Effect}
use Rattle.zns_commands.specs.Fault.{zone_fault_refusal, faulted}
use Rattle.zns_commands.specs.Meaning.{meaning}
use Rattle.device_meaning.specs.Admission.{Loaded, run_refusal, granted_sizes, source_blocks, task_of, source_zone, destination_zone}
use Rattle.device_events.specs.Replies.{ReplyWithData, without_data}
use Rattle.device_meaning.specs.EventReplies.{Happening, Submission, completion, completed, refused, idle, submission_of}
use Rattle.device_meaning.specs.BlockRuns.{no_scratch}
use Rattle.device_meaning.specs.Judging.{Judge, ProgramRefused}
use Rattle.device_meaning.specs.Outcome.{Turn, Ending, outcome}
use Rattle.device_meaning.specs.State.{Place, State, holds_at, loaded_at, place_at, in_use, free_place, with_namespace, with_slot, with_place}
use Rattle.device_events.specs.ToldEvents.{ToldEvent}
use Rattle.device_events.specs.ToldEvents as told
use Rattle.device_events.specs.declared.reply.Reply.{Reply}
use Rattle.device_events.specs.declared.reply.Reply.TheVariants as reply

-- ---- Load

-- the checks, in order: that the data is at most a transfer, and as long as the entry says; the limit; that no active run uses
-- the slot
abbrev pub load_checks : State → LoadCommand → List ℕ → List (Option Status)
load_checks s load input =
    demand (nat_le load.bytes MOST_TRANSFER) INVALID_FIELD_IN_COMMAND
    ∷ demand (length input == load.bytes) INVALID_FIELD_IN_COMMAND
    ∷ demand (nat_le load.limit s.namespace.block) INVALID_FIELD_IN_COMMAND
    ∷ demand (not (in_use s load.slot)) PROGRAM_IN_USE
    ∷ []

-- an accepted program, whose result is zeros
abbrev pub just_loaded : List (Option Instruction) → ℕ → Loaded
just_loaded program limit = record { program = program; limit = limit; result = no_scratch }

-- an accepted program takes its slot; of one that is refused it is told where, and for what reason
abbrev pub judged : Submission → State → LoadCommand → Result (List (Option Instruction)) ProgramRefused → Happening
judged sub s load (Err why) = completed sub PROGRAM_REFUSED why.slot why.reason [] s
judged sub s load (Ok program) = completed sub SUCCESS 0 0 [] (with_slot s load.slot (Some (just_loaded program load.limit)))

-- the sizes that a program is judged for
abbrev pub sizes_for : State → LoadCommand → Sizes
sizes_for s load = granted_sizes s.namespace load.limit

module _ (judge : Judge) where
  -- where memory is refused, that is told, and nothing else
  abbrev pub load_unless : Option Status → Bool → Submission → State → LoadCommand → Happening
  load_unless (Some status) starved sub s load = refused sub status s
  load_unless None true sub s load = refused sub WANT_OF_MEMORY s
  load_unless None false sub s load = judged sub s load (judge sub.input (sizes_for s load))

  -- what a Load comes to
  abbrev pub loading : Bool → Submission → State → LoadCommand → Happening
  loading starved sub s load = load_unless (first_failed (load_checks s load sub.input)) starved sub s load

-- ---- Result

-- the result of a slot is given, unless a check fails or the slot has no program
abbrev pub result_by : Option Loaded → Option Status → Submission → State → Happening
result_by slot (Some status) sub s = refused sub status s
result_by None None sub s = refused sub NO_SUCH_PROGRAM s
result_by (Some loaded) None sub s = completed sub SUCCESS 0 0 loaded.result s

-- what a Result of a slot comes to: data beside the entry is refused first, then a slot without a program
abbrev pub giving_result : Submission → State → ℕ → Happening
giving_result sub s slot =
    result_by (loaded_at s slot) (first_failed (demand (length sub.input == 0) INVALID_FIELD_IN_COMMAND ∷ [])) sub s

-- ---- Run

-- an admitted run, with its whole outcome
abbrev pub admitted_place : Submission → State → RunCommand → Place
admitted_place sub s command = record {
  queue = sub.queue;
  cid = identifier_of sub.entry;
  slot = command.slot;
  source = source_zone s.namespace command;
  destination = destination_zone s.namespace command;
  turns = outcome (task_of s.namespace (loaded_at s command.slot) command) (source_blocks s.namespace command);
}

-- the status of the first check that a run fails
abbrev pub why_not_run : Submission → State → RunCommand → Option Status
why_not_run sub s command =
    run_refusal s.namespace (holds_at s) (is_some (free_place s)) (loaded_at s command.slot) command sub.input

-- an admitted run takes the lowest free place, and its number; that there is one is among the checks
abbrev pub start_by : Option Status → Option ℕ → Submission → State → RunCommand → Happening
start_by (Some status) free sub s command = refused sub status s
start_by None None sub s command = idle s
start_by None (Some run) sub s command =
    record { reply = without_data (reply.Pending run); state = with_place s run (Some (admitted_place sub s command)) }

-- what a Run comes to
abbrev pub starting : Submission → State → RunCommand → Happening
starting sub s command = start_by (why_not_run sub s command) (free_place s) sub s command

-- ---- turns

-- the namespace with blocks written at a zone's write pointer, as by a Zone Append that meets no hold
abbrev pub added : ZonedNamespace → ℕ → List (List ℕ) → ZonedNamespace
added ns z [] = ns
added ns z blocks = grown_at ns z blocks

-- the result of a run is kept in its program's slot
abbrev pub keeping : Option Loaded → Option (List ℕ) → Option Loaded
keeping (Some loaded) (Some bytes) = Some (record loaded { result = bytes })
keeping slot bytes = slot

-- what a turn leaves at its run's place: the turns after it, or nothing where it ends the run
abbrev pub place_left : Place → List Turn → Option Ending → Option Place
place_left place later None = Some (record place { turns = later })
place_left place later (Some ending) = None

-- the slots after a turn: where it ends the run, its result is kept in its slot
abbrev pub slots_left : State → Place → Option Ending → List (Option Loaded)
slots_left s place None = s.slots
slots_left s place (Some ending) = set s.slots place.slot (keeping (loaded_at s place.slot) ending.result)

-- the reply to a turn: the run's completion, where it ends the run
abbrev pub turn_reply : ℕ → Place → Option Ending → ReplyWithData
turn_reply run place None = without_data (reply.Pending run)
turn_reply run place (Some ending) = completion place.queue place.cid ending.status ending.dw0 ending.dw1 []

-- the state after a turn of an active run
abbrev pub turn_state : State → ℕ → Place → Turn → List Turn → State
turn_state s run place turn later = record {
  namespace = added s.namespace place.destination turn.blocks;
  slots = slots_left s place turn.ending;
  places = set s.places run (place_left place later turn.ending);
}

-- the first of a run's turns is done
abbrev pub take_turn : State → ℕ → Place → List Turn → Happening
take_turn s run place [] = idle s
take_turn s run place (turn ∷ later) =
    record { reply = turn_reply run place turn.ending; state = turn_state s run place turn later }

-- a turn of the run at a place, where there is one
abbrev pub turned_at : State → ℕ → Option Place → Happening
turned_at s run None = idle s
turned_at s run (Some place) = take_turn s run place place.turns

-- what a turn of a run comes to
abbrev pub turned : State → ℕ → Happening
turned s run = turned_at s run (place_at s run)

-- ---- faults

-- the reply to a zone's fault
abbrev pub fault_reply : Result Unit FaultRefused → Reply
fault_reply (Ok done) = reply.FaultTaken
fault_reply (Err refused) = reply.FaultRefused

-- what a zone's fault comes to
abbrev pub faulting : State → ℕ → FaultState → Happening
faulting s zone state = record {
  reply = without_data (fault_reply (zone_fault_refusal s.namespace (holds_at s) zone state));
  state = with_namespace s (faulted s.namespace (holds_at s) zone state);
}

-- ---- events

-- what a standard command comes to
abbrev pub commanded : Submission → State → Effect → Happening
commanded sub s effect = completed sub effect.status effect.dw0 effect.dw1 effect.output (with_namespace s effect.namespace)

module _ (judge : Judge) where
  -- what an entry comes to that names this command; only Load asks whether memory is refused
  abbrev pub submitted : Bool → Submission → State → Result Command Status → Happening
  submitted starved sub s (Err status) = refused sub status s
  submitted starved sub s (Ok (commands.Standard c)) = commanded sub s (meaning s.namespace (holds_at s) c sub.input)
  submitted starved sub s (Ok (commands.Load load)) = loading judge starved sub s load
  submitted starved sub s (Ok (commands.Run command)) = starting sub s command
  submitted starved sub s (Ok (commands.Result slot)) = giving_result sub s slot

  -- what an event comes to, where memory is refused or not
  abbrev pub happens : State → Bool → ToldEvent → Happening
  happens s starved (told.Submitted queue entry input) =
      submitted starved (submission_of queue entry input) s (decoded entry)
  happens s starved (told.Turned run) = turned s run
  happens s starved (told.Faulted zone state) = faulting s zone state
