-- A machine that reads at its turn (profile). Of an active run it keeps what the run is and how far it has come, and nothing of
-- what the run will do: a turn reads its source block when it comes, from the namespace of that moment, and runs over it the
-- program that the run's slot has at that moment. All else is as `happens` has it.
use Rattle.std.specs.Prelude.{ℕ, Bool, true, false, ◌+◌, ◌&&◌, nat_lt, List, [], ◌∷◌, map, set, get_or, replicate, option_map, Option, Some, None, Result, Ok}
use Rattle.std.specs.List.{fold}
use Rattle.zone_state.specs.declared.status.Status.{Status}
use Rattle.zone_resources.specs.declared.holds.TheConstants.{RUNS}
use Rattle.nvme_entry.specs.Entry.{decoded}
use Rattle.nvme_entry.specs.declared.command.Command.{Command}
use Rattle.nvme_entry.specs.declared.command.Command.TheVariants as commands
use Rattle.nvme_entry.specs.declared.command.RunCommand.{RunCommand}
use Rattle.nvme_entry.specs.declared.program_slot.TheConstants.{PROGRAM_SLOTS}
use Rattle.program_meaning.specs.BlockRun.{BlockRun}
use Rattle.image_store.specs.Namespace.{ZonedNamespace, block_at}
use Rattle.device_meaning.specs.Admission.{Loaded, destination_zone, source_zone, task_of}
use Rattle.device_meaning.specs.BlockRuns.{Task, block_run, goes_on}
use Rattle.device_meaning.specs.EventReplies.{Happening, Submission, idle, refused, submission_of}
use Rattle.device_meaning.specs.Events.{Occurrence}
use Rattle.device_meaning.specs.Happenings.{added, faulting, slots_left, submitted, turn_reply, why_not_run}
use Rattle.device_meaning.specs.Judging.{Judge}
use Rattle.device_meaning.specs.Laws.{further, next_turn}
use Rattle.device_meaning.specs.Outcome.{Ending, Progress, Turn, emitted_by, last_turn}
use Rattle.device_meaning.specs.State.{Place, State, free_place}
use Rattle.device_meaning.specs.View.{Active, begun}
use Rattle.device_events.specs.Replies.{ReplyWithData, without_data}
use Rattle.device_events.specs.ToldEvents.{ToldEvent}
use Rattle.device_events.specs.ToldEvents as told
use Rattle.device_events.specs.declared.reply.Reply.TheVariants as reply

-- a namespace, the slots for programs, and the active runs by their numbers: of each its queue, its command identifier, its
-- command, which names its slot and its zones, and how far it has come
pub record Machine : Type 0 where
  pub namespace : ZonedNamespace
  pub slots : List (Option Loaded)
  pub runs : List (Option Active)

-- a machine that was just made
abbrev pub new_machine : ZonedNamespace → Machine
new_machine ns = record { namespace = ns; slots = replicate PROGRAM_SLOTS None; runs = replicate RUNS None }

-- the run of this number
abbrev pub run_at : Machine → ℕ → Option Active
run_at m run = get_or m.runs run None

-- what an event comes to: the reply to it, and the machine after it
pub record Answered : Type 0 where
  pub reply : ReplyWithData
  pub machine : Machine

-- ---- what isn't the turn of a run

-- the place of an active run without turns: its queue and identifier, its slot, and the zones that it holds
abbrev pub place_without_turns : ZonedNamespace → Active → Place
place_without_turns ns a = record {
  queue = a.queue;
  cid = a.cid;
  slot = a.command.slot;
  source = source_zone ns a.command;
  destination = destination_zone ns a.command;
  turns = [];
}

-- the machine as checks, commands and faults see it: they ask for free places and for what runs hold, and never for turns
abbrev pub without_turns : Machine → State
without_turns m = record { namespace = m.namespace; slots = m.slots; places = map (option_map (place_without_turns m.namespace)) m.runs }

-- what an event comes to that leaves the runs as they are
abbrev pub leaving_runs : Machine → Happening → Answered
leaving_runs m h = record { reply = h.reply; machine = record { namespace = h.state.namespace; slots = h.state.slots; runs = m.runs } }

-- a Run that no check refuses takes the lowest free place: nothing is read, and no program is run
abbrev pub start_now : Option Status → Option ℕ → Submission → Machine → RunCommand → Answered
start_now (Some status) free sub m command = leaving_runs m (refused sub status (without_turns m))
start_now None None sub m command = leaving_runs m (idle (without_turns m))
start_now None (Some run) sub m command = record {
  reply = without_data (reply.Pending run);
  machine = record m { runs = set m.runs run (Some (begun sub command)) };
}

-- what a Run comes to
abbrev pub starting_now : Submission → Machine → RunCommand → Answered
starting_now sub m command = start_now (why_not_run sub (without_turns m) command) (free_place (without_turns m)) sub m command

-- ---- the turn of a run

-- what the run is about, by the program that its slot has now
abbrev pub task_now : Machine → Active → Task
task_now m a = task_of m.namespace (get_or m.slots a.command.slot None) a.command

-- its program over its next source block, as that block is now, with the scratch bytes that the block before left
abbrev pub block_run_now : Machine → Active → BlockRun
block_run_now m a = block_run (task_now m a) a.so_far.index a.so_far.scratch (block_at m.namespace (a.command.lba + a.so_far.index))

-- does the run go on after that? Where the program ended with R0 = 0, and a block of its range is left
abbrev pub goes_on_now : Machine → Active → Bool
goes_on_now m a = goes_on (block_run_now m a).end && nat_lt (a.so_far.index + 1) a.command.blocks

-- the turn: where the run goes on, all blocks are appended that the pending bytes and the new group come to but the last; where it
-- ends, all of them, and frames and blocks are told, or none, after a trap
abbrev pub turn_by : Bool → Task → Progress → BlockRun → Turn
turn_by true task so_far run = next_turn task so_far run
turn_by false task so_far run = last_turn task.sizes.block (emitted_by so_far) run

-- what the run does at its turn
abbrev pub turn_now : Machine → Active → Turn
turn_now m a = turn_by (goes_on_now m a) (task_now m a) a.so_far (block_run_now m a)

-- what a turn leaves of its run: how far it has come now, or nothing where it ends the run
abbrev pub run_left : Machine → Active → Option Ending → Option Active
run_left m a None = Some (record a { so_far = further (task_now m a) a.so_far (block_run_now m a) })
run_left m a (Some ending) = None

-- a turn is done: its blocks come to the end of the destination, and where it ends the run, its result is kept in its slot
abbrev pub turn_done : Machine → ℕ → Active → Turn → Answered
turn_done m run a turn = record {
  reply = turn_reply run (place_without_turns m.namespace a) turn.ending;
  machine = record {
    namespace = added m.namespace (destination_zone m.namespace a.command) turn.blocks;
    slots = slots_left (without_turns m) (place_without_turns m.namespace a) turn.ending;
    runs = set m.runs run (run_left m a turn.ending);
  };
}

-- a turn of the run at a place, where there is one
abbrev pub turned_now_at : Machine → ℕ → Option Active → Answered
turned_now_at m run None = leaving_runs m (idle (without_turns m))
turned_now_at m run (Some a) = turn_done m run a (turn_now m a)

-- ---- events

module _ (judge : Judge) where
  -- what an entry comes to that names this command
  abbrev pub submitted_now : Bool → Submission → Machine → Result Command Status → Answered
  submitted_now starved sub m (Ok (commands.Run command)) = starting_now sub m command
  submitted_now starved sub m asked = leaving_runs m (submitted judge starved sub (without_turns m) asked)

  -- what an event comes to, where memory is refused or not
  abbrev pub happens_now : Machine → Bool → ToldEvent → Answered
  happens_now m starved (told.Submitted queue entry input) =
      submitted_now starved (submission_of queue entry input) m (decoded entry)
  happens_now m starved (told.Turned run) = turned_now_at m run (run_at m run)
  happens_now m starved (told.Faulted zone state) = leaving_runs m (faulting (without_turns m) zone state)

  -- the replies to events, in order
  abbrev pub replies_now : List Occurrence → Machine → List ReplyWithData
  replies_now [] m = []
  replies_now (o ∷ os) m = (happens_now m o.starved o.event).reply ∷ replies_now os (happens_now m o.starved o.event).machine

  -- the machine after events
  abbrev pub machine_after : List Occurrence → Machine → Machine
  machine_after events m = fold (λ before o. (happens_now before o.starved o.event).machine) m events
