-- What a device keeps of its runs, seen as the places of a state.
use Rattle.std.specs.Prelude.{ℕ, ◌≡◌, ◌≤◌, ◌+◌, ◌-◌, List, length, get_or, map, option_map, Option, None}
use Rattle.nvme_entry.specs.Entry.{identifier_of}
use Rattle.nvme_entry.specs.declared.command.RunCommand.{RunCommand}
use Rattle.instruction_set.specs.declared.instruction.Instruction.{Instruction}
use Rattle.image_store.specs.Namespace.{ZonedNamespace, zone_at}
use Rattle.zns_commands.specs.Address.{zone_offset}
use Rattle.zns_commands.specs.Left.{Grows}
use Rattle.device_meaning.specs.Admission.{Loaded, SameProgram, destination_zone, limit_in, program_in, source_zone, task_by, written_from}
use Rattle.device_meaning.specs.EventReplies.{Submission}
use Rattle.device_meaning.specs.Happenings.{admitted_place}
use Rattle.device_meaning.specs.Outcome.{Progress, Turn, at_admission, rest}
use Rattle.device_meaning.specs.State.{State, Place}

-- an active run as a device keeps it
pub record Active : Type 0 where
  pub queue : ℕ
  pub cid : ℕ
  pub command : RunCommand
  pub so_far : Progress

-- the source blocks still to come, of the namespace as it is now
abbrev pub to_come : ZonedNamespace → Active → List (List ℕ)
to_come ns a =
    written_from ns (source_zone ns a.command) (zone_offset ns a.command.lba + a.so_far.index) (a.command.blocks - a.so_far.index)

-- the turns that are left of a run of this program
abbrev pub turns_of : ZonedNamespace → List (Option Instruction) → ℕ → Active → List Turn
turns_of ns program limit a = rest (task_by ns program limit a.command) a.so_far (to_come ns a)

-- the run's place: the turns that are left are the rest of the run
abbrev pub place_of : ZonedNamespace → List (Option Loaded) → Active → Place
place_of ns slots a = record {
  queue = a.queue;
  cid = a.cid;
  slot = a.command.slot;
  source = source_zone ns a.command;
  destination = destination_zone ns a.command;
  turns = turns_of ns (program_in (get_or slots a.command.slot None)) (limit_in (get_or slots a.command.slot None)) a;
}

-- what is seen of what a device keeps at a place
abbrev pub seen : ZonedNamespace → List (Option Loaded) → Option Active → Option Place
seen ns slots = option_map (place_of ns slots)

-- the state that is seen of a device
abbrev pub view_of : ZonedNamespace → List (Option Loaded) → List (Option Active) → State
view_of ns slots runs = record { namespace = ns; slots = slots; places = map (seen ns slots) runs }

-- a run at its admission
abbrev pub begun : Submission → RunCommand → Active
begun sub command = record { queue = sub.queue; cid = identifier_of sub.entry; command = command; so_far = at_admission }

-- what is seen of a run at its admission is its place
abbrev pub SeenAtAdmission : Type 0
SeenAtAdmission = (sub : Submission) (s : State) (command : RunCommand) → place_of s.namespace s.slots (begun sub command) ≡ admitted_place sub s command

-- a later namespace of the same sizes, in whose source zone the blocks are those of before, among them all that are
-- still to come, and perhaps some behind them
pub record KeepsSource (ns later : ZonedNamespace) (a : Active) : Type 0 where
  pub size : later.size ≡ ns.size
  pub block : later.block ≡ ns.block
  pub grows : Grows (zone_at ns (source_zone ns a.command)).blocks (zone_at later (source_zone ns a.command)).blocks
  pub written : zone_offset ns a.command.lba + a.so_far.index + (a.command.blocks - a.so_far.index) ≤ length (zone_at ns (source_zone ns a.command)).blocks

-- what is seen of a run whose source blocks are written stays, whatever is written behind these, and whatever result its slot is given
abbrev pub SeenStays : Type 0
SeenStays =
    (ns later : ZonedNamespace) (slots slots' : List (Option Loaded)) (a : Active) → KeepsSource ns later a
    → SameProgram (get_or slots a.command.slot None) (get_or slots' a.command.slot None)
    → place_of later slots' a ≡ place_of ns slots a
