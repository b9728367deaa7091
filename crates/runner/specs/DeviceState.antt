-- What a device has, seen as a state: each run has the turns that are left of it.
use Rattle.std.specs.Prelude.{List, map, option_map, Option}
use Rattle.word_domain.specs.declared.domain.Domain.{Ghosts}
use Rattle.image_store.specs.Namespace.{ZonedNamespace}
use Rattle.verifier.specs.Verified.{program_of, sizes_of}
use Rattle.device_meaning.specs.Admission.{Loaded}
use Rattle.device_meaning.specs.State.{State}
use Rattle.device_meaning.specs.View.{Active, view_of}
use Rattle.runner.specs.declared.active_run.ActiveRun.{ActiveRun}
use Rattle.runner.specs.declared.loaded_program.LoadedProgram.{LoadedProgram}

-- an active run; where its blocks lie is found again
abbrev pub active_of : ActiveRun → Active
active_of a = record {
  queue = a.queue;
  cid = a.cid;
  command = a.command;
  so_far = record { index = a.index; scratch = a.scratch; pending = a.packer.pending; frames = a.frames; appended = a.appended };
}

-- what is at a place for a run
abbrev pub running : Option ActiveRun → Option Active
running = option_map active_of

module _ {D : Type 0} {domain : Ghosts D} where
  -- a program in its slot, with its limit and its result
  abbrev pub loaded_of : LoadedProgram D domain → Loaded
  loaded_of p = record { program = program_of p.prepared; limit = (sizes_of p.prepared).limit; result = p.result }

  -- what is in a slot
  abbrev pub loaded_slot : Option (LoadedProgram D domain) → Option Loaded
  loaded_slot = option_map loaded_of

  -- the state of a device, in which each run has the turns that are left of it
  abbrev pub device_state : ZonedNamespace → List (Option (LoadedProgram D domain)) → List (Option ActiveRun) → State
  device_state ns slots runs = view_of ns (map loaded_slot slots) (map running runs)
