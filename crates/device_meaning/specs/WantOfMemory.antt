-- Which events ask for memory.
use Rattle.std.specs.Prelude.{Bool, true, false, ◌≡◌, Result, Ok, Err}
use Rattle.zone_state.specs.declared.status.Status.{Status}
use Rattle.nvme_entry.specs.Entry.{decoded}
use Rattle.nvme_entry.specs.declared.command.Command.{Command}
use Rattle.nvme_entry.specs.declared.command.Command.TheVariants as commands
use Rattle.device_meaning.specs.Judging.{Judge}
use Rattle.device_meaning.specs.Happenings.{happens}
use Rattle.device_meaning.specs.State.{State}
use Rattle.device_events.specs.ToldEvents.{ToldEvent}
use Rattle.device_events.specs.ToldEvents as told

-- is it a Load that an entry names?
abbrev pub is_load : Result Command Status → Bool
is_load (Ok (commands.Load load)) = true
is_load (Ok (commands.Standard c)) = false
is_load (Ok (commands.Run command)) = false
is_load (Ok (commands.Result slot)) = false
is_load (Err status) = false

-- does the event ask for memory? A Load alone does
abbrev pub wants_memory : ToldEvent → Bool
wants_memory (told.Submitted queue entry input) = is_load (decoded entry)
wants_memory (told.Turned run) = false
wants_memory (told.Faulted zone state) = false

-- Whether memory is refused changes nothing of what any other event comes to: Run, turns, Write, Zone Append
-- and all the others ask for none.
abbrev pub OnlyLoadsWantMemory : Judge → Type 0
OnlyLoadsWantMemory judge =
    (s : State) (e : ToldEvent) → wants_memory e ≡ false → happens judge s true e ≡ happens judge s false e
