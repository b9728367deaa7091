-- No event but a Load asks for memory.
use Rattle.std.proofs.Common.{◌≡◌, true, false, Result, Ok, Err, refl}
use Rattle.zone_state.specs.declared.status.Status.{Status}
use Rattle.nvme_entry.specs.Entry.{decoded}
use Rattle.nvme_entry.specs.declared.command.Command.{Command}
use Rattle.nvme_entry.specs.declared.command.Command.TheVariants as commands
use Rattle.device_meaning.specs.Judging.{Judge}
use Rattle.device_meaning.specs.EventReplies.{Submission, submission_of}
use Rattle.device_meaning.specs.Happenings.{submitted}
use Rattle.device_meaning.specs.WantOfMemory.{OnlyLoadsWantMemory, is_load}
use Rattle.device_meaning.specs.State.{State}
use Rattle.device_events.specs.ToldEvents as told

module _ (judge : Judge) where
  submitted_same : (sub : Submission) (s : State) (asked : Result Command Status) → is_load asked ≡ false
      → submitted judge true sub s asked ≡ submitted judge false sub s asked
  submitted_same sub s (Err status) no_load = refl
  submitted_same sub s (Ok (commands.Standard c)) no_load = refl
  submitted_same sub s (Ok (commands.Load load)) no_load = absurd cc
  submitted_same sub s (Ok (commands.Run command)) no_load = refl
  submitted_same sub s (Ok (commands.Result slot)) no_load = refl

  pub only_loads_want_memory : OnlyLoadsWantMemory judge
  only_loads_want_memory s (told.Submitted queue entry input) no_load =
      submitted_same (submission_of queue entry input) s (decoded entry) no_load
  only_loads_want_memory s (told.Turned run) no_load = refl
  only_loads_want_memory s (told.Faulted zone state) no_load = refl
