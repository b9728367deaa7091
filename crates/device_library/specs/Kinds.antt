-- What C asks a handle for, by number, as `c/pifnjarl_handle.h` has it.
use Rattle.std.specs.Prelude.{ℕ, ◌==◌, Option, Some, None, if◌then◌else◌}
use Rattle.device_library.specs.declared.kind.Door.{Door}
use Rattle.device_library.specs.declared.kind.Door.TheVariants as door
use Rattle.device_library.specs.declared.kind.KeptKind.{KeptKind}
use Rattle.device_library.specs.declared.kind.KeptKind.TheVariants as kept
use Rattle.device_library.specs.declared.kind.LoopKind.{LoopKind}
use Rattle.device_library.specs.declared.kind.LoopKind.TheVariants as looped
use Rattle.device_library.specs.declared.kind.MemoryKind.{MemoryKind}
use Rattle.device_library.specs.declared.kind.MemoryKind.TheVariants as memory
use Rattle.device_library.specs.declared.kind.Question.TheVariants as question
use Rattle.device_library.specs.declared.kind.TargetKind.{TargetKind}
use Rattle.device_library.specs.declared.kind.TargetKind.TheVariants as target

-- the door with a number
abbrev pub door_of : ℕ → Option Door
door_of number =
    if number == 0 then Some door.Memory
    else if number == 1 then Some door.File
    else if number == 2 then Some door.Target
    else if number == 3 then Some door.TargetFile
    else None

-- the kind with a number, of a device in memory; 0 asks what opening came to
abbrev pub memory_kind : ℕ → Option MemoryKind
memory_kind number =
    if number == 1 then Some memory.Event
    else if number == 2 then Some memory.LowestRun
    else if number == 3 then Some memory.Save
    else if number == 22 then Some memory.Turns
    else None

-- of a device in a file
abbrev pub kept_kind : ℕ → Option KeptKind
kept_kind number =
    if number == 4 then Some kept.Serve
    else if number == 5 then Some kept.Replies
    else if number == 6 then Some kept.Fold
    else if number == 7 then Some kept.Folded
    else if number == 8 then Some (kept.Ask question.Next)
    else if number == 9 then Some (kept.Ask question.Place)
    else if number == 10 then Some (kept.Ask question.Size)
    else if number == 11 then Some (kept.Ask question.Bytes)
    else if number == 12 then Some kept.Done
    else if number == 13 then Some kept.Failed
    else None

-- of a target, before a loop serves it; 16 has a loop serve it
abbrev pub target_kind : ℕ → Option TargetKind
target_kind number =
    if number == 8 then Some (target.Ask question.Next)
    else if number == 9 then Some (target.Ask question.Place)
    else if number == 10 then Some (target.Ask question.Size)
    else if number == 11 then Some (target.Ask question.Bytes)
    else if number == 12 then Some target.Done
    else if number == 13 then Some target.Failed
    else if number == 14 then Some target.Name
    else if number == 15 then Some target.Nqn
    else None

-- of a loop that serves a target
abbrev pub loop_kind : ℕ → Option LoopKind
loop_kind number =
    if number == 17 then Some looped.Operation
    else if number == 18 then Some looped.Reads
    else if number == 19 then Some looped.Writes
    else if number == 20 then Some looped.Carried
    else if number == 21 then Some looped.Step
    else None

-- what is answered where nothing is done, since a handle has nothing that knows a kind: to an event and to turns that there is no device,
-- and for the lowest run that there is none
abbrev pub nothing_of : ℕ → ℕ
nothing_of number =
    if number == 1 then 32
    else if number == 22 then 32
    else if number == 2 then 256
    else 0
