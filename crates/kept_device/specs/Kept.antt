-- What is kept of programs and runs, told by numbers and lists.
use Rattle.std.specs.Prelude.{ℕ, List, Option, option_map}
use Rattle.device_meaning.specs.View.{Active}
use Rattle.kept_device.specs.declared.kept.KeptProgram.{KeptProgram}
use Rattle.kept_device.specs.declared.kept.KeptRun.{KeptRun}

-- a program in its slot: the bytes that spell it, the most bytes of its groups, and its result
pub record SavedProgram : Type 0 where
  pub bytes : List ℕ
  pub limit : ℕ
  pub result : List ℕ

abbrev pub program_told : KeptProgram → SavedProgram
program_told k = record { bytes = k.bytes.items; limit = k.limit; result = k.result }

-- what is kept of a slot
abbrev pub slot_told : Option KeptProgram → Option SavedProgram
slot_told = option_map program_told

abbrev pub run_told : KeptRun → Active
run_told k = record {
  queue = k.queue;
  cid = k.cid;
  command = k.command;
  so_far = record { index = k.index; scratch = k.scratch; pending = k.pending.items; frames = k.frames; appended = k.appended };
}

-- what is kept of a place for a run
abbrev pub place_told : Option KeptRun → Option Active
place_told = option_map run_told
