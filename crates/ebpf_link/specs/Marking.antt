-- What a block run comes to in which a guard has led to what writes its mark.
use Rattle.std.specs.Prelude.{ℕ, ℤ, List, ◌++◌, ◌≡◌, ◌<◌, ◌≤◌, ◌+◌, ◌^◌, IsSome, Option, Some, drop, length, map, take}
use Rattle.instruction_set.specs.Instruction.{immediate_word}
use Rattle.instruction_set.specs.declared.instruction.Instruction.{Instruction}
use Rattle.link_notes.specs.Ended.{ended_of}
use Rattle.program_interface.specs.Area.{address_of}
use Rattle.program_interface.specs.declared.area.Area.TheVariants.{Context, Scratch}
use Rattle.program_meaning.specs.BlockRun.{BlockRun, block_run_of}
use Rattle.program_meaning.specs.Effect.{address_from, register}
use Rattle.program_meaning.specs.Memory.{area_offset_of, loaded}
use Rattle.program_meaning.specs.State.{IsState, State}
use Rattle.program_meaning.specs.declared.end.End.TheVariants.{Exit}
use Rattle.ebpf_link.specs.Guards.{guard_word}
use Rattle.ebpf_link.specs.Marks.{mark_end, mark_word}
use Rattle.ebpf_link.specs.declared.guards.Guard.{Guard}

-- eight bytes at an offset from R10 have this word
pub record HasCell (s : State) (offset : ℤ) (word : ℕ) : Type 0 where
  pub lies : IsSome (area_offset_of (length s.memory.block) (address_from s.registers 10 offset) 8)
  pub has : loaded s.memory (address_from s.registers 10 offset) 8 ≡ word

-- a guard has led here: R0 has its word, and two cells have the addresses of the context and of scratch
pub record IsLedByGuard (s : State) (context scratch : ℤ) (guard : Guard) (slot number : ℕ) : Type 0 where
  pub state : IsState s
  pub told : register s 0 ≡ immediate_word (mark_word guard slot number)
  pub context_kept : HasCell s context (address_of Context)
  pub scratch_kept : HasCell s scratch (address_of Scratch)

-- the block run is over: R0 has the word of the guard's kind; scratch says the guard's number, its slot and the block's index in the run,
-- and is else as it was; nothing was emitted
pub record EndsMarked (s : State) (at : ℕ) (guard : Guard) (slot number : ℕ) (run : BlockRun) : Type 0 where
  pub exits : run.end ≡ Exit (immediate_word (guard_word guard))
  pub mark : ended_of (drop at run.state.memory.scratch)
      ≡ Some (record { number = number; slot = slot; block = loaded s.memory (address_of Context + 8) 4 })
  pub before : take at run.state.memory.scratch ≡ take at s.memory.scratch
  pub behind : drop (at + 16) run.state.memory.scratch ≡ drop (at + 16) s.memory.scratch
  pub group : run.state.group ≡ s.group

-- wherever what writes the mark stands in a program, and whatever stands around it
abbrev pub GuardsLeaveTheirMarks : Type 0
GuardsLeaveTheirMarks = (before rest : List (Option Instruction)) (limit fuel n : ℕ) (s : State) (context scratch : ℤ) (at : ℕ)
    → (guard : Guard) (slot number : ℕ) → s.slot ≡ length before → IsLedByGuard s context scratch guard slot number
    → at ≤ 1008 → slot < 2 ^ 12 → 0 < number → number < 2 ^ 16
    → EndsMarked s at guard slot number
    (block_run_of (before ++ (map Some (mark_end context scratch at) ++ rest)) limit (14 + fuel) n s)
