-- What Load makes of a program's bytes (profile): any judge, and the device's, which decodes them and judges the program by facts.
use Rattle.std.specs.Prelude.{ℕ, ◌≡◌, List, Option, Some, None, Result, Ok, Err, ◌⊎◌}
use Rattle.common_definitions.specs.Bytes.{AreBytes}
use Rattle.ebpf_decode.specs.Fault.{fault_number}
use Rattle.ebpf_decode.specs.FirstFault.{IsFirstFault}
use Rattle.ebpf_decode.specs.Reading.{decoded_program}
use Rattle.ebpf_decode.specs.declared.fault.Fault.{Fault}
use Rattle.instruction_set.specs.Program.{IsProgram}
use Rattle.instruction_set.specs.Spelling.{program_bytes}
use Rattle.instruction_set.specs.declared.instruction.Instruction.{Instruction}
use Rattle.program_interface.specs.RunSizes.{AreSizes, Sizes}
use Rattle.program_meaning.specs.TrapFree.{NeverTraps}
use Rattle.word_domain.specs.Domain.{Operations}
use Rattle.interval_domain.specs.Intervals.{intervals}
use Rattle.accepted_programs.specs.Accepted.{reason_number, refusal}
use Rattle.accepted_programs.specs.FirstRefusal.{IsFirstRefusal}
use Rattle.accepted_programs.specs.declared.reason.Refusal.{Refusal}

-- why a program is refused, as the completion of its Load tells it: a slot, and the number of a fault or of a reason
pub record ProgramRefused : Type 0 where
  pub slot : ℕ
  pub reason : ℕ

-- a judge says what a Load makes of the bytes beside it, for the sizes that it is granted: a program, or why that is refused
abbrev pub Judge : Type 0
Judge = List ℕ → Sizes → Result (List (Option Instruction)) ProgramRefused

-- ---- sound judges

-- each program that it makes of bytes never traps over blocks of these sizes
abbrev pub IsSoundJudge : Judge → Type 0
IsSoundJudge judge =
    (bytes : List ℕ) (sizes : Sizes) (program : List (Option Instruction)) → AreBytes bytes → AreSizes sizes
    → judge bytes sizes ≡ Ok program → NeverTraps program sizes.limit sizes.block

-- ---- judges by facts

-- what is told of bytes that decode to no program: their fault
abbrev pub refused_for_fault : Fault → ProgramRefused
refused_for_fault fault = record { slot = fault.slot; reason = fault_number fault.kind }

-- what is told of a program that is refused
abbrev pub refused_for_reason : Refusal → ProgramRefused
refused_for_reason why = record { slot = why.slot; reason = reason_number why.reason }

-- a program is accepted where there is no refusal of it
abbrev pub accepted_unless : List (Option Instruction) → Option Refusal → Result (List (Option Instruction)) ProgramRefused
accepted_unless program (Some why) = Err (refused_for_reason why)
accepted_unless program None = Ok program

module _ {D : Type 0} (operations : Operations D) where
  -- what these bytes come to, once they are decoded: a fault is told, and a program is judged by the facts of a domain
  abbrev pub judged_by : Sizes → Result (List (Option Instruction)) Fault → Result (List (Option Instruction)) ProgramRefused
  judged_by sizes (Err fault) = Err (refused_for_fault fault)
  judged_by sizes (Ok program) = accepted_unless program (refusal operations program sizes)

  -- the judge by the facts of a domain
  abbrev pub judge_by : Judge
  judge_by bytes sizes = judged_by sizes (decoded_program bytes)

-- the judge of the device: by intervals
abbrev pub interval_judge : Judge
interval_judge = judge_by intervals

-- ---- what they accept, and what they tell

-- the first fault of the bytes is told
pub record TellsFirstFault (bytes : List ℕ) (why : ProgramRefused) : Type 0 where
  pub fault : Fault
  pub first : IsFirstFault bytes fault
  pub told : why ≡ refused_for_fault fault

module _ {D : Type 0} (operations : Operations D) where
  -- the program that is accepted is what the bytes decode to, and no reason refuses it
  pub record IsUnrefused (bytes : List ℕ) (sizes : Sizes) (program : List (Option Instruction)) : Type 0 where
    pub decoded : decoded_program bytes ≡ Ok program
    pub unrefused : refusal operations program sizes ≡ None

  -- the first refusal of the program is told that the bytes decode to
  pub record TellsFirstRefusal (bytes : List ℕ) (sizes : Sizes) (why : ProgramRefused) : Type 0 where
    pub program : List (Option Instruction)
    pub decoded : decoded_program bytes ≡ Ok program
    pub found : Refusal
    pub first : IsFirstRefusal operations program sizes found
    pub told : why ≡ refused_for_reason found

-- what the judge by the facts of a domain accepts is a program that the bytes spell (RFC 9669, 3), the only one
-- (BytesHaveOneProgram): all that it chooses is whether it accepts what they spell
abbrev pub JudgedIsSpelled : {D : Type 0} → Operations D → Type 0
JudgedIsSpelled operations =
    (bytes : List ℕ) (sizes : Sizes) (program : List (Option Instruction)) → AreBytes bytes → judge_by operations bytes sizes ≡ Ok program
    → IsProgram program × (bytes ≡ program_bytes program)

-- what the judge by the facts of a domain accepts decodes, and no reason refuses it
abbrev pub JudgedIsUnrefused : {D : Type 0} → Operations D → Type 0
JudgedIsUnrefused operations =
    (bytes : List ℕ) (sizes : Sizes) (program : List (Option Instruction)) → judge_by operations bytes sizes ≡ Ok program
    → IsUnrefused operations bytes sizes program

-- and of what it refuses it tells the first fault, or where there is none the first refusal
abbrev pub JudgedIsFirst : {D : Type 0} → Operations D → Type 0
JudgedIsFirst operations =
    (bytes : List ℕ) (sizes : Sizes) (why : ProgramRefused) → AreBytes bytes → judge_by operations bytes sizes ≡ Err why
    → TellsFirstFault bytes why ⊎ TellsFirstRefusal operations bytes sizes why
