-- Laws of spelling and decoding.
use Rattle.std.specs.Prelude.{◌≡◌, ◌<◌, ℕ, List, Option, Ok, Err}
use Rattle.ebpf_decode.specs.declared.fault.Fault.{Fault}
use Rattle.instruction_set.specs.declared.instruction.Instruction.{Instruction}
use Rattle.instruction_set.specs.Program.{IsProgram}
use Rattle.ebpf_decode.specs.FirstFault.{IsFirstFault}
use Rattle.ebpf_decode.specs.Reading.{decoded_program}
use Rattle.instruction_set.specs.Spelling.{program_bytes}
use Rattle.common_definitions.specs.Bytes.{AreBytes}
use Rattle.program_interface.specs.declared.TheConstants.{MOST_SLOTS}

-- the bytes that spell a program decode as it
abbrev pub SpelledIsDecoded : Type 0
SpelledIsDecoded = (slots : List (Option Instruction)) → IsProgram slots → decoded_program (program_bytes slots) ≡ Ok slots

-- programs that are spelled alike are one
abbrev pub BytesHaveOneProgram : Type 0
BytesHaveOneProgram = (a b : List (Option Instruction)) → IsProgram a → IsProgram b → program_bytes a ≡ program_bytes b → a ≡ b

-- what bytes decode as is a program that they spell
abbrev pub DecodedIsSpelled : Type 0
DecodedIsSpelled =
    (bytes : List ℕ) (slots : List (Option Instruction)) → AreBytes bytes → decoded_program bytes ≡ Ok slots
    → IsProgram slots × (bytes ≡ program_bytes slots)

-- the slot of a fault is below the most slots of a program
abbrev pub FaultIsInside : Type 0
FaultIsInside = (bytes : List ℕ) (fault : Fault) → decoded_program bytes ≡ Err fault → fault.slot < MOST_SLOTS

-- What is told of bytes is the first fault: of the length, or else of the lowest slot that has one.
abbrev pub FaultIsFirst : Type 0
FaultIsFirst =
    (bytes : List ℕ) (fault : Fault) → AreBytes bytes → decoded_program bytes ≡ Err fault → IsFirstFault bytes fault
