-- Laws of assembly text.
use Rattle.std.specs.Prelude.{◌≡◌, ◌<◌, ◌≤◌, ◌+◌, ◌^◌, ℕ, ℤ, FitsSigned, List, [], ◌∷◌, ◌++◌, Option, Some, Ok, Err, ◌⊎◌}
use Rattle.std.specs.Char.{is_ascii}
use Rattle.std.specs.List.{AllByRecursion, AllPass, flat_map}
use Rattle.std.specs.Int.{w16, w32}
use Rattle.std.specs.Fmt.{signed_decimal}
use Rattle.program_interface.specs.declared.registers.TheConstants.{REGISTERS}
use Rattle.instruction_set.specs.declared.instruction.Instruction.{Instruction}
use Rattle.instruction_set.specs.Program.{IsProgram, instruction_at}
use Rattle.instruction_set.specs.Spelling.{program_bytes}
use Rattle.text_lines.specs.Laws.{AreBlanks}
use Rattle.ebpf_asm.specs.declared.fault.Fault.{Fault}
use Rattle.ebpf_asm.specs.declared.mnemonic.Mnemonic.{Mnemonic}
use Rattle.ebpf_asm.specs.InOrder.{AreInOrder}
use Rattle.ebpf_asm.specs.Assembly.{assembled, lines_of, slot_count}
use Rattle.ebpf_asm.specs.Line.{line_of}
use Rattle.ebpf_asm.specs.LowestFault.{IsLowestFault}
use Rattle.ebpf_asm.specs.Mnemonic.{mnemonic_text, mnemonic_named}
use Rattle.ebpf_asm.specs.Operand.{register_of, immediate_told, wide_of, memory_told, distance_told, short_of, long_of}
use Rattle.ebpf_asm.specs.Listing.{register_text, signed_text, wide_text, memory_text, line_text, listing, listing_with_slots, slot_text}

-- the text of each mnemonic is that mnemonic's and no other's
abbrev pub MnemonicsReadBack : Type 0
MnemonicsReadBack = (mnemonic : Mnemonic) → mnemonic_named (mnemonic_text mnemonic) ≡ Some mnemonic

-- each register is read as it is listed
abbrev pub RegistersReadBack : Type 0
RegistersReadBack = (number : ℕ) → number < REGISTERS → register_of (register_text number) ≡ Ok number

-- each immediate is read as it is listed
abbrev pub ImmediatesReadBack : Type 0
ImmediatesReadBack = (value : ℤ) → FitsSigned w32 value → immediate_told (signed_decimal value) ≡ Ok value

-- each wide value is read as it is listed
abbrev pub WideValuesReadBack : Type 0
WideValuesReadBack = (value : ℕ) → value < 2 ^ 64 → wide_of (wide_text value) ≡ Ok value

-- each memory operand is read as it is listed
abbrev pub MemoryOperandsReadBack : Type 0
MemoryOperandsReadBack = (base : ℕ) (offset : ℤ) → base < REGISTERS → FitsSigned w16 offset → memory_told (memory_text base offset) ≡ Ok (base, offset)

-- each distance of 16 bits is read as it is listed
abbrev pub ShortDistancesReadBack : Type 0
ShortDistancesReadBack = (distance : ℤ) → FitsSigned w16 distance → distance_told short_of (signed_text distance) ≡ Ok distance

-- and each of 32 bits
abbrev pub LongDistancesReadBack : Type 0
LongDistancesReadBack = (distance : ℤ) → FitsSigned w32 distance → distance_told long_of (signed_text distance) ≡ Ok distance

-- the listing of a program assembles to its bytes
abbrev pub ListingsAssemble : Type 0
ListingsAssemble = (slots : List (Option Instruction)) → IsProgram slots → assembled (listing slots) ≡ Ok (program_bytes slots)

-- the slots of lines rise, and none is below this one
abbrev pub SlotsRise : ℕ → List (ℕ × Instruction) → Type 0
SlotsRise least [] = Unit {0}
SlotsRise least (line ∷ rest) = (least ≤ line.0) × SlotsRise (line.0 + 1) rest

-- the lines of a program's instructions: each stands behind the slot where its instruction begins, and without these slots in front
-- they are the listing
pub record HasSlotsInFront (slots : List (Option Instruction)) : Type 0 where
  pub lines : List (ℕ × Instruction)
  pub begin : AllByRecursion (λ line. instruction_at slots line.0 ≡ Some line.1) lines
  pub rise : SlotsRise 0 lines
  pub with_slots : listing_with_slots slots ≡ flat_map (λ line. slot_text line.0 ++ line_text line.1) lines
  pub without : listing slots ≡ flat_map (λ line. line_text line.1) lines

-- in the listing with slots each instruction's line stands behind its slot, and without these it is the listing
abbrev pub SlotsStandInFront : Type 0
SlotsStandInFront = (slots : List (Option Instruction)) → HasSlotsInFront slots

-- what a text assembles to is nothing, where it has no instructions, or the bytes of a program
abbrev pub AssembledIsProgram : Type 0
AssembledIsProgram =
    (text bytes : List ℕ) → assembled text ≡ Ok bytes
    → ((bytes ≡ []) × (slot_count (lines_of text) ≡ 0)) ⊎ ((slots : List (Option Instruction)) × IsProgram slots × (bytes ≡ program_bytes slots))

-- the bytes of a text are the spellings of its lines' instructions in their order, and a jump to a label leads to the
-- slot of that label, where the next instruction begins if there is one
abbrev pub LinesAreInOrder : Type 0
LinesAreInOrder = (text bytes : List ℕ) → assembled text ≡ Ok bytes → AreInOrder (lines_of text) bytes

-- the fault of a text is that of the lowest line that has one by itself, or where none has, of the lowest that jumps amiss
abbrev pub FaultIsLowest : Type 0
FaultIsLowest = (text : List ℕ) (fault : Fault) → assembled text ≡ Err fault → IsLowestFault (lines_of text) fault

-- blanks around a line change nothing of what it has (profile)
abbrev pub BlanksDontCount : Type 0
BlanksDontCount = (front line back : List ℕ) → AreBlanks front → AreBlanks back → line_of (front ++ (line ++ back)) ≡ line_of line

-- nor does a comment behind it: `;` and whatever ASCII bytes stand behind that on the line (profile)
abbrev pub CommentsDontCount : Type 0
CommentsDontCount = (line rest : List ℕ) → AllPass is_ascii rest → line_of (line ++ 59 ∷ rest) ≡ line_of line
