-- What instructions of a function are in a frame that lies elsewhere.
use Rattle.std.specs.Prelude.{ℕ, ℤ, pos, ◌-ℤ◌, ◌+◌, ◌==◌, ◌||◌, Bool, false, List, [], ◌∷◌, Option, Some, None, if◌then◌else◌}
use Rattle.instruction_set.specs.declared.instruction.Instruction.{Instruction}
use Rattle.instruction_set.specs.declared.instruction.Instruction.TheVariants.{Load, LoadSigned, StoreImmediate, StoreRegister, Arithmetic, MoveSigned, Jump, JumpLong, Branch, Exit}
use Rattle.instruction_set.specs.declared.instruction.Source.{Source}
use Rattle.instruction_set.specs.declared.instruction.Source.TheVariants as sources
use Rattle.instruction_set.specs.declared.operation.Operation.TheVariants.{Add, Move}
use Rattle.instruction_set.specs.declared.operation.Width.TheVariants.{Bits64}

-- ---- R10 as an operand

-- is a second operand R10?
abbrev pub is_frame_source : Source → Bool
is_frame_source (sources.Register r) = r == 10
is_frame_source (sources.Immediate value) = false

-- the register, where a move has R10 as its source
abbrev pub moved_to : ℕ → Source → Option ℕ
moved_to dst source = if is_frame_source source then Some dst else None

-- the register to which an instruction moves R10
abbrev pub moved_frame_pointer : Instruction → Option ℕ
moved_frame_pointer (Arithmetic Bits64 Move dst source) = moved_to dst source
moved_frame_pointer _ = None

-- does an instruction compute with R10, or store it?
abbrev pub reads_frame_pointer : Instruction → Bool
reads_frame_pointer (StoreRegister size dst src offset) = src == 10
reads_frame_pointer (MoveSigned extension dst src) = src == 10
reads_frame_pointer (Arithmetic width operation dst source) = is_frame_source source
reads_frame_pointer (Branch width relation dst source distance) = dst == 10 || is_frame_source source
reads_frame_pointer _ = false

-- ---- the same in a frame whose end is so many bytes lower than R10

-- the offset from R10, where one from the frame's end is given
abbrev pub lowered : ℕ → ℤ → ℕ → ℤ
lowered base offset below = if base == 10 then offset -ℤ pos below else offset

-- the same access
abbrev pub in_frame : ℕ → Instruction → Instruction
in_frame below (Load size dst src offset) = Load size dst src (lowered src offset below)
in_frame below (LoadSigned size dst src offset) = LoadSigned size dst src (lowered src offset below)
in_frame below (StoreImmediate size dst offset value) = StoreImmediate size dst (lowered dst offset below) value
in_frame below (StoreRegister size dst src offset) = StoreRegister size dst src (lowered dst offset below)
in_frame below i = i

-- two instructions: R10 is moved to a register, and so many bytes are taken from it
abbrev pub frame_address : ℕ → ℕ → List (Option Instruction)
frame_address dst bytes =
    Some (Arithmetic Bits64 Move dst (sources.Register 10)) ∷ Some (Arithmetic Bits64 Add dst (sources.Immediate (pos 0 -ℤ pos bytes))) ∷ []

-- ---- jumps

-- the same jump by another distance; EXIT becomes a jump
abbrev pub by_distance : ℤ → Instruction → Instruction
by_distance slots (Jump distance) = Jump slots
by_distance slots (JumpLong distance) = Jump slots
by_distance slots Exit = Jump slots
by_distance slots (Branch width relation dst source distance) = Branch width relation dst source slots
by_distance slots i = i

-- the distance from a slot to another one
abbrev pub distance : ℕ → ℕ → ℤ
distance from to = pos to -ℤ pos (from + 1)
