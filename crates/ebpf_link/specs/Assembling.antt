-- Slots of a program, made of the pieces that were laid out.
use Rattle.std.specs.Prelude.{ℕ, ℤ, zero, suc, List, [], ◌∷◌, ◌++◌, ◌+◌, Option, Some, None, ◌≡◌, ◌<◌, pos, slice_get, slice_index, unwrap_or}
use Rattle.std.specs.Option.{option_map, option_map_or}
use Rattle.instruction_set.specs.Program.{is_wide}
use Rattle.instruction_set.specs.declared.instruction.Instruction.{Instruction}
use Rattle.instruction_set.specs.declared.instruction.Instruction.TheVariants.{Arithmetic, Branch, Jump}
use Rattle.instruction_set.specs.declared.instruction.Source.TheVariants.{Immediate}
use Rattle.instruction_set.specs.declared.operation.Operation.TheVariants.{Move}
use Rattle.instruction_set.specs.declared.operation.Width.TheVariants.{Bits64}
use Rattle.ebpf_link.specs.Marks.{mark_word}
use Rattle.ebpf_link.specs.declared.assembling.LinkedGuard.{LinkedGuard}
use Rattle.ebpf_link.specs.declared.layout.LaidGuard.{LaidGuard}
use Rattle.ebpf_link.specs.declared.pieces.Piece.{Piece}
use Rattle.ebpf_link.specs.declared.pieces.Piece.TheVariants as piece
use Rattle.std.specs.Prelude.{if◌then◌else◌}

-- a compare by another distance, or a jump by it
abbrev pub by_distance : Instruction → ℤ → Instruction
by_distance (Branch width relation dst source distance) slots = Branch width relation dst source slots
by_distance _ slots = Jump slots

-- the slots of an instruction: a wide one has two
abbrev pub instruction_slots : Instruction → List (Option Instruction)
instruction_slots instruction = if is_wide instruction then Some instruction ∷ None ∷ [] else Some instruction ∷ []

-- the slots of a piece that stays, where jumps lead so far, and what is told of guards are these words, by their places
abbrev pub slots_of : Piece → ℤ → List ℤ → List (Option Instruction)
slots_of (piece.Begins label) distance words = []
slots_of (piece.Plain instruction) distance words = instruction_slots instruction
slots_of (piece.Jump instruction label) distance words = Some (by_distance instruction distance) ∷ []
slots_of (piece.Told place) distance words =
    Some (Arithmetic Bits64 Move 0 (Immediate (unwrap_or (slice_get words place) (pos 0)))) ∷ []

-- what is told of the guard at a place, which compares first at a slot of the program: its kind, this slot, and its number, the first's
-- being 1
abbrev pub told_word : List LaidGuard → ℕ → ℕ → ℤ
told_word guards place slot = option_map_or (λ laid. mark_word laid.guard slot (place + 1)) (slice_get guards place) (pos 0)

-- what is told of the first so many guards
abbrev pub mark_words : List LaidGuard → List LinkedGuard → ℕ → List ℤ
mark_words guards linked zero = []
mark_words guards linked (suc place) = mark_words guards linked place
    ++ (told_word guards place (option_map_or (λ found. found.slot) (slice_get linked place) 0) ∷ [])
