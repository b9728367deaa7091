-- The ends of block runs to which guards lead.
use Rattle.std.specs.Prelude.{ℕ, ℤ, zero, suc, Bool, List, [], ◌∷◌, ◌++◌, ◌+◌, ◌*◌, ◌-ℤ◌, ◌≡◌, ◌<◌, ◌⊎◌, ◌==◌, false, Option, Some, None, if◌then◌else◌, length, map, min, nat_lt, pos, slice_get}
use Rattle.std.specs.Option.{option_map_or}
use Rattle.instruction_set.specs.declared.instruction.Instruction.{Instruction}
use Rattle.instruction_set.specs.declared.instruction.Instruction.TheVariants.{Arithmetic, Exit, Jump}
use Rattle.instruction_set.specs.declared.instruction.Source.TheVariants.{Immediate}
use Rattle.instruction_set.specs.declared.operation.Operation.TheVariants.{Move}
use Rattle.instruction_set.specs.declared.operation.Width.TheVariants.{Bits64}
use Rattle.ebpf_link.specs.Guards.{guard_index, guard_label, guard_word}
use Rattle.ebpf_link.specs.Marks.{mark_end}
use Rattle.ebpf_link.specs.declared.guards.Guard.{Guard}
use Rattle.ebpf_link.specs.declared.guards.Guard.TheVariants as kind
use Rattle.ebpf_link.specs.declared.layout.LaidGuard.{LaidGuard}
use Rattle.ebpf_link.specs.declared.layout.Layout.{Layout}
use Rattle.ebpf_link.specs.declared.pieces.Piece.{Piece}
use Rattle.ebpf_link.specs.declared.pieces.Piece.TheVariants.{Begins, Plain, Told}
use Rattle.ebpf_link.specs.declared.pieces.Piece.TheVariants as piece

-- the offset from R10 of one of the cells that guards use, which lie below the bytes of a program's own
abbrev pub cell_offset : ℕ → ℕ → ℤ
cell_offset own number = pos 0 -ℤ pos (min own 512 + 8 * (min number 8 + 1))

-- what ends a block run, for guards of a kind that write nothing: R0 gets its word
abbrev pub guard_end : Guard → List Piece
guard_end guard = Plain (Arithmetic Bits64 Move 0 (Immediate (guard_word guard))) ∷ Plain Exit ∷ []

-- is there a guard, and is it of this kind?
abbrev pub is_of_kind : Guard → Option LaidGuard → Bool
is_of_kind guard found = option_map_or (λ laid. guard_index laid.guard == guard_index guard) found false

-- the label of the guard at a place, if that is of a kind
abbrev pub label_of : ℕ → List LaidGuard → Guard → ℕ → List Piece
label_of slots guards guard place = if is_of_kind guard (slice_get guards place) then Begins (guard_label slots place) ∷ [] else []

-- the labels of the guards of a kind, of the first so many guards
abbrev pub labels_of : ℕ → List LaidGuard → Guard → ℕ → List Piece
labels_of slots guards guard zero = []
labels_of slots guards guard (suc place) = labels_of slots guards guard place ++ label_of slots guards guard place

-- what ends a block run behind labels, if there are any
abbrev pub ended_behind : Guard → List Piece → List Piece
ended_behind guard [] = []
ended_behind guard labels = labels ++ guard_end guard

-- the end to which all guards of a kind lead that write nothing
abbrev pub silent_end : ℕ → List LaidGuard → Guard → List Piece
silent_end slots guards guard = ended_behind guard (labels_of slots guards guard (length guards))

abbrev pub silent_ends : ℕ → List LaidGuard → List Piece
silent_ends slots guards = silent_end slots guards kind.Memory
    ++ (silent_end slots guards kind.Emit ++ (silent_end slots guards kind.Block ++ silent_end slots guards kind.Rounds))

-- the label of what writes which guard ended a block run
abbrev pub mark_label : ℕ → ℕ
mark_label slots = slots + 1

-- the end to which the guard at a place leads, of so many guards that write: R0 gets its word, and then the mark is written
abbrev pub told_end : ℕ → ℕ → ℕ → List Piece
told_end slots count place = Begins (guard_label slots place) ∷ Told place
    ∷ (if nat_lt (place + 1) count then piece.Jump (Jump (pos 0)) (mark_label slots) ∷ [] else [])

-- those of the first so many guards
abbrev pub told_ends : ℕ → ℕ → ℕ → List Piece
told_ends slots count zero = []
told_ends slots count (suc place) = told_ends slots count place ++ told_end slots count place

-- what writes the mark from a byte of scratch on, below so many bytes of the stack
abbrev pub mark_pieces : ℕ → ℕ → ℕ → List Piece
mark_pieces slots own at = Begins (mark_label slots) ∷ map Plain (mark_end (cell_offset own 3) (cell_offset own 1) at)

abbrev pub marked_ends : ℕ → ℕ → ℕ → ℕ → List Piece
marked_ends slots count own at = told_ends slots count count ++ mark_pieces slots own at

-- the ends to which guards lead, where they write from a byte of scratch on, or nothing
abbrev pub ends_of : ℕ → List LaidGuard → ℕ → Option ℕ → List Piece
ends_of slots guards own None = silent_ends slots guards
ends_of slots guards own (Some at) = marked_ends slots (length guards) own at

-- what is laid out ends with the ends to which its guards lead
pub record EndsAll (layout : Layout) : Type 0 where
  pub body : List Piece
  pub pieces : layout.pieces.items ≡ body ++ ends_of (length layout.slots.now) layout.guards.items layout.own layout.mark

-- ---- in other words

-- pieces lead from a label to others: after it, and after other labels alone, these come first
pub record LeadsTo (pieces : List Piece) (label : ℕ) (ends : List Piece) : Type 0 where
  pub before : List Piece
  pub labels : List ℕ
  pub behind : List Piece
  pub are : pieces ≡ before ++ (Begins label ∷ (map Begins labels ++ (ends ++ behind)))

-- where guards write nothing, each leads to an end that has the word of its kind
abbrev pub SilentGuardsHaveTheirEnds : Type 0
SilentGuardsHaveTheirEnds = (slots : ℕ) (guards : List LaidGuard) (own place : ℕ) (laid : LaidGuard)
    → slice_get guards place ≡ Some laid → LeadsTo (ends_of slots guards own None) (guard_label slots place) (guard_end laid.guard)

-- where they write, each leads to an end that gives R0 its word, and from there to what writes
abbrev pub LeadsToMark : List Piece → ℕ → ℕ → ℕ → ℕ → Type 0
LeadsToMark pieces slots place own at =
    LeadsTo pieces (guard_label slots place) (Told place ∷ piece.Jump (Jump (pos 0)) (mark_label slots) ∷ [])
    ⊎ LeadsTo pieces (guard_label slots place) (Told place ∷ mark_pieces slots own at)

abbrev pub MarkingGuardsHaveTheirEnds : Type 0
MarkingGuardsHaveTheirEnds = (slots : ℕ) (guards : List LaidGuard) (own place at : ℕ) → place < length guards
    → LeadsToMark (ends_of slots guards own (Some at)) slots place own at
    × LeadsTo (ends_of slots guards own (Some at)) (mark_label slots) (map Plain (mark_end (cell_offset own 3) (cell_offset own 1) at))
