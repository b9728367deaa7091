-- Guards, and the compares that lead to their ends.
use Rattle.std.specs.Prelude.{ℕ, ℤ, List, [], ◌∷◌, ◌+◌, ◌++◌, ◌≡◌, IsSomeAnd, min, pos, length, slice_get, slice_index}
use Rattle.instruction_set.specs.declared.instruction.Instruction.{Instruction}
use Rattle.instruction_set.specs.declared.instruction.Instruction.TheVariants.{Branch, Jump}
use Rattle.instruction_set.specs.declared.instruction.Source.TheVariants.{Immediate}
use Rattle.instruction_set.specs.declared.operation.Relation.{Relation}
use Rattle.instruction_set.specs.declared.operation.Width.TheVariants.{Bits64}
use Rattle.ebpf_link.specs.declared.guards.Guard.{Guard}
use Rattle.ebpf_link.specs.declared.guards.Guard.TheVariants as kind
use Rattle.ebpf_link.specs.declared.guards.Need.{Need}
use Rattle.ebpf_link.specs.declared.guards.Need.TheVariants as need
use Rattle.ebpf_link.specs.declared.layout.LaidGuard.{LaidGuard}
use Rattle.ebpf_link.specs.declared.layout.Layout.{Layout}
use Rattle.ebpf_link.specs.declared.pieces.Piece.{Piece}
use Rattle.ebpf_link.specs.declared.pieces.Piece.TheVariants as piece

-- the number of a kind of guards
abbrev pub guard_index : Guard → ℕ
guard_index kind.Memory = 0
guard_index kind.Emit = 1
guard_index kind.Block = 2
guard_index kind.Rounds = 3

-- what R0 has where a guard ends the block run
abbrev pub guard_word : Guard → ℤ
guard_word kind.Memory = pos 0x7001
guard_word kind.Emit = pos 0x7002
guard_word kind.Block = pos 0x7003
guard_word kind.Rounds = pos 0x7004

-- a guard is of this kind, in front of this slot, and this must hold there
pub record IsOf (guard : Guard) (slot : ℕ) (need : Need) (laid : LaidGuard) : Type 0 where
  pub same_kind : laid.guard ≡ guard
  pub same_slot : laid.place.slot ≡ slot
  pub same_need : laid.place.need ≡ need

-- such a guard has this place among all
abbrev pub IsGuardAt : List LaidGuard → ℕ → Guard → ℕ → Need → Type 0
IsGuardAt guards place guard slot need = IsSomeAnd (slice_get guards place) (IsOf guard slot need)

-- each guard has its place still
abbrev pub KeepsGuards : List LaidGuard → List LaidGuard → Type 0
KeepsGuards before after = (more : List LaidGuard) × (after ≡ before ++ more)

-- the label of the end to which the guard at a place among all leads, of a program of so many slots
abbrev pub guard_label : ℕ → ℕ → ℕ
guard_label slots place = slots + 2 + min place 0x100000

-- a compare, or a jump, that leads there
abbrev pub guard_piece : ℕ → ℕ → Instruction → Piece
guard_piece slots place jump = piece.Jump jump (guard_label slots place)

-- one piece more: a compare, or a jump, that leads to the end of a guard, which is of this kind, in front of the slot that is laid out, and
-- has this need
pub record IsGuarded (before after : Layout) (jump : Instruction) (guard : Guard) (need : Need) (place : ℕ) : Type 0 where
  pub one_more : after.pieces.items ≡ before.pieces.items ++ (guard_piece (length before.slots.now) place jump ∷ [])
  pub noted : IsGuardAt after.guards.items place guard before.here need
  pub kept : KeepsGuards before.guards.items after.guards.items

-- so it is for some guard
abbrev pub IsGuardedBy : Layout → Layout → Instruction → Guard → Need → Type 0
IsGuardedBy before after jump guard need = (place : ℕ) × IsGuarded before after jump guard need place

-- a 64-bit compare with a number
abbrev pub compare_with : Relation → ℕ → ℤ → Instruction
compare_with relation dst number = Branch Bits64 relation dst (Immediate number) (pos 0)

-- where a loop is laid out no further, each way to its first slot ends the block run: it leads to a guard that says after how many rounds
pub record IsCut (before after : Layout) (head place : ℕ) : Type 0 where
  pub pieces : after.pieces.items
      ≡ before.pieces.items ++ (piece.Begins head ∷ guard_piece (length before.slots.now) place (Jump (pos 0)) ∷ [])
  pub noted : IsGuardAt after.guards.items place kind.Rounds head (need.Rounds (slice_index before.caps.now head))
