-- What a guard that ends a block run leaves in scratch.
use Rattle.std.specs.Prelude.{ℕ, ℤ, List, [], ◌∷◌, Option, Some, None, IsSomeAnd, ◌≡◌, ◌<◌, ◌≤◌, ◌+◌, ◌*◌, ◌+ℤ◌, ◌*ℤ◌, min, pos}
use Rattle.std.specs.Int.{bit_at}
use Rattle.instruction_set.specs.declared.instruction.Instruction.{Instruction}
use Rattle.instruction_set.specs.declared.instruction.Instruction.TheVariants.{Arithmetic, Exit, Load, StoreRegister}
use Rattle.instruction_set.specs.declared.instruction.Source.TheVariants.{Immediate, Register}
use Rattle.instruction_set.specs.declared.operation.Operation.TheVariants.{Add, And, Move, RightShift}
use Rattle.instruction_set.specs.declared.operation.Size.TheVariants.{DoubleWord, Word}
use Rattle.instruction_set.specs.declared.operation.Width.TheVariants.{Bits64}
use Rattle.ebpf_link.specs.declared.fault.LinkFault.{LinkFault}
use Rattle.ebpf_link.specs.declared.fault.LinkFault.TheVariants.{NoMark}
use Rattle.ebpf_link.specs.declared.guards.Guard.{Guard}
use Rattle.ebpf_link.specs.declared.guards.Guard.TheVariants as kind
use Rattle.ebpf_link.specs.declared.layout.LaidGuard.{LaidGuard}
use Rattle.ebpf_link.specs.declared.target.MarkRule.{MarkRule}
use Rattle.ebpf_link.specs.declared.target.MarkRule.TheVariants.{At, Found, Silent}

-- the number of a kind of guards, above that of a slot and of a guard
abbrev pub mark_kind : Guard → ℤ
mark_kind kind.Memory = pos 0x10000000
mark_kind kind.Emit = pos 0x20000000
mark_kind kind.Block = pos 0x30000000
mark_kind kind.Rounds = pos 0x40000000

-- of a set of words of scratch, which has a bit for each, a word and the next one are none
abbrev pub AreFree : ℕ → ℕ → Type 0
AreFree stored word = (word < 127) × (bit_at stored word ≡ 0) × (bit_at stored (word + 1) ≡ 0)

-- a word begins at a byte, and this word and the next one are none of the set
abbrev pub IsPlace : ℕ → ℕ → Type 0
IsPlace stored at = (word : ℕ) × (at ≡ 8 * word) × AreFree stored word

-- the last such place
pub record IsLastPlace (stored at : ℕ) : Type 0 where
  pub place : IsPlace stored at
  pub last : (other : ℕ) → IsPlace stored other → other ≤ at

-- where guards write by a rule, if they do: at its byte, or at the last place
abbrev pub IsMarkPlace : MarkRule → ℕ → Option ℕ → Type 0
IsMarkPlace Silent stored found = found ≡ None
IsMarkPlace (At at) stored found = (found ≡ Some at) × IsPlace stored at
IsMarkPlace Found stored found = IsSomeAnd found (λ at. IsLastPlace stored at)

-- where the guards of a program write by a rule, if there are any and they do
abbrev pub IsPlaceOfMarks : List LaidGuard → MarkRule → ℕ → Option ℕ → Type 0
IsPlaceOfMarks [] marks stored found = found ≡ None
IsPlaceOfMarks guards marks stored found = IsMarkPlace marks stored found

-- that a rule has no place: its byte is none, or there is none at all
abbrev pub LacksPlace : MarkRule → ℕ → LinkFault → Type 0
LacksPlace Silent stored fault = ⊥
LacksPlace (At at) stored fault = (fault ≡ NoMark (Some at)) × (IsPlace stored at → ⊥)
LacksPlace Found stored fault = (fault ≡ NoMark None) × ((at : ℕ) → IsPlace stored at → ⊥)

-- what R0 has where a guard leads to what writes its mark: of 16 bits the guard's number, of 12 its slot, and above these its kind
abbrev pub mark_word : Guard → ℕ → ℕ → ℤ
mark_word guard slot number = mark_kind guard +ℤ (pos (min slot 0xfff) *ℤ pos 0x10000) +ℤ pos (min number 0xffff)

-- what writes the number (u32), the slot (u32) and the block's index (u64) from a byte of scratch on, and ends the block run with the
-- guard's word in R0; words of the stack have the addresses of the context and of scratch
abbrev pub mark_end : ℤ → ℤ → ℕ → List Instruction
mark_end context scratch at = let from = pos (min at 1008) in
    Load DoubleWord 1 10 context ∷ Load Word 1 1 (pos 8)
    ∷ Load DoubleWord 2 10 scratch ∷ StoreRegister DoubleWord 2 1 (from +ℤ pos 8)
    ∷ Arithmetic Bits64 Move 1 (Register 0) ∷ Arithmetic Bits64 And 1 (Immediate (pos 0xffff)) ∷ StoreRegister Word 2 1 from
    ∷ Arithmetic Bits64 RightShift 0 (Immediate (pos 16))
    ∷ Arithmetic Bits64 Move 1 (Register 0) ∷ Arithmetic Bits64 And 1 (Immediate (pos 0xfff)) ∷ StoreRegister Word 2 1 (from +ℤ pos 4)
    ∷ Arithmetic Bits64 RightShift 0 (Immediate (pos 12)) ∷ Arithmetic Bits64 Add 0 (Immediate (pos 0x7000)) ∷ Exit ∷ []
