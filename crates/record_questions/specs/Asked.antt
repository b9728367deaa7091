-- Which questions can be asked.
use Rattle.std.specs.Prelude.{ℕ, ℤ, pos, neg_ℤ, ◌≡◌, ◌≤◌, ◌≤ℤ◌, ◌<ℤ◌, ◌+◌, ◌*◌, ◌^◌, List, [], ◌∷◌, length, Option, Some, None, ⊤}
use Rattle.common_definitions.specs.Bytes.{AreBytes}
use Rattle.program_interface.specs.declared.area.TheConstants.{SCRATCH_BYTES, STACK_BYTES}
use Rattle.instruction_set.specs.Instruction.{size_of}
use Rattle.record_questions.specs.declared.question.Sign.{Sign}
use Rattle.record_questions.specs.declared.question.Sign.TheVariants.{Unsigned, Signed}
use Rattle.record_questions.specs.declared.question.Field.{Field}
use Rattle.record_questions.specs.declared.question.Operand.{Operand}
use Rattle.record_questions.specs.declared.question.Operand.TheVariants as operands
use Rattle.record_questions.specs.declared.question.Predicate.{Predicate}
use Rattle.record_questions.specs.declared.question.Predicate.TheVariants.{Compare, Bytes, And', Or', Not'}
use Rattle.record_questions.specs.declared.question.ByteRange.{ByteRange}
use Rattle.record_questions.specs.declared.question.Tally.{Tally}
use Rattle.record_questions.specs.declared.question.Tally.TheVariants.{Count, Sum, Least, Greatest}
use Rattle.record_questions.specs.declared.question.Grouping.{Grouping}
use Rattle.record_questions.specs.declared.question.Question.{Question}
use Rattle.record_questions.specs.Tallies.{words_of}

-- a field lies in a record of so many bytes
abbrev pub IsField : ℕ → Field → Type 0
IsField bytes f = f.offset + size_of f.size ≤ bytes

-- a number that 64 bits hold
abbrev pub IsNumber : Sign → ℤ → Type 0
IsNumber Unsigned z = (pos 0 ≤ℤ z) × (z <ℤ pos (2 ^ 64))
IsNumber Signed z = (neg_ℤ (pos (2 ^ 63)) ≤ℤ z) × (z <ℤ pos (2 ^ 63))

-- what a field of this sign can be compared with: of fields one of the same sign
abbrev pub IsOperand : ℕ → Sign → Operand → Type 0
IsOperand bytes sign (operands.Number z) = IsNumber sign z
IsOperand bytes sign operands.Argument = ⊤
IsOperand bytes sign (operands.Field f) = IsField bytes f × (f.sign ≡ sign)

-- what a predicate looks at is some bytes that lie in a record of so many, and its numbers have 64 bits
abbrev pub IsPredicate : ℕ → Predicate → Type 0
IsPredicate bytes (Compare f comparison operand) = IsField bytes f × IsOperand bytes f.sign operand
IsPredicate bytes (Bytes offset these) = (1 ≤ length these.items) × (offset + length these.items ≤ bytes) × AreBytes these.items
IsPredicate bytes (And' x p y q) = IsPredicate bytes p × IsPredicate bytes q
IsPredicate bytes (Or' x p y q) = IsPredicate bytes p × IsPredicate bytes q
IsPredicate bytes (Not' x p) = IsPredicate bytes p

-- some bytes of a record of so many
abbrev pub IsRange : ℕ → ByteRange → Type 0
IsRange bytes range = (1 ≤ range.size) × (range.offset + range.size ≤ bytes)

abbrev pub AreRanges : ℕ → List ByteRange → Type 0
AreRanges bytes [] = ⊤
AreRanges bytes (range ∷ ranges) = IsRange bytes range × AreRanges bytes ranges

-- how many bytes ranges have
abbrev pub emitted_bytes : List ByteRange → ℕ
emitted_bytes [] = 0
emitted_bytes (range ∷ ranges) = range.size + emitted_bytes ranges

-- how many bytes of the stack they take: none where there is one range, since that is emitted from the block
abbrev pub stacked_bytes : List ByteRange → ℕ
stacked_bytes [] = 0
stacked_bytes (range ∷ []) = 0
stacked_bytes (first ∷ second ∷ more) = emitted_bytes (first ∷ second ∷ more)

-- a tally of a record of so many bytes
abbrev pub IsTally : ℕ → Tally → Type 0
IsTally bytes Count = ⊤
IsTally bytes (Sum f) = IsField bytes f
IsTally bytes (Least f) = IsField bytes f
IsTally bytes (Greatest f) = IsField bytes f

abbrev pub AreTallies : ℕ → List Tally → Type 0
AreTallies bytes [] = ⊤
AreTallies bytes (t ∷ ts) = IsTally bytes t × AreTallies bytes ts

-- groups by an unsigned field of a record of so many bytes: one at least, of values below 2^16
abbrev pub IsGrouping : ℕ → Option Grouping → Type 0
IsGrouping bytes None = ⊤
IsGrouping bytes (Some by) =
    IsField bytes by.field × (by.field.sign ≡ Unsigned) × (1 ≤ by.values) × (by.first + by.values ≤ 2 ^ 16)

-- a question that can be asked of blocks of so many bytes: it has records, of at least a byte, they lie in a block, what it looks at
-- lies in a record, several ranges fit the stack, and each tally of each group has a word of scratch
pub record IsQuestion (block : ℕ) (q : Question) : Type 0 where
  pub some_bytes : 1 ≤ q.size
  pub some_records : 1 ≤ q.count
  pub inside : q.first + q.count * q.size ≤ block
  pub wanted : IsPredicate q.size q.wanted
  pub emitted : AreRanges q.size q.emitted.items
  pub stacked : stacked_bytes q.emitted.items ≤ STACK_BYTES
  pub tallies : AreTallies q.size q.tallies.items
  pub by : IsGrouping q.size q.by
  pub few_tallies : 8 * words_of q ≤ SCRATCH_BYTES
