-- Arithmetic on facts (profile).
use Rattle.std.specs.Prelude.{ℕ, ℤ, Bool, Option, Some, None, ◌-◌, ◌%◌, ◌^◌, ◌+ℤ◌, ◌-ℤ◌, ◌&&◌, ◌||◌, nat_lt, nat_le, if◌then◌else◌}
use Rattle.instruction_set.specs.Spelling.{extension_width}
use Rattle.instruction_set.specs.declared.operation.Operation.{Operation}
use Rattle.instruction_set.specs.declared.operation.Operation.TheVariants.{Add, Subtract, Move}
use Rattle.instruction_set.specs.declared.operation.SignExtension.{SignExtension}
use Rattle.instruction_set.specs.declared.operation.SignExtension.TheVariants.{Bits8To32, Bits16To32, Bits8To64, Bits16To64, Bits32To64}
use Rattle.instruction_set.specs.declared.operation.SwapSize.{SwapSize}
use Rattle.instruction_set.specs.declared.operation.SwapSize.TheVariants as kept
use Rattle.instruction_set.specs.declared.operation.Width.{Width}
use Rattle.instruction_set.specs.declared.operation.Width.TheVariants.{Bits32, Bits64}
use Rattle.program_meaning.specs.Word.{computed, signed}
use Rattle.program_interface.specs.declared.area.Area.{Area}
use Rattle.program_meaning.specs.declared.word.Arithmetic.{Arithmetic}
use Rattle.program_meaning.specs.declared.word.Arithmetic.TheVariants.{Binary, Negate, MoveSigned, SwapBytes}
use Rattle.interval_domain.specs.Fact.{bounds_of, full, is_single, pointer_to, range, single}
use Rattle.interval_domain.specs.Range.{combined, difference, sum, top}
use Rattle.word_domain.specs.declared.bounds.Bounds.{Bounds}
use Rattle.interval_domain.specs.declared.fact.Fact.{Fact}
use Rattle.interval_domain.specs.declared.fact.Fact.TheVariants.{Words, Pointer}

-- ---- pointers

-- the bounds of words as signed numbers, where all have one sign
abbrev pub signed_bounds : Bounds → Option (ℤ × ℤ)
signed_bounds b =
    if nat_lt b.high (2 ^ 63) || nat_le (2 ^ 63) b.low
    then Some (signed Bits64 b.low, signed Bits64 b.high)
    else None

-- a pointer moved on by a signed number between bounds
abbrev pub moved_on : Area → ℤ → ℤ → Option (ℤ × ℤ) → Fact
moved_on area low high None = Words full
moved_on area low high (Some by) = pointer_to area (low +ℤ by.0) (high +ℤ by.1)

-- a pointer moved back by a signed number between bounds
abbrev pub moved_back : Area → ℤ → ℤ → Option (ℤ × ℤ) → Fact
moved_back area low high None = Words full
moved_back area low high (Some by) = pointer_to area (low -ℤ by.1) (high -ℤ by.0)

-- a 64-bit sum, which may be that of a pointer and a word
abbrev pub sum_of : Fact → Fact → Fact
sum_of (Words d) (Words s) = Words (sum Bits64 d s)
sum_of (Pointer area low high) (Words s) = moved_on area low high (signed_bounds s)
sum_of (Words d) (Pointer area low high) = moved_on area low high (signed_bounds d)
sum_of (Pointer _ _ _) (Pointer _ _ _) = Words full

-- a 64-bit difference, which may be that of a pointer and a word
abbrev pub difference_of : Fact → Fact → Fact
difference_of (Words d) (Words s) = Words (difference Bits64 d s)
difference_of (Pointer area low high) (Words s) = moved_back area low high (signed_bounds s)
difference_of _ (Pointer _ _ _) = Words full

-- ---- both widths

-- an operand of 32-bit arithmetic: its low 32 bits, where they are known
abbrev pub cut : Bounds → Bounds
cut b =
    if is_single b then single (b.low % 2 ^ 32) else
    if nat_lt b.high (2 ^ 32) then b else
    top Bits32

-- an operand at a width, where a pointer counts as every word
abbrev pub operand_of : Width → Fact → Bounds
operand_of Bits32 f = cut (bounds_of f)
operand_of Bits64 f = bounds_of f

-- a move keeps a pointer; but for it, sums and differences, a pointer counts as every word
abbrev pub combined_64 : Operation → Fact → Fact → Fact
combined_64 Add d s = sum_of d s
combined_64 Subtract d s = difference_of d s
combined_64 Move d s = s
combined_64 operation d s = Words (combined Bits64 operation (bounds_of d) (bounds_of s))

-- what an operation of a width makes of two facts
abbrev pub combined_of : Width → Operation → Fact → Fact → Fact
combined_of Bits32 operation d s = Words (combined Bits32 operation (operand_of Bits32 d) (operand_of Bits32 s))
combined_of Bits64 operation d s = combined_64 operation d s

-- ---- one operand

-- the numbers below this have no sign in what a sign-extending move takes of its source
abbrev pub unsigned_below : SignExtension → ℕ
unsigned_below Bits8To32 = 2 ^ 7
unsigned_below Bits16To32 = 2 ^ 15
unsigned_below Bits8To64 = 2 ^ 7
unsigned_below Bits16To64 = 2 ^ 15
unsigned_below Bits32To64 = 2 ^ 31

-- what a sign-extending move makes of its source
abbrev pub extended_of : SignExtension → Bounds → Bounds
extended_of extension s = if nat_lt s.high (unsigned_below extension) then s else top (extension_width extension)

-- what a byte swap gives, in either class: any number of the bits that it keeps
abbrev pub swapped_of : SwapSize → Bounds
swapped_of kept.Bits16 = range 0 (2 ^ 16 - 1)
swapped_of kept.Bits32 = range 0 (2 ^ 32 - 1)
swapped_of kept.Bits64 = full

-- ---- all

-- is the word known?
abbrev pub is_known : Fact → Bool
is_known f = is_single (bounds_of f)

-- is each operand that the instruction takes a single word?
abbrev pub are_known : Arithmetic → Fact → Fact → Bool
are_known (Binary width Move) d s = is_known s
are_known (Binary width operation) d s = is_known d && is_known s
are_known (Negate width) d s = is_known d
are_known (MoveSigned extension) d s = is_known s
are_known (SwapBytes swap size) d s = is_known d

-- the fact of the destination where not all operands are single
abbrev pub estimated : Arithmetic → Fact → Fact → Fact
estimated (Binary width operation) d s = combined_of width operation d s
estimated (Negate width) d s = Words (top width)
estimated (MoveSigned extension) d s = Words (extended_of extension (operand_of (extension_width extension) s))
estimated (SwapBytes swap size) d s = Words (swapped_of size)

-- the fact of the destination after an arithmetic instruction
abbrev pub alu_of : Arithmetic → Fact → Fact → Fact
alu_of arithmetic d s =
    if are_known arithmetic d s
    then Words (single (computed arithmetic (bounds_of d).low (bounds_of s).low))
    else estimated arithmetic d s
