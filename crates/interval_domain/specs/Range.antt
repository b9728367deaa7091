-- Arithmetic on words between bounds, which are numbers of the instruction's width (profile). The
-- rules are those for operands of which not all are single.
use Rattle.std.specs.Prelude.{ℕ, ◌+◌, ◌-◌, ◌*◌, ◌/◌, ◌^◌, ◌==◌, ◌&&◌, nat_lt, nat_le, min, if◌then◌else◌}
use Rattle.instruction_set.specs.declared.operation.Operation.{Operation}
use Rattle.instruction_set.specs.declared.operation.Operation.TheVariants.{Add, Subtract, Multiply, Divide, SignedDivide, Or, And, LeftShift, RightShift, Modulo, SignedModulo, Xor, Move, ArithmeticShift}
use Rattle.instruction_set.specs.declared.operation.Width.{Width}
use Rattle.program_meaning.specs.Word.{bits, count}
use Rattle.interval_domain.specs.Fact.{is_single, range, single}
use Rattle.word_domain.specs.declared.bounds.Bounds.{Bounds}

-- the number of numbers of a width
abbrev pub number_count : Width → ℕ
number_count w = 2 ^ bits w

-- all numbers of a width
abbrev pub top : Width → Bounds
top w = range 0 (number_count w - 1)

-- a number below this has no sign in a width
abbrev pub half : Width → ℕ
half w = number_count w / 2

-- a sum that may wrap, but then does for all operands, or any number
abbrev pub sum : Width → Bounds → Bounds → Bounds
sum w d s =
    if nat_lt (d.high + s.high) (number_count w) then range (d.low + s.low) (d.high + s.high) else
    if nat_le (number_count w) (d.low + s.low) then range (d.low + s.low - number_count w) (d.high + s.high - number_count w) else
    top w

-- the same for a difference
abbrev pub difference : Width → Bounds → Bounds → Bounds
difference w d s =
    if nat_le s.high d.low then range (d.low - s.high) (d.high - s.low) else
    if nat_lt d.high s.low then range (number_count w + d.low - s.high) (number_count w + d.high - s.low) else
    top w

-- a product, which none of the operands takes past the width, or any number
abbrev pub product : Width → Bounds → Bounds → Bounds
product w d s =
    if nat_lt (d.high * s.high) (number_count w) then range (d.low * s.low) (d.high * s.high) else top w

-- a quotient, where a division by zero gives 0
abbrev pub quotient : Bounds → Bounds → Bounds
quotient d s =
    if s.high == 0 then single 0 else
    if nat_le 1 s.low then range (d.low / s.high) (d.high / s.low) else
    range 0 d.high

-- a remainder, where a modulo by zero leaves the destination
abbrev pub remainder : Bounds → Bounds → Bounds
remainder d s =
    if nat_le 1 s.low && nat_lt d.high s.low then d else
    if nat_le 1 s.low then range 0 (min d.high (s.high - 1)) else
    range 0 d.high

-- these bounds where both operands have no sign, or any number
abbrev pub if_unsigned : Width → Bounds → Bounds → Bounds → Bounds
if_unsigned w d s bounds = if nat_lt d.high (half w) && nat_lt s.high (half w) then bounds else top w

-- bits that both have: no more than the lesser of the greatest numbers
abbrev pub conjunction : Bounds → Bounds → Bounds
conjunction d s = range 0 (min d.high s.high)

-- a shift to the left by a count, which takes none past the width, or any number
abbrev pub shifted_left_by : Width → ℕ → Bounds → Bounds
shifted_left_by w c d = if nat_lt (d.high * 2 ^ c) (number_count w) then range (d.low * 2 ^ c) (d.high * 2 ^ c) else top w

-- the same by a count that is known, or any number
abbrev pub shifted_left : Width → Bounds → Bounds → Bounds
shifted_left w d s = if is_single s then shifted_left_by w (count w s.low) d else top w

-- a shift to the right by a count, with zeros from the left
abbrev pub shifted_right_by : ℕ → Bounds → Bounds
shifted_right_by c d = range (d.low / 2 ^ c) (d.high / 2 ^ c)

-- the same by a count that is known, or no more than before
abbrev pub shifted_right : Width → Bounds → Bounds → Bounds
shifted_right w d s = if is_single s then shifted_right_by (count w s.low) d else range 0 d.high

-- what each operation of a width makes of numbers between bounds
abbrev pub combined : Width → Operation → Bounds → Bounds → Bounds
combined w Add d s = sum w d s
combined w Subtract d s = difference w d s
combined w Multiply d s = product w d s
combined w Divide d s = quotient d s
combined w SignedDivide d s = if_unsigned w d s (quotient d s)
combined w Or d s = top w
combined w And d s = conjunction d s
combined w LeftShift d s = shifted_left w d s
combined w RightShift d s = shifted_right w d s
combined w Modulo d s = remainder d s
combined w SignedModulo d s = if_unsigned w d s (remainder d s)
combined w Xor d s = top w
combined w Move d s = s
combined w ArithmeticShift d s = if nat_lt d.high (half w) then shifted_right w d s else top w
