-- Remainders, and what clang makes of them.
use Rattle.std.specs.Prelude.{ℕ, ◌≡◌, ◌<◌, ◌^◌}
use Rattle.instruction_set.specs.declared.operation.Operation.TheVariants.{Divide, Modulo, Multiply, Subtract}
use Rattle.instruction_set.specs.declared.operation.Width.{Width}
use Rattle.program_meaning.specs.Word.{bits, result_of}

-- n - n / c * c is the remainder of n by c, also where c is 0
abbrev pub RemaindersAreDifferences : Type 0
RemaindersAreDifferences = (width : Width) (n c : ℕ) → n < 2 ^ bits width → c < 2 ^ bits width
    → result_of width Subtract n (result_of width Multiply (result_of width Divide n c) c) ≡ result_of width Modulo n c
