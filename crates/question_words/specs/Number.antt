-- Numbers in words.
use Rattle.std.specs.Prelude.{ℕ, ℤ, pos, neg_ℤ, ◌^◌, ◌&&◌, ◌==◌, nat_lt, if◌then◌else◌, List, length, drop, slice_index, Result, Ok, Err}
use Rattle.std.specs.List.{list_all}
use Rattle.std.specs.Char.{is_digit}
use Rattle.std.specs.Str.Parse.{digits_value}
use Rattle.common_definitions.specs.Readings.{◌>>=◌}
use Rattle.question_words.specs.declared.fault.FaultKind.{FaultKind}
use Rattle.question_words.specs.declared.fault.FaultKind.TheVariants.{Number, Range}

-- one digit or more; no field holds a number of 2 ^ 64 or more
abbrev pub numeral_of : ℕ → List ℕ → Result ℕ FaultKind
numeral_of radix text =
    if length text == 0 then Err Number
    else (if list_all (λ byte. is_digit byte radix) text
    then (if nat_lt (digits_value radix text) (2 ^ 64) then Ok (digits_value radix text) else Err Range)
    else Err Number)

-- a number without a sign: hexadecimal after `0x`, else decimal
abbrev pub magnitude_of : List ℕ → Result ℕ FaultKind
magnitude_of text =
    if slice_index text 0 == 48 && slice_index text 1 == 120 then numeral_of 16 (drop 2 text) else numeral_of 10 text

-- a number: decimal after a `-`, or one without a sign
abbrev pub literal_of : List ℕ → Result ℤ FaultKind
literal_of text =
    if slice_index text 0 == 45 then (numeral_of 10 (drop 1 text) >>= λ n. Ok (neg_ℤ (pos n)))
    else (magnitude_of text >>= λ n. Ok (pos n))
