-- The numbers that words spell (profile).
use Rattle.std.specs.Prelude.{ℕ, ◌^◌, nat_lt, ◌&&◌, if◌then◌else◌, List, length, Option, Some, None}
use Rattle.std.specs.List.{list_all}
use Rattle.std.specs.Char.{is_digit}
use Rattle.std.specs.Str.Parse.{digits_value}

-- the number that one digit of a radix or more spell, leading zeros allowed, if it is below a bound
unfoldable pub number_below : ℕ → ℕ → List ℕ → Option ℕ
number_below bound radix word =
    if list_all (λ byte. is_digit byte radix) word && (nat_lt 0 (length word) && nat_lt (digits_value radix word) bound)
    then Some (digits_value radix word) else None

-- the number below 2 ^ 32 that decimal digits spell
abbrev pub decimal_of : List ℕ → Option ℕ
decimal_of word = number_below (2 ^ 32) 10 word
