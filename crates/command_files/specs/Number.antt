-- The numbers that words of a command line spell, beside those in decimal digits alone, below 2 ^ 32, which `text_lines` reads
-- (profile). Those without a sign in a program's text are spelled so too, where `ebpf_asm` also tells what is wrong with one.
use Rattle.std.specs.Prelude.{ℕ, ◌^◌, ◌==◌, if◌then◌else◌, List, drop, codes, Option}
use Rattle.std.specs.List.{starts_with}
use Rattle.text_lines.specs.Number.{number_below}

-- one digit or more, leading zeros allowed, of a number below 2 ^ 64
abbrev pub numeral_of : ℕ → List ℕ → Option ℕ
numeral_of radix digits = number_below (2 ^ 64) radix digits

-- hexadecimal digits behind `0x`, else decimal ones
unfoldable pub decimal_or_hexadecimal : List ℕ → Option ℕ
decimal_or_hexadecimal word =
    if starts_with (λ a b. a == b) word (codes "0x") then numeral_of 16 (drop 2 word) else numeral_of 10 word
