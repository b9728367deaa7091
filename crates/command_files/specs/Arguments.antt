-- The words that follow a command's name.
use Rattle.std.specs.Prelude.{ℕ, List, [], Option, unwrap_or}
use Rattle.clap.specs.Matches.{found_of, first_value}
use Rattle.clap.specs.declared.parser.matches.ArgMatches.{ArgMatches}
use Rattle.text_lines.specs.Number.{decimal_of}
use Rattle.command_files.specs.Number.{decimal_or_hexadecimal}

-- the value of an argument, by its name, or no bytes where it has none
abbrev pub value_of : ArgMatches → List ℕ → List ℕ
value_of matches id = unwrap_or (first_value (found_of matches) id) []

-- the number that it spells in decimal digits, if it spells one
abbrev pub number_of : ArgMatches → List ℕ → Option ℕ
number_of matches id = decimal_of (value_of matches id)

-- the number that it spells in decimal digits, or in hexadecimal ones behind `0x`, if it spells one
abbrev pub number_or_hexadecimal_of : ArgMatches → List ℕ → Option ℕ
number_or_hexadecimal_of matches id = decimal_or_hexadecimal (value_of matches id)
