-- What the words of a command line ask for.
use Rattle.std.specs.Prelude.{◌≡◌, ℕ, Bool, List, codes, bytes_eq, Option, Some, None, Ok, IfSome}
use Rattle.clap.specs.Matches.{found_of, first_value}
use Rattle.clap.specs.declared.parser.matches.ArgMatches.{ArgMatches}
use Rattle.ebpf_decode.specs.Reading.{decoded_program}
use Rattle.instruction_set.specs.declared.instruction.Instruction.{Instruction}
use Rattle.program_interface.specs.RunSizes.{Sizes, sizes_with}
use Rattle.command_files.specs.Arguments.{number_of, value_of}

-- is this flag set?
abbrev pub is_set : ArgMatches → List ℕ → Bool
is_set matches flag = bytes_eq (value_of matches flag) (codes "true")

-- the bytes of a file, where they are told, spell this program
abbrev pub Spell : Option (List ℕ) → List (Option Instruction) → Type 0
Spell bytes program = IfSome bytes (λ bytes. decoded_program bytes ≡ Ok program)

-- as many bytes may be emitted as `--emit` says, or none where it says nothing
abbrev pub IsLimit : ArgMatches → Option (List ℕ) → ℕ → Type 0
IsLimit matches None limit = limit ≡ 0
IsLimit matches (Some word) limit = number_of matches (codes "emit") ≡ Some limit

-- the sizes are those of a block of so many bytes, for which as many may be emitted as the command line says
pub record AsksForSizes (matches : ArgMatches) (block : ℕ) (sizes : Sizes) : Type 0 where
  pub limit : ℕ
  pub limited : IsLimit matches (first_value (found_of matches) (codes "emit")) limit
  pub fits : sizes_with block limit ≡ Some sizes
