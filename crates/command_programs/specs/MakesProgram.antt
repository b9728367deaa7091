-- The file that `asm` makes.
use Rattle.std.specs.Prelude.{◌≡◌, ℕ, List, Option, Result, Ok, Err, IfSome}
use Rattle.clap.specs.declared.parser.matches.ArgMatches.{ArgMatches}
use Rattle.ebpf_asm.specs.Assembly.{assembled}
use Rattle.command_files.specs.Arguments.{value_of}
use Rattle.command_files.specs.Made.{Made, then_made}
use Rattle.command_files.specs.declared.arguments.TheConstants.{PROGRAM}
use Rattle.command_programs.specs.declared.asm.TheConstants.{TEXT}

-- the name of the text file that a command line gives
abbrev pub text_file_of : ArgMatches → List ℕ
text_file_of matches = value_of matches TEXT.now

-- the name of the program file that it gives
abbrev pub program_file_of : ArgMatches → List ℕ
program_file_of matches = value_of matches PROGRAM.now

-- a file is made of the bytes that are meant, and something is meant
abbrev pub MakesProgram : {E : Type 0} → Option (List Made) → Option (List Made) → List ℕ → Result (List ℕ) E → Type 0
MakesProgram before after path (Ok bytes) = after ≡ then_made before path bytes
MakesProgram before after path (Err fault) = ⊥

-- the program file is made of the program that the bytes of the text file, where they are told, are assembled to
abbrev pub Assembles : ArgMatches → (List ℕ → Option (List ℕ)) → Option (List Made) → Option (List Made) → Type 0
Assembles matches contents before after =
    IfSome (contents (text_file_of matches)) (λ text. MakesProgram before after (program_file_of matches) (assembled text))
