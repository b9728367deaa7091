-- The files that a question makes.
use Rattle.std.specs.Prelude.{◌≡◌, ℕ, List, []}
use Rattle.clap.specs.declared.parser.matches.ArgMatches.{ArgMatches}
use Rattle.command_files.specs.Arguments.{value_of}
use Rattle.command_query.specs.declared.destination.TheConstants.{INTO}
use Rattle.command_query.specs.declared.told.TheConstants.{PROGRAM}

-- the name of the file that is to have the question's program; nothing where none is wanted
abbrev pub program_file : ArgMatches → List ℕ
program_file matches = value_of matches PROGRAM.now

-- neither its program is wanted, nor is a zone of the image to keep the answer
abbrev pub AsksNoFile : ArgMatches → Type 0
AsksNoFile matches = (program_file matches ≡ []) × (value_of matches INTO.now ≡ [])
