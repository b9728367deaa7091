-- How a command line ends (profile).
use Rattle.std.specs.Prelude.{Option, Some, None, Result, Ok, Err}
use Rattle.command_files.specs.declared.failure.Failure.{Failure}

-- what was done in full, and gives a failure, ends as that failure does
abbrev pub end_of : Result (Option Failure) Failure → Result (Unit {0}) Failure
end_of (Ok None) = Ok tt
end_of (Ok (Some failure)) = Err failure
end_of (Err failure) = Err failure
