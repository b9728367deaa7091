-- What the words of `serve` ask for (profile).
use Rattle.std.specs.Prelude.{ℕ, Bool, bytes_eq, codes, if◌then◌else◌, List}
use Rattle.clap.specs.declared.parser.matches.ArgMatches.{ArgMatches}
use Rattle.command_files.specs.Arguments.{value_of}
use Rattle.command_serve.specs.declared.serve.TheConstants.{DRAIN, DURABLE, FRAMES}

-- a flag with this name is given
abbrev pub asks_for : ArgMatches → List ℕ → Bool
asks_for matches name = bytes_eq (value_of matches name) (codes "true")

-- requests come in frames, and not as lines
abbrev pub asks_frames : ArgMatches → Bool
asks_frames matches = asks_for matches FRAMES.now

-- the runs are given all of their turns meanwhile
abbrev pub asks_drain : ArgMatches → Bool
asks_drain matches = asks_for matches DRAIN.now

-- how many turns the runs are given at most between two reads of frames: all, where it is asked for
abbrev pub turns_between : ArgMatches → ℕ
turns_between matches = if asks_drain matches then 4294967295 else 0

-- what is answered is to be on the disk
abbrev pub asks_durable : ArgMatches → Bool
asks_durable matches = asks_for matches DURABLE.now
