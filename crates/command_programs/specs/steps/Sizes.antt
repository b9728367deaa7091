-- What a user says may be emitted for a block.
use Rattle.std.specs.Prelude.{◌≡◌, ℕ, List, codes}
use Rattle.std.specs.Borrow.{Bor}
use Rattle.clap.specs.declared.parser.matches.ArgMatches.{ArgMatches}
use Rattle.command_files.specs.declared.failure.Failure.{Failure}
use Rattle.command_files.specs.UserTold.{SpellsNone}

-- the failure tells `--emit`, whose word is no number of 32 bits
pub record SpellsNoLimit (matches : ArgMatches) (failure : Failure) : Type 0 where
  pub option : Bor (List ℕ)
  pub named : option.now ≡ codes "emit"
  pub spells : SpellsNone matches option 0 4294967295 failure
