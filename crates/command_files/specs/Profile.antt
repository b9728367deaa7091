-- The profiles, and what a user is told of one that there isn't (profile).
use Rattle.std.specs.Prelude.{◌≡◌, ℕ, List, codes}
use Rattle.std.specs.Borrow.{Bor}
use Rattle.clap.specs.declared.parser.matches.ArgMatches.{ArgMatches}
use Rattle.address_domain.specs.Addresses.{addresses}
use Rattle.interval_domain.specs.Intervals.{intervals}
use Rattle.interval_domain.specs.declared.fact.Fact.{Fact}
use Rattle.word_domain.specs.Domain.{Operations}
use Rattle.command_files.specs.declared.failure.Failure.{Failure}
use Rattle.command_files.specs.UserTold.{SpellsNone}
use Rattle.command_files.specs.declared.profile.Profile.{Profile}
use Rattle.command_files.specs.declared.profile.Profile.TheVariants.{Two, Three}

-- the number of a profile
abbrev pub profile_number : Profile → ℕ
profile_number Two = 2
profile_number Three = 3

-- the operations by which a profile judges
abbrev pub operations_of : Profile → Operations Fact
operations_of Two = intervals
operations_of Three = addresses

-- the failure tells `--profile`, whose word is no number from 2 to 3
pub record IsToldOfProfile (matches : ArgMatches) (failure : Failure) : Type 0 where
  pub option : Bor (List ℕ)
  pub named : option.now ≡ codes "profile"
  pub spells : SpellsNone matches option 2 3 failure
