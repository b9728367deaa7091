-- Each version's blocks and zones are some that there are, and the last version has all of them.
use Rattle.std.proofs.Common.{◌≡◌, ℕ, true, arith, lit≤}
use Rattle.std.proofs.lemmas.Bool.Decides.{nat_tests}
use Rattle.program_interface.specs.BlockSize.{IsBlockSize}
use Rattle.image_text.specs.declared.version.Version.TheVariants.{One, Two}
use Rattle.image_text.specs.Laws.{LastVersionHasAll, VersionsAreKnown}
use Rattle.image_text.specs.Version.{has_block}

old_block : (bytes : ℕ) → has_block One bytes ≡ true → IsBlockSize bytes
old_block bytes e = grind (arith, nat_tests)

-- each version's blocks and zones are some that there are
pub version_known : VersionsAreKnown
version_known One = (old_block, lit≤ tt)
version_known Two = (λ bytes e. e, omega arith)

-- the last version has the shape of each namespace
pub last_version_has_all : LastVersionHasAll
last_version_has_all s known = record { block = known.block_size; zones = known.zones_most }
