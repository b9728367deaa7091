-- What the user is told of an image that isn't made or loaded (profile).
use Rattle.std.specs.Borrow.{Bor}
use Rattle.std.specs.Prelude.{ℕ, ◌≡◌, List, [], ◌∷◌, codes, Option, IfSome, Err}
use Rattle.std.specs.List.{Contains}
use Rattle.clap.specs.declared.parser.matches.ArgMatches.{ArgMatches}
use Rattle.image_store.specs.Geometry.{Shape, tested}
use Rattle.image_text.specs.Reading.{namespace_in}
use Rattle.image_store.specs.declared.geometry.GeometryRefusal.{GeometryRefusal}
use Rattle.command_files.specs.declared.failure.Failure.{Failure}
use Rattle.command_files.specs.declared.failure.Failure.TheVariants.{NotInRange, CannotRead, CannotWrite, DeviceRefused, JournalRefused, NoMemory, NotAnImage, GeometryRefused, ImageRefused}
use Rattle.command_files.specs.UserTold.{IsUnwritten, SpellsNone}
use Rattle.command_images.specs.Devices.{AreFaulty, StandForNone, TellMore}
use Rattle.command_images.specs.Images.{IsAnother, IsAskedFor, IsForced}

-- the options that give the numbers of a shape
abbrev pub shape_options : List (List ℕ)
shape_options = codes "block" ∷ codes "zones" ∷ codes "size" ∷ codes "capacity" ∷ codes "open" ∷ codes "active" ∷ []

-- of the shape that the options ask for, the first test that it fails is told, with its numbers
pub record FailsTest (matches : ArgMatches) (refusal : GeometryRefusal) : Type 0 where
  pub shape : Shape
  pub asked : IsAskedFor matches shape
  pub fails : tested shape ≡ Err refusal

-- why there is no shape: the word of one of these options spells no number of 32 bits, or the shape fails a test, and
-- nothing else
abbrev pub RefusesShape : ArgMatches → Failure → Type 0
RefusesShape matches (NotInRange option word least most) =
    Contains shape_options option.now × SpellsNone matches option 0 4294967295 (NotInRange option word least most)
RefusesShape matches (GeometryRefused refusal) = FailsTest matches refusal
RefusesShape matches _ = ⊥

-- why `format` makes no image: that, a file whose bytes, where they are told, are others than those of an image, and not asked
-- for by force, a file that can't be written, or want of memory, and nothing else
abbrev pub FormatFails : ArgMatches → Option (List ℕ) → List ℕ → Failure → Type 0
FormatFails matches bytes path (NotAnImage told) = (told.now ≡ path) × IsAnother bytes × ¬ IsForced matches
FormatFails matches bytes path (CannotWrite told cause) = told.now ≡ path
FormatFails matches bytes path NoMemory = Unit {0}
FormatFails matches bytes path failure = RefusesShape matches failure

-- why an image isn't loaded: the first fault of the file's bytes, where these and what is read of them are told, a file
-- that can't be read, or want of memory, and nothing else
abbrev pub LoadingFails : Type 0 → Option (List ℕ) → List ℕ → Failure → Type 0
LoadingFails reads bytes path (ImageRefused told fault) =
    (told.now ≡ path) × (reads → IfSome bytes (λ bytes. namespace_in bytes ≡ Err fault))
LoadingFails reads bytes path (CannotRead told cause) = told.now ≡ path
LoadingFails reads bytes path NoMemory = Unit {0}
LoadingFails reads bytes path _ = ⊥

-- why no device is loaded: the first fault of the file's bytes as an image, where they stand for no device; the byte from which on they
-- are a damaged journal; a file that can't be read; or want of memory; and nothing else
abbrev pub LoadingDeviceFails : Type 0 → Option (List ℕ) → List ℕ → Failure → Type 0
LoadingDeviceFails reads bytes path (ImageRefused told fault) =
    (told.now ≡ path) × (reads → IfSome bytes (λ bytes. (namespace_in bytes ≡ Err fault) × StandForNone bytes))
LoadingDeviceFails reads bytes path (JournalRefused told place fault) = (told.now ≡ path) × (reads → IfSome bytes (AreFaulty fault place))
LoadingDeviceFails reads bytes path (CannotRead told cause) = told.now ≡ path
LoadingDeviceFails reads bytes path NoMemory = Unit {0}
LoadingDeviceFails reads bytes path _ = ⊥

-- why none is loaded whose file is to be replaced by an image, and why `upgrade` makes none: that, a file that can't be written, or a
-- device that has more than a namespace, and nothing else
abbrev pub ReplacingFails : Type 0 → Option (List ℕ) → List ℕ → Failure → Type 0
ReplacingFails reads bytes path (CannotWrite told cause) = told.now ≡ path
ReplacingFails reads bytes path (DeviceRefused told) = (told.now ≡ path) × (reads → TellMore bytes)
ReplacingFails reads bytes path failure = LoadingDeviceFails reads bytes path failure

-- why an image isn't loaded to be folded: that of an image, or a file that can't be written, and nothing else
abbrev pub UpgradeFails : Type 0 → Option (List ℕ) → List ℕ → Failure → Type 0
UpgradeFails reads bytes path (CannotWrite told cause) = told.now ≡ path
UpgradeFails reads bytes path failure = LoadingFails reads bytes path failure

-- why a name isn't held: its file can't be read or replaced, or want of memory
abbrev pub IsUnheld : Bor (List ℕ) → Failure → Type 0
IsUnheld path (CannotRead told cause) = told ≡ path
IsUnheld path failure = IsUnwritten path failure

-- why a name isn't held that a new image is to have, by force or not: the same of its file
abbrev pub IsUnreplaced : Type 0 → Option (List ℕ) → Bor (List ℕ) → Failure → Type 0
IsUnreplaced forced bytes path (NotAnImage told) = (told ≡ path) × IsAnother bytes × ¬ forced
IsUnreplaced forced bytes path failure = IsUnwritten path failure
