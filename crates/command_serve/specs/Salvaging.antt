-- What `fold --salvage` makes of a journal, and what it says (profile).
use Rattle.std.specs.Prelude.{◌≡◌, ◌≢◌, ◌⊎◌, ℕ, List, [], ◌++◌, codes, Option, IfSome, unwrap_or}
use Rattle.std.specs.Borrow.{Bor}
use Rattle.std.specs.Fmt.{decimal}
use Rattle.std.specs.Io.KnownBytes.{Appends}
use Rattle.clap.specs.Matches.{found_of, first_value}
use Rattle.clap.specs.declared.parser.matches.ArgMatches.{ArgMatches}
use Rattle.device_salvage.specs.Salvage.{IsSalvageOf}
use Rattle.command_files.specs.Crash.{AreWritten}
use Rattle.command_files.specs.Made.{AreAsTold, Made, then_made}
use Rattle.command_files.specs.UserTold.{IsUnwritten}
use Rattle.command_files.specs.declared.failure.Failure.{Failure}
use Rattle.command_files.specs.declared.failure.Failure.TheVariants.{CannotPrint, CannotRead, CannotWrite, JournalRefused, NoMemory}
use Rattle.command_images.specs.Images.{image_of}
use Rattle.command_serve.specs.Opening.{HasFault}

-- the name of the file that the whole batches are saved to, if that is asked for
abbrev pub target_of : ArgMatches → Option (List ℕ)
target_of matches = first_value (found_of matches) (codes "salvage")

-- the name of the file that may be made: this one, or the image's
abbrev pub made_by : ArgMatches → List ℕ
made_by matches = unwrap_or (target_of matches) (image_of matches)

-- a journal of these bytes, where they are told, begins with so many whole batches, which end here; so many stand whole after that, and are
-- left out. A new file of these bytes stands for the device after the first ones
pub record IsSavedOf (contents : Option (List ℕ)) (end whole readable : ℕ) (new : List ℕ) : Type 0 where
  pub bytes : List ℕ
  pub told : AreAsTold contents bytes
  pub salvage : IsSalvageOf bytes end whole readable new

-- what is printed of it
abbrev pub saved_line : ℕ → ℕ → ℕ → List ℕ
saved_line end whole readable =
    codes "batches up to number " ++ decimal whole ++ codes " are whole, up to byte " ++ decimal end ++ codes "; " ++ decimal readable
    ++ codes " after it are left out\n"

-- such a file is made with this name, where what is written is told, and what is left out is printed, where the output tells what it has
pub record Salvages (writes : Type 0) (contents : Option (List ℕ)) (to : List ℕ) (before after : Option (List Made))
    (old new : Option (List ℕ)) : Type 0 where
  pub end : ℕ
  pub whole : ℕ
  pub readable : ℕ
  pub file : List ℕ
  pub saved : IsSavedOf contents end whole readable file
  pub made : writes → after ≡ then_made before to file
  pub said : Appends old new (saved_line end whole readable)

-- these bytes are such a file, where what is written is told
pub record AreSaved (writes : Type 0) (contents : Option (List ℕ)) (bytes : List ℕ) : Type 0 where
  pub end : ℕ
  pub whole : ℕ
  pub readable : ℕ
  pub file : List ℕ
  pub saved : IsSavedOf contents end whole readable file
  pub written : AreWritten writes file bytes

-- a file with another name than the image's, which has no bytes, where these are told
pub record IsNewFile (path to : List ℕ) (contents : Option (List ℕ)) : Type 0 where
  pub other : path ≢ to
  pub none : IfSome contents (λ bytes. bytes ≡ [])

-- why nothing is saved of a journal: it has a fault before all that is whole is read; it can't be held or read; or want of memory
abbrev pub IsUnsaved : Option (List ℕ) → List ℕ → Failure → Type 0
IsUnsaved contents path (JournalRefused name place fault) = (name.now ≡ path) × IfSome contents (HasFault fault place)
IsUnsaved contents path (CannotRead name cause) = name.now ≡ path
IsUnsaved contents path (CannotWrite name cause) = name.now ≡ path
IsUnsaved contents path NoMemory = Unit {0}
IsUnsaved contents path _ = ⊥

-- why it isn't made into a file: the new one can't be written, standard output fails, or want of memory
abbrev pub IsNotMade : Bor (List ℕ) → Failure → Type 0
IsNotMade to CannotPrint = Unit {0}
IsNotMade to failure = IsUnwritten to failure

-- why no file is made: that, or the new file can't be written, or standard output fails
abbrev pub SalvagingFails : Option (List ℕ) → List ℕ → List ℕ → Failure → Type 0
SalvagingFails contents path to (CannotWrite name cause) = (name.now ≡ path) ⊎ (name.now ≡ to)
SalvagingFails contents path to CannotPrint = Unit {0}
SalvagingFails contents path to failure = IsUnsaved contents path failure
