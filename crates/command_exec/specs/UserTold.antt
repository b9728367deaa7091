-- Why `exec` ends before its work is done (profile).
use Rattle.std.specs.Prelude.{◌≡◌, ◌⊎◌, ℕ, List, Option, Err, IfSome}
use Rattle.event_text.specs.CommandFile.{events_in}
use Rattle.clap.specs.declared.parser.matches.ArgMatches.{ArgMatches}
use Rattle.command_files.specs.declared.failure.Failure.{Failure}
use Rattle.command_files.specs.declared.failure.Failure.TheVariants.{CannotPrint, CannotRead, CannotWrite, LineRefused, NoMemory, NotInRange}
use Rattle.command_images.specs.UserTold.{ReplacingFails}
use Rattle.command_files.specs.Profile.{IsToldOfProfile}

-- why `exec` ends before its work is done: there is no such profile; standard output fails; the image file can't be written; it or the
-- command file can't be read; a line of the command file, the lowest that is refused, where the file's bytes are told; why no device is loaded of the
-- image file; or want of memory; and nothing else
abbrev pub ExecFails : ArgMatches → Type 0 → (List ℕ → Option (List ℕ)) → List ℕ → List ℕ → Failure → Type 0
ExecFails matches reads contents path commands (NotInRange option word least most) = IsToldOfProfile matches (NotInRange option word least most)
ExecFails matches reads contents path commands CannotPrint = Unit {0}
ExecFails matches reads contents path commands (CannotWrite told cause) = told.now ≡ path
ExecFails matches reads contents path commands (CannotRead told cause) = (told.now ≡ path) ⊎ (told.now ≡ commands)
ExecFails matches reads contents path commands (LineRefused told number fault) =
    (told.now ≡ commands) × IfSome (contents commands) (λ bytes. events_in bytes ≡ Err number)
ExecFails matches reads contents path commands failure = ReplacingFails reads (contents path) path failure

-- what is printed where `exec` ends before its work is done: nothing; or, where the image can't be read again or written, or memory is
-- wanting for that, the lines of what was done and isn't saved (`unsaved`). Where standard output fails, it isn't said
abbrev pub PrintsNothing : List ℕ → Type 0 → Option (List ℕ) → Option (List ℕ) → Failure → Type 0
PrintsNothing path unsaved before after CannotPrint = Unit {0}
PrintsNothing path unsaved before after (CannotWrite told cause) = (after ≡ before) ⊎ unsaved
PrintsNothing path unsaved before after (CannotRead told cause) = (after ≡ before) ⊎ ((told.now ≡ path) × unsaved)
PrintsNothing path unsaved before after NoMemory = (after ≡ before) ⊎ unsaved
PrintsNothing path unsaved before after _ = after ≡ before
