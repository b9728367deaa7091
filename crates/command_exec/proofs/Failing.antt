-- Why `exec` ends before its work is done.
use Rattle.std.proofs.Common.{◌≡◌, ℕ, List, Option, Result, Ok, Err, IfErr, IfSome, subst, sym, ◌∙◌, inl, inr}
use Rattle.std.specs.Borrow.{Bor}
use Rattle.clap.specs.declared.parser.matches.ArgMatches.{ArgMatches}
use Rattle.event_text.specs.CommandFile.{events_in, refused_line}
use Rattle.event_text.specs.declared.command_file.ParseFault.{ParseFault}
use Rattle.event_text.specs.declared.command_file.ParseFault.TheVariants.{Line, Memory}
use Rattle.command_files.specs.UserTold.{IsUnread, IsUnwritten, told_of_commands}
use Rattle.command_files.specs.declared.failure.Failure.{Failure}
use Rattle.command_files.specs.declared.failure.Failure.TheVariants.{CannotPrint, CannotRead, CannotWrite, LineRefused, NoMemory, NotInRange}
use Rattle.command_files.proofs.Proved.{read_holds, same_name, unread_holds}
use Rattle.command_images.specs.UserTold.{IsUnheld, ReplacingFails}
use Rattle.command_exec.specs.UserTold.{ExecFails, PrintsNothing}
use Rattle.command_exec.specs.steps.Told.{SavingFails, SavingLeaves}

-- what was done can't be saved
pub saving_of_changes : (path : Bor (List ℕ)) (failure : Failure) → IsUnheld path failure → SavingFails path failure
saving_of_changes path CannotPrint is = tt
saving_of_changes path _ is = is

module _ (matches : ArgMatches) (reads : Type 0) (contents : List ℕ → Option (List ℕ)) (path commands : List ℕ) where
  -- the image isn't loaded
  pub exec_of_loading : (image : List ℕ) → image ≡ path → (failure : Failure) → ReplacingFails reads (contents image) image failure → ExecFails matches reads contents path commands failure
  exec_of_loading image is_named CannotPrint is = tt
  exec_of_loading image is_named (CannotWrite told cause) is = is ∙ is_named
  exec_of_loading image is_named (CannotRead told cause) is = inl (is ∙ is_named)
  exec_of_loading image is_named (LineRefused told number fault) is = absurd is
  exec_of_loading image is_named (NotInRange option word least most) is = absurd is
  exec_of_loading image is_named failure is = subst (λ (p : List ℕ). ReplacingFails reads (contents p) p failure) is_named is

  -- the command file isn't read
  pub exec_of_reading : (file : Bor (List ℕ)) → file.now ≡ commands → (failure : Failure) → IsUnread file failure → ExecFails matches reads contents path commands failure
  exec_of_reading file is_named = unread_holds file (ExecFails matches reads contents path commands) (λ told cause is. inr (same_name is is_named)) tt

  -- it is read and is none: what was read is what the file held, since contents stayed the same
  pub exec_of_commands : (file : Bor (List ℕ)) → file.now ≡ commands → (then : List ℕ → Option (List ℕ)) → then ≡ contents
      → (read slice : List ℕ) → slice ≡ read → IfSome (then file.now) (λ bytes. read ≡ bytes)
      → (fault : ParseFault) → IfSome (refused_line fault) (λ number. events_in slice ≡ Err number) → ExecFails matches reads contents path commands (told_of_commands file fault)
  exec_of_commands file is_named then same read slice slice_is file_is (Line number fault) refused = (
    is_named,
    read_holds contents file.now commands read slice (λ bytes. events_in bytes ≡ Err number) is_named slice_is
        (subst (λ (c : List ℕ → Option (List ℕ)). IfSome (c file.now) (λ bytes. read ≡ bytes)) same file_is) refused,
  )
  exec_of_commands file is_named then same read slice slice_is file_is Memory refused = tt

  -- the image can't be written
  pub exec_of_writing : (image : Bor (List ℕ)) → image.now ≡ path → (failure : Failure) → IsUnwritten image failure → ExecFails matches reads contents path commands failure
  exec_of_writing image is_named (CannotWrite told cause) is = same_name is is_named
  exec_of_writing image is_named NoMemory is = tt
  exec_of_writing image is_named _ is = absurd is

  -- the events aren't all done and saved
  pub exec_of_saving : (image : Bor (List ℕ)) → image.now ≡ path → (failure : Failure) → SavingFails image failure → ExecFails matches reads contents path commands failure
  exec_of_saving image is_named CannotPrint is = tt
  exec_of_saving image is_named (CannotWrite told cause) is = same_name is is_named
  exec_of_saving image is_named (CannotRead told cause) is = inl (same_name is is_named)
  exec_of_saving image is_named NoMemory is = tt
  exec_of_saving image is_named _ is = absurd is

-- nothing was printed
pub quiet : (path : List ℕ) (unsaved : Type 0) (before after : Option (List ℕ)) → after ≡ before → (failure : Failure)
    → PrintsNothing path unsaved before after failure
quiet path unsaved before after same CannotPrint = tt
quiet path unsaved before after same (CannotWrite told cause) = inl same
quiet path unsaved before after same (CannotRead told cause) = inl same
quiet path unsaved before after same NoMemory = inl same
quiet path unsaved before after same _ = same

-- what was done can't be saved
pub leaves_of_saving : (silent unsaved : Type 0) (failure : Failure) → unsaved → SavingLeaves silent unsaved failure
leaves_of_saving silent unsaved (CannotWrite told cause) is = is
leaves_of_saving silent unsaved (CannotRead told cause) is = is
leaves_of_saving silent unsaved NoMemory is = inr is
leaves_of_saving silent unsaved _ is = tt

-- memory was wanting before anything was done
pub leaves_of_memory : (silent unsaved : Type 0) (failure : Failure) → failure ≡ NoMemory → silent → SavingLeaves silent unsaved failure
leaves_of_memory silent unsaved failure is quiet =
    subst (λ (f : Failure). SavingLeaves silent unsaved f) (sym is) (let it : SavingLeaves silent unsaved NoMemory = inl quiet in it)

quiet_of_failure : (image : Bor (List ℕ)) (path : List ℕ) (unsaved more : Type 0) (before after : Option (List ℕ)) → image.now ≡ path → (unsaved → more)
    → (failure : Failure) → SavingFails image failure → SavingLeaves (after ≡ before) unsaved failure → PrintsNothing path more before after failure
quiet_of_failure image path unsaved more before after is_named then CannotPrint is left = tt
quiet_of_failure image path unsaved more before after is_named then (CannotWrite told cause) is left = inr (then left)
quiet_of_failure image path unsaved more before after is_named then (CannotRead told cause) is left = inr (same_name is is_named, then left)
quiet_of_failure image path unsaved more before after is_named then NoMemory is (inl quiet) = inl quiet
quiet_of_failure image path unsaved more before after is_named then NoMemory is (inr left) = inr (then left)
quiet_of_failure image path unsaved more before after is_named then _ is left = absurd is

pub quiet_of_saving : {T : Type 0} (image : Bor (List ℕ)) (path : List ℕ) (unsaved more : Type 0) (before after : Option (List ℕ)) (result : Result T Failure)
    → image.now ≡ path → (unsaved → more) → IfErr result (SavingFails image) → IfErr result (SavingLeaves (after ≡ before) unsaved)
    → IfErr result (PrintsNothing path more before after)
quiet_of_saving image path unsaved more before after (Ok done) is_named then fails left = tt
quiet_of_saving image path unsaved more before after (Err failure) is_named then fails left =
    quiet_of_failure image path unsaved more before after is_named then failure fails left

-- of what isn't saved more holds
quiet_weaker : (path : List ℕ) (unsaved more : Type 0) (before after : Option (List ℕ)) → (unsaved → more) → (failure : Failure)
    → PrintsNothing path unsaved before after failure → PrintsNothing path more before after failure
quiet_weaker path unsaved more before after then CannotPrint is = tt
quiet_weaker path unsaved more before after then (CannotWrite told cause) (inl same) = inl same
quiet_weaker path unsaved more before after then (CannotWrite told cause) (inr left) = inr (then left)
quiet_weaker path unsaved more before after then (CannotRead told cause) (inl same) = inl same
quiet_weaker path unsaved more before after then (CannotRead told cause) (inr left) = inr (left.0, then left.1)
quiet_weaker path unsaved more before after then NoMemory (inl same) = inl same
quiet_weaker path unsaved more before after then NoMemory (inr left) = inr (then left)
quiet_weaker path unsaved more before after then _ is = is

pub quiet_by_profile : {T : Type 0} (path : List ℕ) (unsaved more : Type 0) (before after : Option (List ℕ)) (result : Result T Failure) → (unsaved → more)
    → IfErr result (PrintsNothing path unsaved before after) → IfErr result (PrintsNothing path more before after)
quiet_by_profile path unsaved more before after (Ok done) then is = tt
quiet_by_profile path unsaved more before after (Err failure) then is = quiet_weaker path unsaved more before after then failure is
