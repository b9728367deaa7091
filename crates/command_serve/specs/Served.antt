-- What `serve` does, writes and keeps, and what the user is told (profile).
use Rattle.std.specs.Prelude.{◌≡◌, ◌⊎◌, ℕ, List, Option, Some, None}
use Rattle.clap.specs.declared.parser.matches.ArgMatches.{ArgMatches}
use Rattle.stored_file.specs.File.{FileState}
use Rattle.image_store.specs.Namespace.{ZonedNamespace}
use Rattle.image_text.specs.Text.{text}
use Rattle.device_meaning.specs.State.{State, new_state}
use Rattle.durable_machine.specs.declared.journal.Journal.{Journal}
use Rattle.event_frames.specs.declared.fault.StreamFault.TheVariants as stream
use Rattle.device_serve.specs.declared.fault.ServeFault.{ServeFault}
use Rattle.device_serve.specs.declared.fault.ServeFault.TheVariants as fault
use Rattle.device_serve.specs.declared.keep.KeepsNothing.{KeepsNothing}
use Rattle.command_files.specs.Made.{AreAsTold, Made}
use Rattle.command_files.specs.Surroundings.{Surroundings}
use Rattle.command_files.specs.declared.failure.Failure.{Failure}
use Rattle.command_files.specs.declared.failure.Failure.TheVariants.{CannotPrint, CannotRead, CannotWrite, LineRefused, NoMemory, StreamCutOff, StreamRefused}
use Rattle.command_files.specs.declared.files.Files.{Ghosts}
use Rattle.command_images.specs.Devices.{TellNamespace}
use Rattle.command_images.specs.Images.{HasText, image_of}
use Rattle.command_images.specs.UserTold.{ReplacingFails}
use Rattle.command_serve.specs.Keeping.{HasKept, KeepsIn}
use Rattle.command_serve.specs.Opening.{IsNotFound, IsntOpened, Opens}
use Rattle.command_serve.specs.Streams.{End, IsAsked, ServesIn, in_journal, nowhere, seen}
use Rattle.command_serve.specs.declared.form.Form.{Form}
use Rattle.command_serve.specs.declared.image_keeper.ImageKeeper.{ImageKeeper}
use Rattle.command_serve.specs.declared.serve.TheConstants.{INPUT}

-- ---- what is told

-- why a stream is served no further, by what is told; of memory it isn't said what for
abbrev pub IsToldOf : List ℕ → ServeFault → Failure → Type 0
IsToldOf path why (StreamRefused place name) = why ≡ fault.Stream (stream.Byte place name)
IsToldOf path why (StreamCutOff place) = why ≡ fault.Stream (stream.CutOff place)
IsToldOf path why (LineRefused told line cause) = (told.now ≡ INPUT.now) × (why ≡ fault.Line line cause)
IsToldOf path why CannotPrint = why ≡ fault.Write
IsToldOf path why (CannotRead told cause) = (told.now ≡ INPUT.now) × (why ≡ fault.Read)
IsToldOf path why (CannotWrite told cause) = (told.now ≡ path) × (why ≡ fault.Disk)
IsToldOf path why NoMemory = (why ≡ fault.Memory) ⊎ ((why ≡ fault.Stream stream.Memory) ⊎ (why ≡ fault.Save))
IsToldOf path why _ = ⊥

-- nothing is read and nothing written
abbrev pub IsSilent : Option (List ℕ) → Option (List ℕ) → Option (List ℕ) → Option (List ℕ) → Type 0
IsSilent unread left before after = (left ≡ unread) × (after ≡ before)

-- ---- an image

-- the bytes of each name at a time, and the files that were made by then, where these are told
pub record FilesThen : Type 0 where
  pub contents : List ℕ → Option (List ℕ)
  pub made : Option (List Made)

-- files as they stand
abbrev pub standing : {F R W : Type 0} → Ghosts F R W → F → FilesThen
standing files now = record { contents = files.contents now; made = files.made now }

-- as a command finds them
abbrev pub found : Surroundings → FilesThen
found here = record { contents = here.contents; made = here.before }

-- what stands around the last part of a command, before which files stood so
abbrev pub around_last : Surroundings → FilesThen → Surroundings
around_last here old =
    record { reads = here.reads; writes = here.writes; contents = old.contents; before = old.made; after = here.after }

-- at the end the file has the text of the namespace that is left
abbrev pub IsSaved : Surroundings → ArgMatches → State → FilesThen → Type 0
IsSaved here matches left then = HasText (around_last here then) (image_of matches) (text left.namespace)

-- what is left isn't saved: no file is made after those that the stream asked for
abbrev pub IsntSaved : Surroundings → State → FilesThen → Type 0
IsntSaved here left then = here.after ≡ then.made

module _ {F R W : Type 0} (files : Ghosts F R W) (here : Surroundings) (matches : ArgMatches) (unread before after : Option (List ℕ)) where
  -- the device of the image file, whose namespace is the file's, where that is told, serves the stream, and has images saved there where
  -- that is asked for; and then this holds of what it leaves, and of the files as they stand then
  pub record OnImage (end : End) (Then : State → FilesThen → Type 0) : Type 0 where
    pub form : Form
    pub asked : IsAsked matches form
    pub namespace : ZonedNamespace
    pub namespace_is : here.reads → TellNamespace (here.contents (image_of matches)) namespace
    pub first : ImageKeeper F
    pub named : first.path.now ≡ image_of matches
    pub finds : standing files first.files.now ≡ found here
    pub state : State
    pub last : ImageKeeper F
    pub serves : ServesIn (HasKept files here.reads here.writes) (KeepsIn files here.writes) nowhere form unread end
        (seen (new_state namespace) before tt first) (seen state after tt last)
    pub then : Then state (standing files last.files.now)

  -- all is done and saved
  abbrev pub ServesImage : Type 0
  ServesImage = OnImage None (IsSaved here matches)

  -- why not all is done and saved, and what is left: it stops, and what was done is saved; or that isn't, wherever it came to; or no
  -- device is loaded of the file, and nothing is read or written, and no file made
  pub data FailsImage (left : Option (List ℕ)) (failure : Failure) : Type 0 where
    Stopped : (why : ServeFault) (told : IsToldOf (image_of matches) why failure) (stops : OnImage (Some (why, left)) (IsSaved here matches))
        → FailsImage left failure
    Unsaved : (told : IsNotFound (image_of matches) failure) (end : End) (ends : OnImage end (IsntSaved here)) → FailsImage left failure
    Unloaded : (told : ReplacingFails here.reads (here.contents (image_of matches)) (image_of matches) failure)
        (silent : IsSilent unread left before after) (none_made : here.after ≡ here.before) → FailsImage left failure

-- ---- a journal

module _ {S : Type 0} (told : S → FileState) (contents now : Option (List ℕ)) (matches : ArgMatches) (unread before after : Option (List ℕ)) where
  -- the device of a file is opened, which had these bytes, where they are told, and serves the stream: nothing is answered before it is on
  -- the disk. At the end the file has the bytes that are kept
  pub record OnJournal (end : End) : Type 0 where
    pub form : Form
    pub asked : IsAsked matches form
    pub opened : Journal S
    pub first : State
    pub opens : Opens told contents (told opened.file) first
    pub keeper : KeepsNothing
    pub state : State
    pub file : Journal S
    pub idle : KeepsNothing
    pub serves : ServesIn (λ old new namespace. Unit {0}) (λ old new. Unit {0}) (in_journal told) form unread end
        (seen first before opened keeper) (seen state after file idle)
    pub has : AreAsTold now (told file.file).seen

  -- all is done and kept
  abbrev pub ServesDurably : Type 0
  ServesDurably = OnJournal None

  -- why it ends before all is done: it stops, with what was answered kept; no device is opened, nothing is read or written, and the file has
  -- the bytes that it had; or memory is wanting for the file of which the name is to have the bytes, so it has those that it had: no file of
  -- the system wants it
  pub data FailsDurably (left : Option (List ℕ)) (failure : Failure) : Type 0 where
    StopsDurably : (why : ServeFault) (told_of : IsToldOf (image_of matches) why failure) (stops : OnJournal (Some (why, left)))
        → FailsDurably left failure
    Unopened : (fails : IsntOpened told contents (image_of matches) failure) (silent : IsSilent unread left before after)
        (same : now ≡ contents) → FailsDurably left failure
    Unkept : (is : failure ≡ NoMemory) (same : now ≡ contents) → FailsDurably left failure

-- it ends so, and some of the input may be left, which is lost with it
abbrev pub FailsOfTaken : (Option (List ℕ) → Failure → Type 0) → Failure → Type 0
FailsOfTaken fails failure = (left : Option (List ℕ)) × fails left failure

-- standard input was taken before: that is told
abbrev pub IsInputTaken : Failure → Type 0
IsInputTaken (CannotRead told cause) = told.now ≡ INPUT.now
IsInputTaken _ = ⊥
