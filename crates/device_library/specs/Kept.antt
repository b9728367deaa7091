-- A device in a file, as C serves it, and what it does and answers by what it is asked for.
use Rattle.std.specs.Prelude.{ℕ, ◌≡◌, ◌<◌, ◌⊎◌, Bool, true, false, not, ◌&&◌, List, [], drop, Option, Some, None}
use Rattle.event_frames.specs.declared.fault.StreamFault.{StreamFault}
use Rattle.event_frames.specs.declared.fault.StreamFault.TheVariants as stream
use Rattle.stored_file.specs.File.{FileState, LeavesOnly}
use Rattle.handed_file.specs.Handed.{is_settled, waiting}
use Rattle.handed_file.specs.declared.handed_file.HandedFile.{HandedFile}
use Rattle.device_meaning.specs.State.{State}
use Rattle.durable_device.specs.Kept.{IsKept, IsKeptInBase, StandsFor}
use Rattle.durable_device.specs.declared.durable_device.Folding.{Folding}
use Rattle.durable_device.specs.declared.durable_device.Folding.TheVariants.{Done, NoRoom, NoMemory}
use Rattle.durable_machine.specs.declared.journal.Journal.{Journal}
use Rattle.device_serve.specs.declared.fault.ServeFault.{ServeFault}
use Rattle.device_serve.specs.declared.fault.ServeFault.TheVariants as fault
use Rattle.device_library.specs.Bytes.{IsFront}
use Rattle.device_library.specs.Devices.{IsCommitted}
use Rattle.device_library.specs.Devices as devices
use Rattle.device_library.specs.Files.{IsToldDone, TellsNext, next_of, promised_of, told_by}
use Rattle.device_library.specs.Kinds.{kept_kind, nothing_of}
use Rattle.device_library.specs.Serving.{IsBetweenFrames, ServesFrames, StopsFrames, site}
use Rattle.device_library.specs.declared.kept.Kept.{Kept}
use Rattle.device_library.specs.declared.kind.KeptKind.{KeptKind}
use Rattle.device_library.specs.declared.kind.KeptKind.TheVariants as kind

-- the device's state, its file, and up to where that is taken
abbrev pub state_of : Kept → State
state_of s = devices.state_in s.device

abbrev pub journal_of : Kept → Journal HandedFile
journal_of s = devices.journal_in s.device

abbrev pub file_of : Kept → HandedFile
file_of s = (journal_of s).file

abbrev pub gate_of : Kept → ℕ
gate_of s = (journal_of s).gate

-- what came of the last fold of its journal
abbrev pub last_fold_of : Kept → Folding
last_fold_of s = s.device.last_fold

-- what is known of the file once C has made each call that it was handed, as long as none was refused
abbrev pub promised : Kept → FileState
promised s = promised_of (file_of s)

-- all that was done is kept once C has made the calls that it was handed, as long as the file hasn't to be opened again; and each
-- call's frames are read from the first on
abbrev pub WillBeKept : Kept → Type 0
WillBeKept s = s.failed ≡ false → IsCommitted s.device × IsBetweenFrames s.codec

-- all that was done is on the disk, by what C told
abbrev pub IsOnTheDisk : Kept → Type 0
IsOnTheDisk s = IsKept (state_of s) (gate_of s) (told_by (file_of s))

-- nothing failed, and no call waits
abbrev pub is_on_disk : Kept → Bool
is_on_disk s = not s.failed && is_settled (file_of s)

-- the frames of the replies that may go out: all of those to what was served last, once what they answer is on the disk
abbrev pub replies_if : Bool → List ℕ → List ℕ
replies_if true frames = frames
replies_if false frames = []

abbrev pub replies_of : Kept → List ℕ
replies_of s = replies_if (is_on_disk s) s.answer.items

-- ---- what is done

-- what these bytes ask for is done, and the frames of the replies are kept
pub record HasServed (bytes : List ℕ) (old new : Kept) : Type 0 where
  pub serves : ServesFrames bytes (site old.device old.codec []) (site new.device new.codec new.answer.items)
  pub usable : new.failed ≡ false

-- it is done no further, and the file has to be opened again
pub record HasStopped (bytes : List ℕ) (old new : Kept) (why : ServeFault) : Type 0 where
  pub stops : StopsFrames bytes (site old.device old.codec []) (site new.device new.codec new.answer.items) why
  pub disk : why ≡ fault.Disk → (promised old).faults < (promised new).faults
  pub failed : new.failed ≡ true

-- the journal is folded: while C makes the calls for it, a crash leaves the same device, and then the base alone stands for it. The replies
-- to what was served before go out as before
pub record HasFolded (old new : Kept) : Type 0 where
  pub same : state_of new ≡ state_of old
  pub answer : new.answer ≡ old.answer
  pub usable : new.failed ≡ false
  pub in_base : IsKeptInBase (state_of new) (gate_of new) (promised new)
  pub told : last_fold_of new ≡ Done
  pub moments : LeavesOnly (promised old) (promised new) (λ c. StandsFor c (state_of old))

-- it isn't, since the new file would be longer than C has room for, or memory is wanting: the device is kept as it was
pub record IsUsedOn (folding : Folding) (old new : Kept) : Type 0 where
  pub same : state_of new ≡ state_of old
  pub answer : new.answer ≡ old.answer
  pub usable : new.failed ≡ false
  pub told : last_fold_of new ≡ folding
  pub moments : LeavesOnly (promised old) (promised new) (λ c. StandsFor c (state_of old))

-- it can't be used on: the file has to be opened again, which stands for the same device
pub record FailsToFold (old new : Kept) : Type 0 where
  pub same : state_of new ≡ state_of old
  pub answer : new.answer ≡ old.answer
  pub failed : new.failed ≡ true
  pub moments : LeavesOnly (promised old) (promised new) (λ c. StandsFor c (state_of old))

-- what folding comes to
abbrev pub FoldsTo : Kept → Kept → Option Folding → Type 0
FoldsTo old new (Some Done) = HasFolded old new
FoldsTo old new (Some NoRoom) = IsUsedOn NoRoom old new
FoldsTo old new (Some NoMemory) = IsUsedOn NoMemory old new
FoldsTo old new None = FailsToFold old new

-- the next call is noted as done, and nothing else happens
pub record TakesDone (old new : Kept) : Type 0 where
  pub state : state_of new ≡ state_of old
  pub gate : gate_of new ≡ gate_of old
  pub file : IsToldDone (file_of old) (file_of new)
  pub last_fold : last_fold_of new ≡ last_fold_of old
  pub answer : new.answer ≡ old.answer
  pub failed : new.failed ≡ old.failed

-- it has failed, and nothing else happens
abbrev pub TakesFailed : Kept → Kept → Type 0
TakesFailed old new = new ≡ record old { failed = true }

-- ---- what is answered

-- a device, and C's memory for bytes that it gives
pub record KeptLent : Type 0 where
  pub session : Kept
  pub out : List ℕ

-- this is answered, and nothing happens
pub record Told (told : ℕ) (old new : KeptLent) (answer : ℕ) : Type 0 where
  pub told_is : answer ≡ told
  pub same : new ≡ old

-- C's memory stays
pub record Keeps (Does : Kept → Kept → ℕ → Type 0) (old new : KeptLent) (answer : ℕ) : Type 0 where
  pub does : Does old.session new.session answer
  pub out : new.out ≡ old.out

-- nothing is done, since the file has to be opened again
pub record DoesNothing (old new : Kept) (answer : ℕ) : Type 0 where
  pub failed : old.failed ≡ true
  pub same : new ≡ old
  pub told_is : answer ≡ 0

-- frames are served, once C has made the calls for it
pub record IsServed (bytes : List ℕ) (old new : Kept) (answer : ℕ) : Type 0 where
  pub served : HasServed bytes old new
  pub told_is : answer ≡ 1

-- why frames aren't served, by number: they aren't frames, or end within one: 2; memory is wanting, which is all for which a reply can't be
-- put into memory: 3; or the file has to be opened again
abbrev pub stream_number : StreamFault → ℕ
stream_number (stream.Byte at name) = 2
stream_number (stream.CutOff at) = 2
stream_number stream.Memory = 3

abbrev pub fault_number : ServeFault → ℕ
fault_number fault.Read = 0
fault_number (fault.Stream f) = stream_number f
fault_number (fault.Line number f) = 0
fault_number fault.Write = 3
fault_number fault.Save = 0
fault_number fault.Disk = 0
fault_number fault.Memory = 3

pub record IsNotServed (bytes : List ℕ) (old new : Kept) (answer : ℕ) : Type 0 where
  pub why : ServeFault
  pub stopped : HasStopped bytes old new why
  pub told_is : answer ≡ fault_number why

abbrev pub Serves : List ℕ → Kept → Kept → ℕ → Type 0
Serves bytes old new answer = IsServed bytes old new answer ⊎ IsNotServed bytes old new answer ⊎ DoesNothing old new answer

-- what came of a fold, by number
abbrev pub fold_number : Folding → ℕ
fold_number Done = 1
fold_number NoRoom = 2
fold_number NoMemory = 3

abbrev pub folding_number : Option Folding → ℕ
folding_number None = 0
folding_number (Some folding) = fold_number folding

-- this comes of a fold, once C has made the calls for it
pub record IsFolded (old new : Kept) (answer : ℕ) : Type 0 where
  pub folding : Option Folding
  pub folds : FoldsTo old new folding
  pub told_is : answer ≡ folding_number folding

abbrev pub Folds : Kept → Kept → ℕ → Type 0
Folds old new answer = IsFolded old new answer ⊎ DoesNothing old new answer

-- 0 is answered
pub record Notes (Do : Kept → Kept → Type 0) (old new : Kept) (answer : ℕ) : Type 0 where
  pub does : Do old new
  pub told_is : answer ≡ 0

-- the frames of the replies are given from a place on, and all that they answer is on the disk; or it isn't yet, and none is given
pub record GivesReplies (place : ℕ) (old new : KeptLent) (answer : ℕ) : Type 0 where
  pub gives : IsFront (drop place (replies_of old.session)) old.out new.out answer
  pub on_disk : is_on_disk old.session ≡ true → IsOnTheDisk old.session
  pub same : new.session ≡ old.session

-- C is told of the next call, and nothing happens
pub record Asks (tells : List ℕ → List ℕ → ℕ → Type 0) (old new : KeptLent) (answer : ℕ) : Type 0 where
  pub told : tells old.out new.out answer
  pub same : new.session ≡ old.session

-- what a kind comes to, with a count and bytes
abbrev pub Answers : KeptKind → ℕ → List ℕ → KeptLent → KeptLent → ℕ → Type 0
Answers kind.Serve count piece old new answer = Keeps (Serves piece) old new answer
Answers kind.Replies count piece old new answer = GivesReplies count old new answer
Answers kind.Fold count piece old new answer = Keeps Folds old new answer
Answers kind.Folded count piece old new answer = Told (fold_number (last_fold_of old.session)) old new answer
Answers (kind.Ask question) count piece old new answer =
    Asks (TellsNext question (next_of old.session.failed (waiting (file_of old.session))) count) old new answer
Answers kind.Done count piece old new answer = Keeps (Notes TakesDone) old new answer
Answers kind.Failed count piece old new answer = Keeps (Notes TakesFailed) old new answer

-- where it is known
abbrev pub AnswersIfKnown : Option KeptKind → ℕ → ℕ → List ℕ → KeptLent → KeptLent → ℕ → Type 0
AnswersIfKnown (Some kind) number count piece old new answer = Answers kind count piece old new answer
AnswersIfKnown None number count piece old new answer = Told (nothing_of number) old new answer

-- what a number of a kind comes to
abbrev pub AnswersTo : ℕ → ℕ → List ℕ → KeptLent → KeptLent → ℕ → Type 0
AnswersTo number count piece old new answer = AnswersIfKnown (kept_kind number) number count piece old new answer
