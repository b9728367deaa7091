-- What is left of a file that is opened as a durable device, and what is told where it isn't.
use Rattle.std.proofs.Common.{◌≡◌, ◌⊎◌, ◌≤◌, ℕ, List, Option, None, Some, Bor, length, Result, Ok, Err, IfErr, ap, refl, sym, subst, inl, inr, ⊎_elim}
use Rattle.stored_file.specs.Reading.{IsReadOf}
use Rattle.stored_file.specs.File.{FileState, IsAsBefore, LeavesOnly, MayLeave}
use Rattle.stored_file.specs.declared.stored_file.FileError.{FileError}
use Rattle.stored_file.specs.declared.stored_file.FileError.TheVariants.{Memory, NoRoom, Failed}
use Rattle.stored_file.proofs.Moments.{then_on, weaken}
use Rattle.image_store.specs.Namespace.{ZonedNamespace}
use Rattle.image_text.specs.Reading.{namespace_in}
use Rattle.durable_machine.specs.Files.{KeepsState}
use Rattle.durable_machine.specs.Refused.{HasNoState, IsDamaged, IsUndone}
use Rattle.durable_machine.proofs.Windows.{all_known}
use Rattle.durable_machine.proofs.Restarting.{found_then, found_weaker, reads_on, refuses_read}
use Rattle.durable_machine.specs.declared.fault.Fault.{Fault}
use Rattle.durable_machine.specs.declared.fault.Fault.TheVariants.{Unreadable, Damaged, Undone, OfFile}
use Rattle.device_meaning.specs.State.{State, new_state}
use Rattle.durable_device.specs.Kept.{IsOldOrStandsFor, IsRestarted, KeepsRestarted, LeavesFound, MayBeLeft, RefusesFile, StandsFor, StandsForIt}
use Rattle.durable_device.specs.Machine.{IsDeviceBase, next_state, one_device}
use Rattle.durable_device.specs.declared.durable_device.Folding.{Folding}
use Rattle.durable_device.specs.declared.durable_device.Folding.TheVariants as folding
use Rattle.command_files.specs.Made.{AreAsTold}
use Rattle.command_files.specs.UserTold.{IsUnread}
use Rattle.command_files.specs.declared.failure.Failure.{Failure}
use Rattle.command_files.specs.declared.journal_fault.JournalFault.{JournalFault}
use Rattle.command_files.specs.declared.journal_fault.JournalFault.TheVariants.{MadeBy, NoBase}
use Rattle.command_files.specs.declared.journal_fault.JournalFault.TheVariants as journal
use Rattle.command_files.specs.declared.failure.Failure.TheVariants.{CannotRead, CannotWrite, ImageRefused, JournalRefused, NoMemory}
use Rattle.command_images.proofs.Damage.{whole_to_damage}
use Rattle.command_images.specs.Devices.{CountsBatches, IsFrontFault}
use Rattle.command_images.specs.UserTold.{IsUnheld, LoadingFails, UpgradeFails}
use Rattle.command_serve.specs.Folding.{IsntFolded}
use Rattle.command_serve.specs.Reading.{AreKnown}
use Rattle.command_serve.specs.Opening.{IsntOpened, HasFault, IsFoundFaulty, FailsToOpen, IsFound, IsNotFound, Leaves, OfDevice, OfJournal, OnlyRead, Opens, OpeningFails}
use Rattle.command_serve.specs.steps.Told.{TellsError, TellsFault, TellsUnfolded, TellsUnread}

-- an error has another fact by one that it has
pub err_so : {T E : Type 0} (r : Result T E) (P Q : E → Type 0) → ((e : E) → P e → Q e) → IfErr r P → IfErr r Q
err_so (Ok done) P Q so holds = tt
err_so (Err e) P Q so holds = so e holds

-- ---- what is told

pub loading_told : (reads : Type 0) (bytes : Option (List ℕ)) (path : List ℕ) (failure : Failure)
    → LoadingFails reads bytes path failure → TellsUnread path failure
loading_told reads bytes path (ImageRefused name fault) fails = fails.0
loading_told reads bytes path (CannotRead name cause) same = same
loading_told reads bytes path NoMemory same = tt
loading_told reads bytes path _ none = absurd none

pub unheld_found : (path : Bor (List ℕ)) (failure : Failure) → IsUnheld path failure → IsNotFound path.now failure
unheld_found path (CannotRead name cause) same = ap (λ (b : Bor (List ℕ)). b.now) same
unheld_found path (CannotWrite name cause) same = ap (λ (b : Bor (List ℕ)). b.now) same
unheld_found path NoMemory same = tt
unheld_found path _ none = absurd none

pub unread_found : (path : Bor (List ℕ)) (failure : Failure) → IsUnread path failure → IsNotFound path.now failure
unread_found path (CannotRead name cause) same = ap (λ (b : Bor (List ℕ)). b.now) same
unread_found path NoMemory same = tt
unread_found path _ none = absurd none

-- no file is found, or none is loaded
pub unheld_upgrade : (reads : Type 0) (bytes : Option (List ℕ)) (path : Bor (List ℕ)) (failure : Failure)
    → IsUnheld path failure → UpgradeFails reads bytes path.now failure
unheld_upgrade reads bytes path (CannotRead name cause) same = ap (λ (b : Bor (List ℕ)). b.now) same
unheld_upgrade reads bytes path (CannotWrite name cause) same = ap (λ (b : Bor (List ℕ)). b.now) same
unheld_upgrade reads bytes path NoMemory same = tt
unheld_upgrade reads bytes path _ none = absurd none

pub unread_upgrade : (reads : Type 0) (bytes : Option (List ℕ)) (path : Bor (List ℕ)) (failure : Failure)
    → IsUnread path failure → UpgradeFails reads bytes path.now failure
unread_upgrade reads bytes path (CannotRead name cause) same = ap (λ (b : Bor (List ℕ)). b.now) same
unread_upgrade reads bytes path NoMemory same = tt
unread_upgrade reads bytes path _ none = absurd none

pub loading_upgrade : (reads : Type 0) (bytes : Option (List ℕ)) (path : List ℕ) (failure : Failure)
    → LoadingFails reads bytes path failure → UpgradeFails reads bytes path failure
loading_upgrade reads bytes path (CannotWrite name cause) none = absurd none
loading_upgrade reads bytes path _ fails = fails

pub not_found_upgrade : (reads : Type 0) (bytes : Option (List ℕ)) (path : List ℕ) (failure : Failure)
    → IsNotFound path failure → UpgradeFails reads bytes path failure
not_found_upgrade reads bytes path (CannotRead name cause) same = same
not_found_upgrade reads bytes path (CannotWrite name cause) same = same
not_found_upgrade reads bytes path NoMemory same = tt
not_found_upgrade reads bytes path _ none = absurd none

-- a file that is read has the bytes that are told of it
pub as_told : (contents known : Option (List ℕ)) (given : List ℕ) (size : ℕ) → AreKnown contents known → IsReadOf given size known → length given ≡ size
    → AreAsTold contents given
as_told None known given size are front whole = tt
as_told (Some bytes) known given size are front whole =
    all_known size given bytes whole (subst (λ (l : Option (List ℕ)). IsReadOf given size l) are front)

-- at the front of a journal
pub front_has : (said : JournalFault) (byte : ℕ) (bytes : List ℕ) → byte ≡ 0 → IsFrontFault said bytes → HasNoState IsDeviceBase next_state bytes
    → HasFault said byte bytes
front_has NoBase byte bytes same is none = (same, is, none)
front_has (MadeBy version profile) byte bytes same is none = (same, is, none)
front_has journal.OpenGate byte bytes same is none = absurd is
front_has journal.Undone byte bytes same is none = absurd is
front_has (journal.Damaged whole readable) byte bytes same is none = absurd is

-- where it is damaged
pub damage_has : (said : JournalFault) (byte : ℕ) (bytes : List ℕ) → CountsBatches said bytes → IsDamaged IsDeviceBase next_state byte bytes → HasFault said byte bytes
damage_has journal.OpenGate byte bytes counts is = is
damage_has (journal.Damaged whole readable) byte bytes (end, has) is = (is, whole_to_damage byte end whole readable bytes is has)
damage_has NoBase byte bytes counts is = absurd counts
damage_has (MadeBy version profile) byte bytes counts is = absurd counts
damage_has journal.Undone byte bytes counts is = absurd counts

module _ {S : Type 0} (told : S → FileState) (contents : Option (List ℕ)) where
  pub unread_fails : (path : List ℕ) (failure : Failure) → TellsUnread path failure → OpeningFails told contents path failure
  unread_fails path (ImageRefused name fault) same = same
  unread_fails path (CannotRead name cause) same = same
  unread_fails path NoMemory same = tt
  unread_fails path _ none = absurd none

  pub error_fails : (error : FileError) (path : List ℕ) (failure : Failure) → TellsError error path failure → OpeningFails told contents path failure
  error_fails Memory path NoMemory same = tt
  error_fails NoRoom path (CannotWrite name cause) is = is.0
  error_fails Failed path (CannotWrite name cause) same = same
  error_fails error path _ none = absurd none

  pub fault_fails : (file : S) (left : FileState) (fault : Fault) (path : List ℕ) (failure : Failure) → IsFound (told file) contents
      → RefusesFile (told file) left fault → TellsFault (told file).seen fault path failure → OpeningFails told contents path failure
  fault_fails file left (OfFile error) path failure found refuses tells = error_fails error path failure tells
  fault_fails file left Unreadable path (JournalRefused name byte said) found refuses (named, same, is) =
      (named, record { file = file; found = found; faulty = front_has said byte (told file).seen same is refuses.0 })
  fault_fails file left Unreadable path _ found refuses none = absurd none
  fault_fails file left (Damaged place) path (JournalRefused name byte said) found refuses (named, same, is) = (
    named,
    record {
      file = file;
      found = found;
      faulty = damage_has said byte (told file).seen is (subst (λ (n : ℕ). IsDamaged IsDeviceBase next_state n (told file).seen) (sym same) refuses.0);
    },
  )
  fault_fails file left (Damaged place) path _ found refuses none = absurd none
  fault_fails file left (Undone place) path (JournalRefused name byte said) found refuses (named, same, is) =
      (named, subst (λ (f : JournalFault). IsFoundFaulty told contents f byte) (sym is) (record { file = file; found = found; faulty = subst (λ (n : ℕ). IsUndone IsDeviceBase next_state n (told file).seen) (sym same) refuses.0 }))
  fault_fails file left (Undone place) path _ found refuses none = absurd none

  -- ---- what is left

  -- a file that is read first
  module _ (file : S) (read : FileState) (same : IsAsBefore (told file) read) (reading : LeavesOnly (told file) read (MayLeave (told file)))
      (restarted : IsRestarted (told file)) where
    pub read_first : (new : FileState) → KeepsRestarted read new → KeepsRestarted (told file) new
    read_first new keeps = reads_on IsDeviceBase next_state one_device (told file) read same reading restarted new keeps

    pub refused_first : (new : FileState) (fault : Fault) → (told file).faults ≤ read.faults → RefusesFile read new fault → RefusesFile (told file) new fault
    refused_first new fault later refuses = refuses_read IsDeviceBase next_state one_device (told file) read same reading restarted new fault later refuses

  pub reopened : (file : S) (opened : FileState) (s : State) → IsFound (told file) contents → StandsForIt (told file).seen s
      → KeepsRestarted (told file) opened → Opens told contents opened s
  reopened file opened s found is moments = record {
    file = file;
    found = found;
    means = inl is.is;
    moments = found_weaker IsDeviceBase next_state (told file) opened (KeepsState IsDeviceBase next_state (told file).seen) (λ c. (c ≡ (told file).seen) ⊎ StandsFor c s) moments
        (λ c keeps. inr (keeps s is.is));
  }

  -- a file that is only read
  reading_leaves : (file : S) (read : FileState) → IsFound (told file) contents → LeavesOnly (told file) read (MayLeave (told file)) → LeavesFound (told file) read (λ c. c ≡ (told file).seen)
  reading_leaves file read found reading = record {
    moments = weaken (told file) read (MayLeave (told file)) (λ c. MayBeLeft (told file).seen c ⊎ (c ≡ (told file).seen)) reading (λ c left. inl (found.restarted.left c left));
    kept = λ disk. weaken (told file) read (MayLeave (told file)) (λ c. c ≡ (told file).seen) reading disk.left;
  }

  pub not_read : (file left : S) (path : List ℕ) (failure : Failure) → IsFound (told file) contents
      → LeavesOnly (told file) (told left) (MayLeave (told file)) → TellsUnread path failure → FailsToOpen told contents path failure
  not_read file left path failure found reading tells = record { left = OnlyRead file left found (reading_leaves file (told left) found reading); why = unread_fails path failure tells }

  pub not_reopened : (file left : S) (fault : Fault) (path : List ℕ) (failure : Failure) → IsFound (told file) contents
      → KeepsRestarted (told file) (told left) → RefusesFile (told file) (told left) fault → TellsFault (told file).seen fault path failure
      → FailsToOpen told contents path failure
  not_reopened file left fault path failure found moments refuses tells =
      record { left = OfJournal file left found moments; why = fault_fails file (told left) fault path failure found refuses tells }

  -- an image that was read, and the device that is made of it
  module _ (file : S) (mid last : FileState) (ns : ZonedNamespace) (read : namespace_in (told file).seen ≡ Ok ns) (same : IsAsBefore (told file) mid)
      (reading : LeavesOnly (told file) mid (MayLeave (told file))) (making : LeavesOnly mid last (IsOldOrStandsFor mid (new_state ns)))
      (found : IsFound (told file) contents) where
    abbrev IsOne : List ℕ → Type 0
    IsOne c = (c ≡ (told file).seen) ⊎ StandsFor c (new_state ns)

    abbrev MayBeOne : List ℕ → Type 0
    MayBeOne c = MayBeLeft (told file).seen c ⊎ IsOne c

    pub made_moments : LeavesFound (told file) last IsOne
    made_moments = record {
      moments = then_on (told file) mid last MayBeOne (weaken (told file) mid (MayLeave (told file)) MayBeOne reading (λ c left. inl (found.restarted.left c left)))
          (weaken mid last (IsOldOrStandsFor mid (new_state ns)) MayBeOne making
          (λ c is. ⊎_elim (λ (may : MayLeave mid c). inl (found.restarted.left c (same.left c may))) (λ (stands : StandsFor c (new_state ns)). inr (inr stands)) is));
      kept = λ disk. then_on (told file) mid last IsOne (weaken (told file) mid (MayLeave (told file)) IsOne reading (λ c left. inl (disk.left c left)))
          (weaken mid last (IsOldOrStandsFor mid (new_state ns)) IsOne making
          (λ c is. ⊎_elim (λ (may : MayLeave mid c). inl (disk.left c (same.left c may))) (λ (stands : StandsFor c (new_state ns)). inr stands) is));
    }

    pub made_durable : (s : State) → s ≡ new_state ns → Opens told contents last s
    made_durable s is = subst (λ (s : State). Opens told contents last s) (sym is) (record {
      file = file;
      found = found;
      means = inr (record { read = read; new = refl });
      moments = made_moments;
    })

  pub not_made : (file left : S) (mid : FileState) (ns : ZonedNamespace) (read : namespace_in (told file).seen ≡ Ok ns)
      (same : IsAsBefore (told file) mid) (reading : LeavesOnly (told file) mid (MayLeave (told file)))
      (making : LeavesOnly mid (told left) (IsOldOrStandsFor mid (new_state ns))) (error : FileError) (path : List ℕ) (failure : Failure)
      → IsFound (told file) contents → TellsError error path failure → FailsToOpen told contents path failure
  not_made file left mid ns read same reading making error path failure found tells = record {
    left = OfDevice file left found (new_state ns) (inr (record { read = read; new = refl }))
        (made_moments file mid (told left) ns read same reading making found);
    why = error_fails error path failure tells;
  }

  -- what is left of a file of which a device was opened, which goes on to stand for it
  pub stands_on : (opened left : S) (s : State) → Opens told contents (told opened) s → LeavesOnly (told opened) (told left) (λ c. StandsFor c s)
      → Leaves told contents
  stands_on opened left s opens moments =
      let P : List ℕ → Type 0 = λ c. (c ≡ (told opens.file).seen) ⊎ StandsFor c s in
      OfDevice opens.file left opens.found s opens.means
      (found_then IsDeviceBase next_state (told opens.file) (told opened) (told left) P opens.moments (weaken (told opened) (told left) (λ c. StandsFor c s) P moments (λ c stands. inr stands)))

  unfolded_fails : (came : Result Folding FileError) (path : List ℕ) (failure : Failure) → TellsUnfolded came path failure → OpeningFails told contents path failure
  unfolded_fails (Ok folding.NoRoom) path (CannotWrite name why) is = is.0
  unfolded_fails (Ok folding.NoMemory) path NoMemory same = tt
  unfolded_fails (Ok came) path _ none = absurd none
  unfolded_fails (Err error) path failure tells = error_fails error path failure tells

  pub unfolded : (opened left : S) (s : State) (came : Result Folding FileError) (path : List ℕ) (failure : Failure) → Opens told contents (told opened) s
      → LeavesOnly (told opened) (told left) (λ c. StandsFor c s) → TellsUnfolded came path failure → FailsToOpen told contents path failure
  unfolded opened left s came path failure opens moments tells = record {
    left = stands_on opened left s opens moments;
    why = unfolded_fails came path failure tells;
  }

  -- a file that was read before it was one
  pub read_found : (file : FileState) (given : List ℕ) → IsRestarted file → file.seen ≡ given → AreAsTold contents given → IsFound file contents
  read_found file given restarted is are = record { restarted = restarted; bytes_are = subst (λ (l : List ℕ). AreAsTold contents l) (sym is) are }

  not_found_fails : (path : List ℕ) (failure : Failure) → IsNotFound path failure → OpeningFails told contents path failure
  not_found_fails path (CannotRead name cause) same = same
  not_found_fails path (CannotWrite name cause) same = same
  not_found_fails path NoMemory same = tt
  not_found_fails path _ none = absurd none

  -- a journal that was found, and can't be written
  pub not_written : (file left : S) (path : List ℕ) (failure : Failure) → IsFound (told file) contents → KeepsRestarted (told file) (told left)
      → IsNotFound path failure → FailsToOpen told contents path failure
  not_written file left path failure found moments why = record { left = OfJournal file left found moments; why = not_found_fails path failure why }

  -- and isn't folded
  pub not_folded : (reads : Type 0) (path : List ℕ) (failure : Failure) → IsntOpened told contents path failure → IsntFolded told reads path contents failure
  not_folded reads path failure (inl none) = inl (not_found_upgrade reads contents path failure none)
  not_folded reads path failure (inr fails) = inr fails
