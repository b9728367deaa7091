-- What is saved of a journal, and why nothing is.
use Rattle.std.proofs.Common.{◌≡◌, ℕ, List, [], ◌∷◌, take, Bor, Option, Some, None, IfSome, Result, Ok, Err, OnOk, inl, inr, ap, refl, sym, subst, ◌∙◌}
use Rattle.std.specs.Io.KnownBytes.{Appends}
use Rattle.stored_file.specs.declared.stored_file.FileError.{FileError}
use Rattle.stored_file.specs.declared.stored_file.FileError.TheVariants.{Memory, NoRoom, Failed}
use Rattle.durable_machine.specs.Refused.{IsDamaged, IsUndone}
use Rattle.durable_machine.specs.declared.fault.Fault.{Fault}
use Rattle.durable_machine.specs.declared.fault.Fault.TheVariants.{Unreadable, Damaged, Undone, OfFile}
use Rattle.durable_device.specs.Kept.{RefusesBytes}
use Rattle.durable_device.specs.Machine.{IsDeviceBase, next_state}
use Rattle.device_salvage.specs.Salvage.{IsSalvageOf}
use Rattle.command_files.specs.Crash.{AreWritten}
use Rattle.command_files.specs.Made.{AreAsTold, Made, then_made}
use Rattle.command_files.specs.UserTold.{IsUnread, IsUnwritten}
use Rattle.command_files.specs.declared.failure.Failure.{Failure}
use Rattle.command_files.specs.declared.failure.Failure.TheVariants.{CannotPrint, CannotRead, CannotWrite, JournalRefused, NoMemory}
use Rattle.command_files.specs.declared.journal_fault.JournalFault.{JournalFault}
use Rattle.command_images.specs.UserTold.{IsUnheld}
use Rattle.command_serve.specs.Opening.{HasFault}
use Rattle.command_serve.specs.Salvaging.{AreSaved, IsNotMade, IsSavedOf, IsUnsaved, Salvages, SalvagingFails, saved_line}
use Rattle.command_serve.specs.steps.Told.{TellsError, TellsFault}
use Rattle.command_serve.proofs.Openings.{damage_has, front_has}

-- ---- what is saved

pub saved_is : (bytes new : List ℕ) (end whole readable : ℕ) → IsSalvageOf bytes end whole readable new → IsSavedOf (Some bytes) end whole readable new
saved_is bytes new end whole readable salvage = record { bytes = bytes; told = refl; salvage = salvage }

-- of what was read of a file
pub saved_told : (contents : Option (List ℕ)) (read slice new : List ℕ) (end whole readable : ℕ) → slice ≡ read → AreAsTold contents read
    → IsSavedOf (Some slice) end whole readable new → IsSavedOf contents end whole readable new
saved_told contents read slice new end whole readable same told saved = record {
  bytes = saved.bytes;
  told = subst (λ (l : List ℕ). AreAsTold contents l) (sym (saved.told ∙ same)) told;
  salvage = saved.salvage;
}

-- ---- why nothing is

error_unsaved : (contents : Option (List ℕ)) (error : FileError) (path : List ℕ) (failure : Failure) → TellsError error path failure → IsUnsaved contents path failure
error_unsaved contents Memory path NoMemory same = tt
error_unsaved contents NoRoom path (CannotWrite name cause) is = is.0
error_unsaved contents Failed path (CannotWrite name cause) same = same
error_unsaved contents error path _ none = absurd none

pub fault_unsaved : (bytes : List ℕ) (fault : Fault) (path : List ℕ) (failure : Failure) → RefusesBytes bytes fault → TellsFault bytes fault path failure
    → IsUnsaved (Some bytes) path failure
fault_unsaved bytes (OfFile error) path failure refused tells = error_unsaved (Some bytes) error path failure tells
fault_unsaved bytes Unreadable path (JournalRefused name byte said) refused (named, same, is) = (named, front_has said byte bytes same is refused)
fault_unsaved bytes Unreadable path _ refused none = absurd none
fault_unsaved bytes (Damaged place) path (JournalRefused name byte said) refused (named, same, is) =
    (named, damage_has said byte bytes is (subst (λ (n : ℕ). IsDamaged IsDeviceBase next_state n bytes) (sym same) refused.0))
fault_unsaved bytes (Damaged place) path _ refused none = absurd none
fault_unsaved bytes (Undone place) path (JournalRefused name byte said) refused (named, same, is) =
    (named, subst (λ (f : JournalFault). HasFault f byte bytes) (sym is) (subst (λ (n : ℕ). IsUndone IsDeviceBase next_state n bytes) (sym same) refused))
fault_unsaved bytes (Undone place) path _ refused none = absurd none

fault_told : (contents : Option (List ℕ)) (read : List ℕ) (fault : JournalFault) (place : ℕ) → AreAsTold contents read → HasFault fault place read
    → IfSome contents (HasFault fault place)
fault_told None read fault place told has = tt
fault_told (Some bytes) read fault place told has = subst (HasFault fault place) told has

pub unsaved_told : (contents : Option (List ℕ)) (read slice path : List ℕ) (failure : Failure) → slice ≡ read → AreAsTold contents read
    → IsUnsaved (Some slice) path failure → IsUnsaved contents path failure
unsaved_told contents read slice path (JournalRefused name place fault) same told is =
    (is.0, fault_told contents read fault place told (subst (HasFault fault place) same is.1))
unsaved_told contents read slice path (CannotRead name cause) same told is = is
unsaved_told contents read slice path (CannotWrite name cause) same told is = is
unsaved_told contents read slice path NoMemory same told is = tt
unsaved_told contents read slice path _ same told none = absurd none

pub unheld_unsaved : (contents : Option (List ℕ)) (path : Bor (List ℕ)) (failure : Failure) → IsUnheld path failure → IsUnsaved contents path.now failure
unheld_unsaved contents path (CannotRead name cause) same = ap (λ (b : Bor (List ℕ)). b.now) same
unheld_unsaved contents path (CannotWrite name cause) same = ap (λ (b : Bor (List ℕ)). b.now) same
unheld_unsaved contents path NoMemory same = tt
unheld_unsaved contents path _ none = absurd none

pub unread_unsaved : (contents : Option (List ℕ)) (path : Bor (List ℕ)) (failure : Failure) → IsUnread path failure → IsUnsaved contents path.now failure
unread_unsaved contents path (CannotRead name cause) same = ap (λ (b : Bor (List ℕ)). b.now) same
unread_unsaved contents path NoMemory same = tt
unread_unsaved contents path _ none = absurd none

pub unsaved_fails : (contents : Option (List ℕ)) (path to : List ℕ) (failure : Failure) → IsUnsaved contents path failure → SalvagingFails contents path to failure
unsaved_fails contents path to (CannotWrite name cause) same = inl same
unsaved_fails contents path to CannotPrint none = absurd none
unsaved_fails contents path to _ is = is

pub unwritten_not_made : (to : Bor (List ℕ)) (failure : Failure) → IsUnwritten to failure → IsNotMade to failure
unwritten_not_made to CannotPrint none = absurd none
unwritten_not_made to _ is = is

pub not_made_fails : (contents : Option (List ℕ)) (path : List ℕ) (to : Bor (List ℕ)) (failure : Failure) → IsNotMade to failure
    → SalvagingFails contents path to.now failure
not_made_fails contents path to (CannotWrite name cause) same = inr (ap (λ (b : Bor (List ℕ)). b.now) same)
not_made_fails contents path to NoMemory same = tt
not_made_fails contents path to CannotPrint same = tt
not_made_fails contents path to _ none = absurd none

-- ---- the name of the new file

-- a file of which not one byte is read has none
pub nothing_read : (contents : Option (List ℕ)) (first : List ℕ) → IfSome contents (λ bytes. first ≡ take 1 bytes) → first ≡ [] → IfSome contents (λ bytes. bytes ≡ [])
nothing_read None first is empty = tt
nothing_read (Some []) first is empty = refl
nothing_read (Some (b ∷ bytes)) first is empty = absurd (some (sym empty ∙ is))
  where
    some : [] ≡ b ∷ take 0 bytes → ⊥
    some same = cc

-- ---- all of it

-- a file was made of what is saved, and this was printed
pub salvages : {T E : Type 0} (result : Result T E) (writes : Type 0) (contents : Option (List ℕ)) (to : List ℕ) (before between after : Option (List Made)) (old new : Option (List ℕ))
    (end whole readable : ℕ) (file : List ℕ) → between ≡ before → IsSavedOf contents end whole readable file
    → OnOk result (Appends old new (saved_line end whole readable)) → OnOk result (writes → after ≡ then_made between to file)
    → OnOk result (Salvages writes contents to before after old new)
salvages (Err error) writes contents to before between after old new end whole readable file same saved said made = tt
salvages (Ok done) writes contents to before between after old new end whole readable file same saved said made = record {
  end = end;
  whole = whole;
  readable = readable;
  file = file;
  saved = saved;
  made = λ write. made write ∙ ap (λ (files : Option (List Made)). then_made files to file) same;
  said = said;
}

pub are_saved : (writes : Type 0) (contents : Option (List ℕ)) (end whole readable : ℕ) (file : List ℕ) → IsSavedOf contents end whole readable file
    → (bytes : List ℕ) → AreWritten writes file bytes → AreSaved writes contents bytes
are_saved writes contents end whole readable file saved bytes written =
    record { end = end; whole = whole; readable = readable; file = file; saved = saved; written = written }
