-- An image or a journal that is refused.
use Rattle.std.proofs.Common.{◌≡◌, ◌⊎◌, ℕ, List, inl, inr, subst, ⊎_elim}
use Rattle.stored_file.specs.File.{FileState}
use Rattle.durable_machine.specs.declared.fault.Fault.{Fault}
use Rattle.durable_machine.specs.declared.fault.Fault.TheVariants.{Unreadable, Damaged, Undone, OfFile}
use Rattle.durable_device.specs.Kept.{RefusesFile}
use Rattle.image_text.specs.Fault.{load_number}
use Rattle.image_text.specs.declared.fault.LoadFault.TheVariants.{Memory}
use Rattle.device_library.specs.Opening.{IsNoJournal, IsRefusedImage, IsRefusedTarget, IsToldOfFault, IsToldOfJournal}

-- it is no image, or memory is wanting
pub refused_target : (bytes : List ℕ) (number : ℕ) → IsRefusedImage bytes number → IsRefusedTarget bytes number
refused_target bytes number refused =
    ⊎_elim (λ fault. inl fault) (λ wants. inr wants.told) refused

-- it is no journal of this device, or memory is wanting
pub refused_journal : (old left : FileState) (bytes : List ℕ) (fault : Fault) (number : ℕ) → bytes ≡ old.seen → RefusesFile old left fault
    → IsToldOfFault fault bytes number → IsNoJournal old.seen number ⊎ (number ≡ load_number Memory)
refused_journal old left bytes Unreadable number same refuses told =
    inl (record { why = inl refuses.0; told = subst (λ (file : List ℕ). IsToldOfJournal file number) same told })
refused_journal old left bytes (Damaged place) number same refuses told =
    inl (record { why = inl refuses.1; told = subst (λ (file : List ℕ). IsToldOfJournal file number) same told })
refused_journal old left bytes (Undone place) number same refuses told =
    inl (record { why = inr (place, refuses.0); told = subst (λ (file : List ℕ). IsToldOfJournal file number) same told })
refused_journal old left bytes (OfFile error) number same refuses told = inr told
