-- What a base with an empty journal stands for.
use Rattle.std.proofs.Common.{◌≡◌, ◌+◌, ◌-◌, ℕ, List, [], ◌++◌, length, take, replicate, ap, refl, ◌∙◌}
use Rattle.std.proofs.lemmas.List.{append-nil}
use Rattle.stored_file.specs.File.{FileState}
use Rattle.device_meaning.specs.State.{State}
use Rattle.durable_machine.specs.Files.{whole_sectors}
use Rattle.durable_machine.specs.Journal.{closed_gate}
use Rattle.durable_machine.proofs.Folding.{based, folded_state}
use Rattle.durable_device.specs.Machine.{IsDeviceBase, next_state}
use Rattle.device_salvage.specs.Salvage.{AreBaseAlone}

-- a base, and zeros up to whole sectors and a closed gate
pub base_alone : (base bytes : List ℕ) (device : State) (front n : ℕ) → IsDeviceBase base device → front ≡ whole_sectors (length base) → n ≡ length base
    → bytes ≡ take (front + 4096) base ++ replicate {A = ℕ} (front + 4096 - n) 0 → AreBaseAlone bytes device
base_alone base bytes device front n loaded size counted is =
    let file : FileState = record { seen = bytes; moment = 0; left_since = λ t d. d ≡ bytes; once_synced = λ d. d ≡ bytes; faults = 0; made = [] } in
    let kept = based IsDeviceBase next_state base bytes device loaded front n size counted is file refl (record { left = λ d left. left; synced = λ d is. is }) in
    record {
      front = kept.front;
      begins = kept.begins;
      room = kept.rests.room;
      parts = kept.rests.parts ∙ ap (λ (l : List ℕ). kept.front ++ l ++ (closed_gate ++ kept.rests.room)) kept.rests.are ∙ none kept.front (closed_gate ++ kept.rests.room);
      stand = folded_state IsDeviceBase next_state base bytes device loaded front n size counted is bytes refl;
    }
  where
    none : (a b : List ℕ) → a ++ [] ++ b ≡ a ++ b
    none a b = ap (λ (l : List ℕ). l ++ b) (append-nil a)
