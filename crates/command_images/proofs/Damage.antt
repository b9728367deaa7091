-- Where the whole batches of damaged bytes end.
use Rattle.std.proofs.Common.{◌≡◌, ◌+◌, ℕ, Bool, List, ◌++◌, length, drop, refl, sym, ◌∙◌, ap, subst, arith, append_assoc, length-append}
use Rattle.std.proofs.lemmas.List.{drop_at}
use Rattle.durable_machine.specs.Journal.{AreFrames, IsDamagedAt}
use Rattle.durable_machine.specs.Refused.{IsDamaged}
use Rattle.durable_machine.specs.Salvage.{HasBegun, IsSalvaged}
use Rattle.durable_machine.proofs.Files.{one_front}
use Rattle.durable_machine.proofs.Frames.{one_list_of_batches}
use Rattle.durable_device.specs.Machine.{IsDeviceBase, next_state, one_device}
use Rattle.command_images.specs.Devices.{HasWhole}

-- damage is where they end
module _ {S : Type 0} (loads : List ℕ → S → Type 0) (next : S → Bool → List ℕ → S)
    (one : (a b x y : List ℕ) (s t : S) → loads a s → loads b t → a ++ x ≡ b ++ y → (a ≡ b) × (s ≡ t)) where
  one_end_at : (front : List ℕ) (batches : List (List (List ℕ))) (place end last count : ℕ) (file : List ℕ) (s : S)
      → IsDamagedAt front batches place file → (begun : HasBegun loads next end last count file s) → front ≡ begun.front → end ≡ place
  one_end_at front batches place end last count file s a b same =
      let parts : file ≡ front ++ b.frames ++ b.rest = b.parts ∙ ap (λ (l : List ℕ). l ++ b.frames ++ b.rest) (sym same) in
      let size : length front ≡ length b.front = ap length same in
      let behind : a.frames ++ a.rest ≡ b.frames ++ b.rest =
      sym (drop_at front (a.frames ++ a.rest) (length front) refl)
      ∙ ap (λ (l : List ℕ). drop (length front) l) (sym (append_assoc front a.frames a.rest) ∙ sym a.parts ∙ parts ∙ append_assoc front b.frames b.rest)
      ∙ drop_at front (b.frames ++ b.rest) (length front) refl in
      let are = subst (λ (l : List ℕ). AreFrames (length l) b.batches b.frames) (sym same) b.are in
      let lists = one_list_of_batches (length front) batches b.batches a.frames b.frames a.rest b.rest place end a.are are a.damage.nothing b.nothing
      (omega (arith, a.ends, length-append front a.frames)) (omega (arith, b.ends, size, length-append b.front b.frames)) behind in
      omega (
        arith,
        ap length behind,
        ap length lists.1,
        a.ends,
        b.ends,
        size,
        length-append front a.frames,
        length-append b.front b.frames,
        length-append a.frames a.rest,
        length-append b.frames b.rest,
      )

  pub one_end : (place end whole readable : ℕ) (file : List ℕ) (s : S) → IsDamaged loads next place file → IsSalvaged loads next end whole readable file s
      → end ≡ place
  one_end place end whole readable file s a b =
      let begun = b.begun in
      let fronts = one_front loads next one a.front begun.front (a.is.frames ++ a.is.rest) (begun.frames ++ begun.rest) a.first begun.first a.begins begun.begins
      (sym (append_assoc a.front a.is.frames a.is.rest) ∙ sym a.is.parts ∙ begun.parts ∙ append_assoc begun.front begun.frames begun.rest) in
      one_end_at a.front a.batches place end b.last whole file s a.is begun fronts.0

pub whole_to_damage : (place end whole readable : ℕ) (bytes : List ℕ) → IsDamaged IsDeviceBase next_state place bytes → HasWhole end whole readable bytes
    → HasWhole place whole readable bytes
whole_to_damage place end whole readable bytes damaged has =
    subst (λ (n : ℕ). HasWhole n whole readable bytes)
    (one_end IsDeviceBase next_state one_device place end whole readable bytes has.device damaged has.salvaged) has
