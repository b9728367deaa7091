-- Which files stand for no state, and how they are refused.
use Rattle.std.proofs.Common.{◌≡◌, ◌<◌, ℕ, Bool, List, ◌++◌, length, take, drop, sym, ◌∙◌, ap, subst, arith, append_assoc, length-append, length-take, take-append-drop}
use Rattle.stored_file.specs.File.{FileState}
use Rattle.stored_file.specs.declared.stored_file.FileError.TheVariants.{Memory, NoRoom, Failed}
use Rattle.durable_machine.specs.Journal.{IsDamagedAt}
use Rattle.durable_machine.proofs.Frames.{damaged_none}
use Rattle.durable_machine.specs.Bases.{BeginsBase, BeginsNoBase}
use Rattle.durable_machine.specs.Files.{IsState, whole_sectors}
use Rattle.durable_machine.specs.Refused.{IsUntouched, HasNoState, IsDamaged, IsRefused, Refuses}
use Rattle.durable_machine.specs.declared.fault.Fault.{Fault}
use Rattle.durable_machine.specs.declared.fault.Fault.TheVariants.{Unreadable, Damaged, Undone, OfFile}
use Rattle.durable_machine.proofs.Files.{one_front}

module _ {S : Type 0} (loads : List ℕ → S → Type 0) (next : S → Bool → List ℕ → S) where
  -- a file begins with its base
  base_first : (file : List ℕ) (s : S) (is : IsState loads next file s) → file ≡ is.1.begins.base ++ (is.1.begins.padding ++ (is.1.has.frames ++ is.1.has.rest))
  base_first file s (end, is) =
      is.has.parts ∙ append_assoc is.front is.has.frames is.has.rest
      ∙ ap (λ (l : List ℕ). l ++ (is.has.frames ++ is.has.rest)) is.begins.parts ∙ append_assoc is.begins.base is.begins.padding (is.has.frames ++ is.has.rest)

  pub none_loaded : (file : List ℕ) → BeginsNoBase loads file → HasNoState loads next file
  none_loaded file none s is = none is.1.begins.base (is.1.begins.padding ++ (is.1.has.frames ++ is.1.has.rest)) is.1.first is.1.begins.loaded (base_first file s is)

  module _ (one : (a b x y : List ℕ) (s t : S) → loads a s → loads b t → a ++ x ≡ b ++ y → (a ≡ b) × (s ≡ t)) where
    -- its base isn't in whole sectors
    pub too_short : (file : List ℕ) (base : ℕ) (first : S) → BeginsBase loads first base file → length file < whole_sectors base → HasNoState loads next file
    too_short file base first begins short s is =
        let bases = one is.1.begins.base (take base file) (is.1.begins.padding ++ (is.1.has.frames ++ is.1.has.rest)) (drop base file) is.1.first first is.1.begins.loaded begins.loaded (sym (base_first file s is) ∙ sym (take-append-drop base file)) in
        let same : length is.1.begins.base ≡ base = omega (arith, ap length bases.0, length-take base file, begins.within) in
        absurd (omega (arith, short, is.1.begins.size, ap whole_sectors same, ap length is.1.has.parts, length-append (is.1.front ++ is.1.has.frames) is.1.has.rest, length-append is.1.front is.1.has.frames))

    pub damaged : (n : ℕ) (file : List ℕ) → IsDamaged loads next n file → HasNoState loads next file
    damaged n file a s (end, b) =
        let fronts = one_front loads next one a.front b.front (a.is.frames ++ a.is.rest) (b.has.frames ++ b.has.rest) a.first b.first a.begins b.begins
        (sym (append_assoc a.front a.is.frames a.is.rest) ∙ sym a.is.parts ∙ b.has.parts ∙ append_assoc b.front b.has.frames b.has.rest) in
        damaged_none b.front a.batches b.batches n end file (subst (λ (front : List ℕ). IsDamagedAt front a.batches n file) fronts.0 a.is) b.has

  -- what is refused for its bytes isn't touched
  pub refuses : (old new : FileState) (fault : Fault) → new.seen ≡ old.seen → IsRefused loads next old.seen fault → (HasNoState loads next old.seen → IsUntouched old new) → Refuses loads next old new fault
  refuses old new Unreadable same none untouched = (none, untouched none)
  refuses old new (Damaged n) same is untouched = (is.0, is.1, untouched is.1)
  refuses old new (Undone n) same is untouched = (is, same)
  refuses old new (OfFile error) same is untouched = (λ failed. absurd (other (sym is ∙ failed)), λ full. absurd (room (sym is ∙ full)))
    where
      other : Memory ≡ Failed → ⊥
      other same = cc

      room : Memory ≡ NoRoom → ⊥
      room same = cc
