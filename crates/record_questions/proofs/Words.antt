-- The words of scratch, tally by tally.
use Rattle.std.proofs.Common.{ℕ, zero, suc, ◌+◌, ◌*◌, ◌<◌, ◌≤◌, ◌^◌, ◌≡◌, List, [], ◌∷◌, ◌++◌, length, drop, get_or, refl, sym, ap, ◌∙◌, arith, lit<}
use Rattle.std.proofs.Math.Nat.{mod-lt}
use Rattle.std.proofs.lemmas.List.{get_or-drop}
use Rattle.byteorder.specs.Endian.{little_bytes}
use Rattle.byteorder.specs.Numbers.{length-bytes_low_first, little_from-lt, little_number-reads_back}
use Rattle.common_definitions.proofs.Proved.{bytes_from, length-spliced, low_first, spliced_fit}
use Rattle.common_definitions.specs.Bytes.{AreBytes, field, spliced}
use Rattle.program_interface.specs.declared.area.TheConstants.{SCRATCH_BYTES}
use Rattle.program_meaning.proofs.Proved.{same_number, writes_read_back}
use Rattle.record_questions.proofs.Ranks.{rank_in_fits}
use Rattle.record_questions.specs.declared.question.Tally.{Tally}
use Rattle.record_questions.specs.declared.question.Tally.TheVariants.{Count, Sum, Least, Greatest}
use Rattle.record_questions.specs.Tallies.{tallied_from, tally_step, word_in}

-- a field is as small as its bytes allow
field_fits : (bytes : List ℕ) (at n : ℕ) → AreBytes bytes → field bytes at n < 256 ^ n
field_fits bytes at n are = little_from-lt 0 n (drop at bytes) (bytes_from at bytes are)

pub step_fits : (t : Tally) (r : List ℕ) (word : ℕ) → AreBytes r → word < 2 ^ 64 → tally_step t r word < 2 ^ 64
step_fits Count r word are h = mod-lt (word + 1) (lit< tt)
step_fits (Sum f) r word are h = mod-lt (word + word_in f r) (lit< tt)
step_fits (Least f) r word are h = omega arith
step_fits (Greatest f) r word are h = let x = rank_in_fits f r are in omega (arith, x)

module _ (s : List ℕ) (at word : ℕ) (fits : at + 8 ≤ length s) where
  same_field : (xs ys : List ℕ) (i j : ℕ) → ((k : ℕ) → k < 8 → get_or xs (i + k) 0 ≡ get_or ys (j + k) 0) → field xs i 8 ≡ field ys j 8
  same_field xs ys i j same = same_number 8 0 (drop i xs) (drop j ys) (λ k below. get_or-drop i xs k 0 ∙ (same k below ∙ sym (get_or-drop j ys k 0)))

  pub own : word < 2 ^ 64 → field (spliced at (little_bytes 8 word) s) at 8 ≡ word
  own small =
      let long = length-bytes_low_first 0 8 word in
      let w = writes_read_back s (little_bytes 8 word) at (omega (arith, long)) in
      same_field (spliced at (little_bytes 8 word) s) (little_bytes 8 word ++ []) at 0 (λ k below. let e : k ≡ 0 + k = omega arith in w.there k (omega (arith, long)) ∙ ap (λ (j : ℕ). get_or (little_bytes 8 word) j 0) e)
      ∙ little_number-reads_back 8 word [] (omega arith)

  pub below : (i : ℕ) → i + 8 ≤ at → field (spliced at (little_bytes 8 word) s) i 8 ≡ field s i 8
  below i le =
      let long = length-bytes_low_first 0 8 word in
      let w = writes_read_back s (little_bytes 8 word) at (omega (arith, long)) in
      same_field (spliced at (little_bytes 8 word) s) s i i (λ k less. w.before (i + k) (omega arith))

  pub behind : (i : ℕ) → at + 8 ≤ i → field (spliced at (little_bytes 8 word) s) i 8 ≡ field s i 8
  behind i le =
      let long = length-bytes_low_first 0 8 word in
      let w = writes_read_back s (little_bytes 8 word) at (omega (arith, long)) in
      same_field (spliced at (little_bytes 8 word) s) s i i (λ k less. w.behind (i + k) (omega (arith, long)))

-- what holds of scratch: as many bytes as it has
pub record IsScratch (s : List ℕ) : Type 0 where
  pub long : length s ≡ SCRATCH_BYTES
  pub are : AreBytes s

stored_is : (s : List ℕ) (at word : ℕ) → at + 8 ≤ SCRATCH_BYTES → IsScratch s → IsScratch (spliced at (little_bytes 8 word) s)
stored_is s at word room is =
    let long = length-bytes_low_first 0 8 word in
    record {
      long = length-spliced at (little_bytes 8 word) s (omega (arith, long, is.long)) ∙ is.long;
      are = spliced_fit at (little_bytes 8 word) s (low_first 0 8 word) is.are;
    }

step_at : (t : Tally) (r s : List ℕ) (at : ℕ) → AreBytes r → IsScratch s → tally_step t r (field s at 8) < 2 ^ 64
step_at t r s at are is = let h = field_fits s at 8 is.are in step_fits t r (field s at 8) are (omega (arith, h))

-- one record, tally by tally: words below those of the tallies stay
pub from_is : (ts : List Tally) (at : ℕ) (r s : List ℕ) → at + 8 * length ts ≤ SCRATCH_BYTES → IsScratch s → IsScratch (tallied_from at ts r s)
from_is [] at r s room is = is
from_is (t ∷ ts) at r s room is = from_is ts (at + 8) r _ (omega arith) (stored_is s at (tally_step t r (field s at 8)) (omega arith) is)

pub from_below : (ts : List Tally) (at i : ℕ) (r s : List ℕ) → i + 8 ≤ at → at + 8 * length ts ≤ SCRATCH_BYTES → IsScratch s → field (tallied_from at ts r s) i 8 ≡ field s i 8
from_below [] at i r s less room is = refl
from_below (t ∷ ts) at i r s less room is =
    let word = tally_step t r (field s at 8) in
    from_below ts (at + 8) i r (spliced at (little_bytes 8 word) s) (omega arith) (omega arith) (stored_is s at word (omega arith) is)
    ∙ below s at word (omega (arith, is.long)) i less

pub from_word : (ts : List Tally) (at i : ℕ) (r s : List ℕ) → i < length ts → at + 8 * length ts ≤ SCRATCH_BYTES → AreBytes r → IsScratch s
    → field (tallied_from at ts r s) (at + 8 * i) 8 ≡ tally_step (get_or ts i Count) r (field s (at + 8 * i) 8)
from_word [] at i r s inside room are is = absurd (omega arith)
from_word (t ∷ ts) at zero r s inside room are is =
    let word = tally_step t r (field s at 8) in
    let e : at + 8 * 0 ≡ at = omega arith in
    rw e (from_below ts (at + 8) at r (spliced at (little_bytes 8 word) s) (omega arith) (omega arith) (stored_is s at word (omega arith) is)
    ∙ own s at word (omega (arith, is.long)) (step_at t r s at are is))
from_word (t ∷ ts) at (suc i) r s inside room are is =
    let word = tally_step t r (field s at 8) in
    let e : at + 8 * suc i ≡ at + 8 + 8 * i = omega arith in
    rw e (from_word ts (at + 8) i r (spliced at (little_bytes 8 word) s) (omega arith) (omega arith) are (stored_is s at word (omega arith) is)
    ∙ ap (tally_step (get_or ts i Count) r) (behind s at word (omega (arith, is.long)) (at + 8 + 8 * i) (omega arith)))

pub from_behind : (ts : List Tally) (at i : ℕ) (r s : List ℕ) → at + 8 * length ts ≤ i → at + 8 * length ts ≤ SCRATCH_BYTES → IsScratch s
    → field (tallied_from at ts r s) i 8 ≡ field s i 8
from_behind [] at i r s less room is = refl
from_behind (t ∷ ts) at i r s less room is =
    let word = tally_step t r (field s at 8) in
    from_behind ts (at + 8) i r (spliced at (little_bytes 8 word) s) (omega arith) (omega arith) (stored_is s at word (omega arith) is)
    ∙ behind s at word (omega (arith, is.long)) i (omega arith)
