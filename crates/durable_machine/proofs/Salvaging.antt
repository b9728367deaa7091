-- How batches are found in what stands after damage.
use Rattle.std.proofs.Common.{◌≡◌, inl, inr, ◌<◌, ◌≤◌, ◌+◌, ◌-◌, ◌*◌, ℕ, zero, suc, Bool, List, [], ◌∷◌, length, drop, refl, sym, ◌∙◌, ap, subst, arith, length-append, length-drop}
use Rattle.std.proofs.lemmas.List.{drop-drop}
use Rattle.durable_machine.specs.Journal.{BeginsBatch, BeginsNoBatch}
use Rattle.durable_machine.specs.Salvage.{AreFound, IsSeen, HasNone, HasNoneBefore, HasBegun, IsSalvaged}
use Rattle.durable_machine.proofs.Frames.{length-frame, too_few}

-- those that were found so far, and whatever is found in what is left
pub record AreMore (begin at found : ℕ) (rest bytes : List ℕ) : Type 0 where
  pub place : at + length rest ≡ begin + length bytes
  pub fewer : found + length rest ≤ length bytes
  pub further : (more : List (List (List ℕ))) → AreFound at more rest → (all : List (List (List ℕ))) × AreFound begin all bytes × (length all ≡ found + length more)

pub nothing_yet : (begin : ℕ) (bytes : List ℕ) → AreMore begin begin 0 bytes bytes
nothing_yet begin bytes = record { place = refl; fewer = omega arith; further = λ more are. (more, are, omega arith) }

module _ (begin at found : ℕ) (rest bytes : List ℕ) (so_far : AreMore begin at found rest bytes) where
  -- a batch stands at the front of what is left
  pub one_found : (later : ℕ) (batch : List (List ℕ)) (behind : List ℕ) → BeginsBatch at batch behind rest → later + length behind ≡ begin + length bytes → AreMore begin later (found + 1) behind bytes
  one_found later batch behind begins place =
      let size = ap length begins.parts in
      let both = length-append begins.frame behind in
      let framed = length-frame at batch begins.frame begins.is in
      let ends : later ≡ at + length begins.frame = omega (arith, place, so_far.place, size, both) in
      let start : at ≡ at + 4096 * 0 = omega arith in
      record {
        place = place;
        fewer = omega (arith, so_far.fewer, size, both, framed);
        further = λ more are.
            let first : BeginsBatch (at + 4096 * 0) batch behind rest = subst (λ (n : ℕ). BeginsBatch n batch behind rest) start begins in
            let next : AreFound (at + 4096 * 0 + length first.frame) more behind = subst (λ (n : ℕ). AreFound n more behind) (ends_as first) are in
            let all = so_far.further (batch ∷ more) (0, behind, (λ k less. absurd (omega (arith, less))), first, next) in
            (all.0, all.1, omega (arith, all.2));
      }
    where
      ends_as : (first : BeginsBatch (at + 4096 * 0) batch behind rest) → later ≡ at + 4096 * 0 + length first.frame
      ends_as first = omega (arith, place, so_far.place, ap length first.parts, length-append first.frame behind)

  -- none stands at its first sector
  pub none_found : (later : ℕ) → BeginsNoBatch at rest → 4096 < length rest → later ≡ at + 4096 → AreMore begin later found (drop 4096 rest) bytes
  none_found later none long ends = record {
    place = omega (arith, so_far.place, ends, length-drop 4096 rest, long);
    fewer = omega (arith, so_far.fewer, length-drop 4096 rest);
    further = λ more are. so_far.further more (back more (subst (λ (n : ℕ). AreFound n more (drop 4096 rest)) ends are));
  }
    where
      one_more : (k : ℕ) → drop (4096 * k) (drop 4096 rest) ≡ drop (4096 * suc k) rest
      one_more k = drop-drop (4096 * k) 4096 rest ∙ ap (λ (n : ℕ). drop n rest) times
        where
          times : 4096 + 4096 * k ≡ 4096 * suc k
          times = omega arith

      further_on : (k : ℕ) → at + 4096 + 4096 * k ≡ at + 4096 * suc k
      further_on k = omega arith

      no_batch : (k : ℕ) → BeginsNoBatch (at + 4096 + 4096 * k) (drop (4096 * k) (drop 4096 rest)) → BeginsNoBatch (at + 4096 * suc k) (drop (4096 * suc k) rest)
      no_batch k is = subst (λ (n : ℕ). BeginsNoBatch n (drop (4096 * suc k) rest)) (further_on k) (subst (λ (l : List ℕ). BeginsNoBatch (at + 4096 + 4096 * k) l) (one_more k) is)

      here : BeginsNoBatch (at + 4096 * 0) (drop (4096 * 0) rest)
      here = subst (λ (n : ℕ). BeginsNoBatch n rest) same none
        where
          same : at ≡ at + 4096 * 0
          same = omega arith

      nowhere : HasNone (at + 4096) (drop 4096 rest) → HasNone at rest
      nowhere is zero = here
      nowhere is (suc k) = no_batch k (is k)

      not_before : (n : ℕ) → HasNoneBefore n (at + 4096) (drop 4096 rest) → HasNoneBefore (suc n) at rest
      not_before n is zero less = here
      not_before n is (suc k) less = no_batch k (is k (omega (arith, less)))

      back : (more : List (List (List ℕ))) → AreFound (at + 4096) more (drop 4096 rest) → AreFound at more rest
      back [] are = nowhere are
      back (batch ∷ more) are =
          let first : BeginsBatch (at + 4096 * suc are.0) batch are.1 (drop (4096 * suc are.0) rest) =
          subst (λ (n : ℕ). BeginsBatch n batch are.1 (drop (4096 * suc are.0) rest)) (further_on are.0)
          (subst (λ (l : List ℕ). BeginsBatch (at + 4096 + 4096 * are.0) batch are.1 l) (one_more are.0) are.3) in
          let size : length are.3.frame ≡ length first.frame =
          omega (arith, ap length are.3.parts, ap length first.parts, length-append are.3.frame are.1, length-append first.frame are.1, ap length (one_more are.0)) in
          let ends : at + 4096 + 4096 * are.0 + length are.3.frame ≡ at + 4096 * suc are.0 + length first.frame = omega (arith, size) in
          (suc are.0, are.1, not_before are.0 are.2, first, subst (λ (n : ℕ). AreFound n more are.1) ends are.4)

  -- what is seen at its first sector
  seen_less : (n : ℕ) (behind : List ℕ) → IsSeen at rest n behind → length behind < length rest
  seen_less n behind (inl one) = omega (arith, ap length one.2.parts, length-append one.2.frame behind, length-frame at one.1 one.2.frame one.2.is)
  seen_less n behind (inr none) = omega (arith, none.2, ap length none.3, length-drop 4096 rest)

  pub seen_more : (n : ℕ) (behind : List ℕ) → IsSeen at rest n behind → (begin + (length bytes - length behind)) + length behind ≡ begin + length bytes
      → AreMore begin (begin + (length bytes - length behind)) (found + n) behind bytes
  seen_more n behind (inl one) place =
      subst (λ (k : ℕ). AreMore begin (begin + (length bytes - length behind)) (found + k) behind bytes) (sym one.0) (one_found (begin + (length bytes - length behind)) one.1 behind one.2 place)
  seen_more n behind (inr none) place =
      let same : found ≡ found + n = omega (arith, none.0) in
      let ends : begin + (length bytes - length behind) ≡ at + 4096 = omega (arith, place, so_far.place, none.2, ap length none.3, length-drop 4096 rest) in
      subst (λ (k : ℕ). AreMore begin (begin + (length bytes - length behind)) k behind bytes) same
      (subst (λ (l : List ℕ). AreMore begin (begin + (length bytes - length behind)) found l bytes) (sym none.3) (none_found (begin + (length bytes - length behind)) none.1 none.2 ends))

  pub seen_next : (n : ℕ) (behind : List ℕ) → IsSeen at rest n behind → AreMore begin (begin + (length bytes - length behind)) (found + n) behind bytes × (length behind < length rest)
  seen_next n behind seen =
      let less = seen_less n behind seen in
      (seen_more n behind seen (omega (arith, less, so_far.fewer)), less)

  -- no more than a sector is left
  pub all_found : length rest ≤ 4096 → (batches : List (List (List ℕ))) × AreFound begin batches bytes × (found ≡ length batches)
  all_found short =
      let all = so_far.further [] (λ k. too_few (at + 4096 * k) (drop (4096 * k) rest) (omega (arith, short, length-drop (4096 * k) rest))) in
      (all.0, all.1, omega (arith, all.2))

-- what is saved
pub is_salvaged : {S : Type 0} (loads : List ℕ → S → Type 0) (next : S → Bool → List ℕ → S) (end last whole readable : ℕ) (file bytes : List ℕ) (s : S) (begun : HasBegun loads next end last whole file s) → bytes ≡ begun.rest
    → (later : List (List (List ℕ))) → AreFound end later bytes → readable ≡ length later → IsSalvaged loads next end whole readable file s
is_salvaged loads next end last whole readable file bytes s begun same later found counted =
    record { last = last; begun = begun; later = later; found = subst (λ (l : List ℕ). AreFound end later l) same found; counted = counted }
