-- The words of scratch, group by group.
use Rattle.std.proofs.Common.{ℕ, ◌+◌, ◌*◌, ◌<◌, ◌≤◌, ◌-◌, ◌≡◌, ◌⊎◌, inl, inr, Bool, true, false, cond, List, [], ◌∷◌, length, get_or, Option, Some, None, refl, ap, ◌∙◌, subst, arith}
use Rattle.std.proofs.lemmas.Bool.Decides.{nat_tests}
use Rattle.std.proofs.lemmas.Nat.{mul-le}
use Rattle.std.specs.List.{AllByRecursion}
use Rattle.std.specs.Prelude.{◌==◌, if◌then◌else◌, nat_le, nat_lt}
use Rattle.common_definitions.specs.Bytes.{AreBytes, field}
use Rattle.program_interface.specs.declared.area.TheConstants.{SCRATCH_BYTES}
use Rattle.record_questions.proofs.Groups.{is_among}
use Rattle.record_questions.proofs.Words.{IsScratch, from_behind, from_below, from_is, from_word}
use Rattle.record_questions.specs.declared.question.Tally.{Tally}
use Rattle.record_questions.specs.declared.question.Tally.TheVariants.{Count}
use Rattle.record_questions.specs.declared.question.Grouping.{Grouping}
use Rattle.record_questions.specs.Question.{number_in}
use Rattle.record_questions.specs.Tallies.{WordsAreTallied, group_of, groups, is_of, records_of, tallied_from, tallied_in, tallied_of, tally_from, tally_step, word_at}

-- the words of a group below another end where those begin, or before
apart : (a b n : ℕ) → a < b → 8 * (a * n) + 8 * n ≤ 8 * (b * n)
apart a b n less =
    let most : (a + 1) * n ≤ b * n = mul-le (a + 1) n b n (omega (arith, less)) (omega arith) in
    omega (arith, most)

-- a word with one record more, if it is of the word's group
abbrev stepped : Bool → Tally → List ℕ → ℕ → ℕ
stepped true t r word = tally_step t r word
stepped false t r word = word

module _ (ts : List Tally) (r s : List ℕ) (are : AreBytes r) (is : IsScratch s) (count group i : ℕ) (inside : i < length ts)
    (low : group < count) (few : 8 * (count * length ts) ≤ SCRATCH_BYTES) where
  -- the byte at which the word begins
  abbrev place : ℕ
  place = 8 * (group * length ts + i)

  of_this : field (tallied_from (8 * (group * length ts)) ts r s) place 8 ≡ tally_step (get_or ts i Count) r (field s place 8)
  of_this =
      let e : 8 * (group * length ts) + 8 * i ≡ place = omega arith in
      let end = apart group count (length ts) low in
      subst (λ k. field (tallied_from (8 * (group * length ts)) ts r s) k 8 ≡ tally_step (get_or ts i Count) r (field s k 8)) e
      (from_word ts (8 * (group * length ts)) i r s inside (omega (arith, end, few)) are is)

  of_other : (mine : ℕ) → mine < count → (mine < group) ⊎ (group < mine) → field (tallied_from (8 * (mine * length ts)) ts r s) place 8 ≡ field s place 8
  of_other mine less (inl below_it) =
      let a = apart mine group (length ts) below_it in
      let end = apart mine count (length ts) less in
      from_behind ts (8 * (mine * length ts)) place r s (omega (arith, a)) (omega (arith, end, few)) is
  of_other mine less (inr above_it) =
      let a = apart group mine (length ts) above_it in
      let end = apart mine count (length ts) less in
      from_below ts (8 * (mine * length ts)) place r s (omega (arith, a, inside)) (omega (arith, end, few)) is

  apart_or : (mine : ℕ) → (mine == group) ≡ false → (mine < group) ⊎ (group < mine)
  apart_or mine e = by (nat_lt mine group) refl
    where
      by : (b : Bool) → nat_lt mine group ≡ b → (mine < group) ⊎ (group < mine)
      by true f = inl (grind (arith, nat_tests))
      by false f = inr (grind (arith, nat_tests))

  of_group : (mine : ℕ) (b : Bool) → mine < count → (mine == group) ≡ b
      → field (tallied_in ts (Some mine) r s) place 8 ≡ stepped b (get_or ts i Count) r (field s place 8)
  of_group mine true less e =
      let same : mine ≡ group = grind (arith, nat_tests) in
      rw same of_this
  of_group mine false less e = of_other mine less (apart_or mine e)

-- ---- values of groups

below_values : (first values x : ℕ) → is_among first values x ≡ true → x - first < values
below_values first values x e =
    let least : first ≤ x = grind (arith, nat_tests) in
    let less : x < first + values = grind (arith, nat_tests) in
    omega (arith, least, less)

group_test : (first values group x : ℕ) → is_among first values x ≡ true → (x - first == group) ≡ (x == first + group)
group_test first values group x e =
    let least : first ≤ x = grind (arith, nat_tests) in
    grind (arith, nat_tests)

no_group : (first values group x : ℕ) → group < values → is_among first values x ≡ false → (x == first + group) ≡ false
no_group first values group x less e = by_test (x == first + group) refl
  where
    by_test : (b : Bool) → (x == first + group) ≡ b → b ≡ false
    by_test true f =
        let same : x ≡ first + group = grind (arith, nat_tests) in
        let least : nat_le first x ≡ true = grind (arith, nat_tests) in
        let most : nat_lt x (first + values) ≡ true = grind (arith, nat_tests) in
        cc (e, least, most)
    by_test false f = refl

-- ---- one record more

module _ (ts : List Tally) (r s : List ℕ) (is : IsScratch s) where
  -- scratch stays so
  in_is : (by : Option Grouping) → 8 * (groups by * length ts) ≤ SCRATCH_BYTES → IsScratch (tallied_in ts (group_of by r) r s)
  in_is None few = from_is ts (8 * (0 * length ts)) r s (omega (arith, few)) is
  in_is (Some by) few = by_test (is_among by.first by.values (number_in by.field r)) refl
    where
      by_test : (b : Bool) → is_among by.first by.values (number_in by.field r) ≡ b
          → IsScratch (tallied_in ts (if b then Some (number_in by.field r - by.first) else None) r s)
      by_test true e =
          let x = number_in by.field r in
          let less = below_values by.first by.values x e in
          let a = apart (x - by.first) by.values (length ts) less in
          from_is ts (8 * ((x - by.first) * length ts)) r s (omega (arith, a, few)) is
      by_test false e = is

  module _ (are : AreBytes r) (group i : ℕ) (inside : i < length ts) where
    one_more : (by : Option Grouping) → group < groups by → 8 * (groups by * length ts) ≤ SCRATCH_BYTES
        → field (tallied_in ts (group_of by r) r s) (8 * (group * length ts + i)) 8
        ≡ stepped (is_of by group r) (get_or ts i Count) r (field s (8 * (group * length ts + i)) 8)
    one_more None low few =
        let e : (0 == group) ≡ true = grind (arith, nat_tests) in
        of_group ts r s are is 1 group i inside low few 0 true (omega arith) e
    one_more (Some by) low few = by_test (is_among by.first by.values (number_in by.field r)) refl
      where
        by_test : (b : Bool) → is_among by.first by.values (number_in by.field r) ≡ b
            → field (tallied_in ts (if b then Some (number_in by.field r - by.first) else None) r s) (8 * (group * length ts + i)) 8
            ≡ stepped (number_in by.field r == by.first + group) (get_or ts i Count) r (field s (8 * (group * length ts + i)) 8)
        by_test true e =
            let x = number_in by.field r in
            let less = below_values by.first by.values x e in
            of_group ts r s are is by.values group i inside low few (x - by.first) (x == by.first + group) less
            (group_test by.first by.values group x e)
        by_test false e = rw (no_group by.first by.values group (number_in by.field r) low e) refl

tally_more : (b : Bool) (r : List ℕ) (rs : List (List ℕ)) (t : Tally) (word : ℕ)
    → tally_from t rs (stepped b t r word) ≡ tally_from t (cond b (r ∷ rs) rs) word
tally_more true r rs t word = refl
tally_more false r rs t word = refl

pub words_are_tallied : WordsAreTallied
words_are_tallied q rs scratch are bytes long few group i low inside = all rs scratch are (record { long = long; are = bytes })
  where
    all : (rs : List (List ℕ)) (s : List ℕ) → AllByRecursion AreBytes rs → IsScratch s
        → field (tallied_of q rs s) (word_at q group i) 8
        ≡ tally_from (get_or q.tallies.items i Count) (records_of q.by group rs) (field s (word_at q group i) 8)
    all [] s are is = refl
    all (r ∷ rs) s are is =
        let ts = q.tallies.items in
        let t = get_or ts i Count in
        all rs (tallied_in ts (group_of q.by r) r s) are.1 (in_is ts r s is q.by few)
        ∙ (ap (tally_from t (records_of q.by group rs)) (one_more ts r s is are.0 group i inside q.by low few)
        ∙ tally_more (is_of q.by group r) r (records_of q.by group rs) t (field s (word_at q group i) 8))
