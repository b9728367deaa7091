-- Of sections without a fault none has a byte of the file in common with another.
use Rattle.std.proofs.Common.{◌≡◌, ◌∙◌, ℕ, zero, suc, ◌+◌, ◌-◌, ◌<◌, ◌≤◌, ◌&&◌, Bool, true, false, cond, List, None, Option, Some, nat_lt, inl, inr, refl, ap, arith, subst, sym, below_more}
use Rattle.std.specs.Option.{option_or}
use Rattle.std.proofs.lemmas.Bool.{and_from, cases_lt, cases_order, lt-ltb, true≢false}
use Rattle.ebpf_object.specs.declared.section.Section.{Section}
use Rattle.ebpf_object.specs.Objects.{AreApart, IsObject, section_count}
use Rattle.ebpf_object.specs.Sections.{IsIn, first_overlap, has_contents, overlap, section_at}
use Rattle.ebpf_object.proofs.Passed.{neither, none_overlaps}

unfound : (test : Bool) (n : ℕ) → cond test (Some n) None ≡ None → test ≡ false
unfound true n e = absurd cc
unfound false n e = refl

-- where no section below a number has a byte in common with a section, none of them has
none_of : (bytes : List ℕ) (section : Section) (count : ℕ) → first_overlap bytes section count ≡ None
    → (k : ℕ) → k < count → overlap (section_at bytes k) section ≡ false
none_of bytes section zero e k below = absurd (omega (arith, below))
none_of bytes section (suc count) e k below =
    let parts = neither (first_overlap bytes section count) (cond (overlap (section_at bytes count) section) (Some count) None) e in
    below_more (λ (k : ℕ). overlap (section_at bytes k) section ≡ false) count (none_of bytes section count parts.0)
    (unfound (overlap (section_at bytes count) section) count parts.1) k (omega (arith, below))

-- and where the next one has none either, none up to it has
pub none_up_to : (bytes : List ℕ) (section : Section) (count : ℕ) → first_overlap bytes section count ≡ None
    → overlap (section_at bytes count) section ≡ false → first_overlap bytes section (count + 1) ≡ None
none_up_to bytes section count none here =
    let next : suc count ≡ count + 1 = omega arith in
    let step : first_overlap bytes section (suc count) ≡ None = rw (none, here) in
    subst (λ (n : ℕ). first_overlap bytes section n ≡ None) next step

-- the first that has stays the first, however many more are looked at
pub found_stays : (bytes : List ℕ) (section : Section) (number count : ℕ) → first_overlap bytes section number ≡ None
    → overlap (section_at bytes number) section ≡ true → number < count → first_overlap bytes section count ≡ Some number
found_stays bytes section number zero none here below = absurd (omega (arith, below))
found_stays bytes section number (suc count) none here below =
    elim (cases_lt number count) [
      | inl less ↦
          ap (λ (o : Option ℕ). option_or o (cond (overlap (section_at bytes count) section) (Some count) None))
          (found_stays bytes section number count none here less)
      | inr past ↦
          let same : number ≡ count = omega (arith, below, past) in
          let now : option_or (first_overlap bytes section number) (cond (overlap (section_at bytes number) section) (Some number) None) ≡ Some number
          = rw (none, here) in
          subst (λ (n : ℕ). first_overlap bytes section (suc n) ≡ Some number) same now
    ]

-- two sections that have a byte in common overlap
in_both : (byte : ℕ) (a b : Section) → IsIn byte a → IsIn byte b → overlap a b ≡ true
in_both byte a b in_a in_b =
    let first : nat_lt (b.offset - a.offset) a.size ≡ true = lt-ltb (b.offset - a.offset) a.size (omega (arith, in_a.from, in_a.below, in_b.from, in_b.below)) in
    let second : nat_lt (a.offset - b.offset) b.size ≡ true = lt-ltb (a.offset - b.offset) b.size (omega (arith, in_a.from, in_a.below, in_b.from, in_b.below)) in
    and_from _ _ (and_from _ _ (and_from _ _ in_a.has in_b.has) first) second

module _ (bytes : List ℕ) (symbols : ℕ) (object : IsObject bytes symbols) where
  never : (byte a b : ℕ) → a < b → b < section_count bytes → IsIn byte (section_at bytes a) → IsIn byte (section_at bytes b) → ⊥
  never byte a b order below in_a in_b =
      let none = none_overlaps bytes symbols b (object.symbols_are.sections_are.sections b below) in
      true≢false (sym (in_both byte (section_at bytes a) (section_at bytes b) in_a in_b) ∙ none_of bytes (section_at bytes b) b none a order)

  -- no byte of an object's file is in two sections
  pub are_apart : AreApart bytes
  are_apart byte a b below_a below_b in_a in_b =
      elim (cases_order a b) [
        | inl same ↦ same
        | inr (inl order) ↦ absurd (never byte a b order below_b in_a in_b)
        | inr (inr order) ↦ absurd (never byte b a order below_a in_b in_a)
      ]
