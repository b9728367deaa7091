-- Sections of data, one behind the other.
use Rattle.std.proofs.Common.{◌≡◌, ◌∙◌, ◌≤◌, ◌<◌, ℕ, zero, suc, ◌+◌, false, List, [], ◌∷◌, ◌++◌, length, drop, map, get_or, nat_le, Ok, Err, refl, ap, sym, arith, add-one, append_assoc}
use Rattle.std.proofs.lemmas.Bool.{cond-false, leb-false, lt-leb}
use Rattle.std.proofs.lemmas.List.{length-append}
use Rattle.std.specs.List.{slice_get}
use Rattle.common_definitions.proofs.Proved.{length-padded}
use Rattle.ebpf_inline.specs.Data.{all_data, data_begin, first_ones, fitting_data, padded_length, padded_section, section_length}
use Rattle.ebpf_inline.specs.declared.unit_fault.UnitFault.TheVariants.{TooMuchData}
use Rattle.program_interface.specs.declared.area.TheConstants.{STACK_BYTES}

-- ---- lists that are given place by place

-- one more
pub one_more : {X : Type 0} (at : ℕ → X) (count : ℕ) → first_ones at (count + 1) ≡ first_ones at count ++ at count ∷ []
one_more at count = ap (first_ones at) (add-one count)

-- there are as many
pub length-first_ones : {X : Type 0} (at : ℕ → X) (count : ℕ) → length (first_ones at count) ≡ count
length-first_ones at zero = refl
length-first_ones at (suc count) = omega (arith, length-append (first_ones at count) (at count ∷ []), length-first_ones at count)

-- ---- where sections begin

-- the bytes of a section
pub padded_is : (section : List ℕ) → length (padded_section section) ≡ padded_length (length section)
padded_is section = length-padded (padded_length (length section)) section (omega arith)

-- the first one's
pub begins_first : (sections : List (List ℕ)) → data_begin sections 0 ≡ 0
begins_first [] = refl
begins_first (section ∷ rest) = refl

next : (sections : List (List ℕ)) (number : ℕ)
    → data_begin sections (suc number) ≡ data_begin sections number + padded_length (section_length (slice_get sections number))
next [] number = refl
next (section ∷ rest) zero = omega (arith, begins_first rest)
next (section ∷ rest) (suc number) = omega (arith, next rest number)

-- that of the next one
pub begin_next : (sections : List (List ℕ)) (number : ℕ)
    → data_begin sections (number + 1) ≡ data_begin sections number + padded_length (section_length (slice_get sections number))
begin_next sections number = ap (data_begin sections) (add-one number) ∙ next sections number

-- none begins behind the end of all
pub begin_fits : (sections : List (List ℕ)) (number : ℕ) → data_begin sections number ≤ length (all_data sections)
begin_fits [] number = omega arith
begin_fits (section ∷ rest) zero = omega arith
begin_fits (section ∷ rest) (suc number) =
    omega (arith, begin_fits rest number, padded_is section, length-append (padded_section section) (all_data rest))

-- ---- what is put together

module _ {V : Type 0} (f : V → List ℕ) where
  data_at : (xs : List V) (i : ℕ) (x : V) → x ≡ get_or xs i x → i < length xs
      → all_data (drop i (map f xs)) ≡ padded_section (f x) ++ all_data (drop (suc i) (map f xs))
  data_at [] i x is below = absurd (omega (arith, below))
  data_at (y ∷ xs) zero x is below = ap (λ (z : V). padded_section (f z) ++ all_data (map f xs)) (sym is)
  data_at (y ∷ xs) (suc i) x is below = data_at xs i x is (omega (arith, below))

  -- a section more
  pub section_more : (front : List ℕ) (xs : List V) (i : ℕ) (x : V) → x ≡ get_or xs i x → i < length xs
      → front ++ all_data (drop i (map f xs)) ≡ all_data (map f xs)
      → front ++ padded_section (f x) ++ all_data (drop (i + 1) (map f xs)) ≡ all_data (map f xs)
  section_more front xs i x is below so_far =
      append_assoc front (padded_section (f x)) (all_data (drop (i + 1) (map f xs)))
      ∙ ap (λ (n : ℕ). front ++ (padded_section (f x) ++ all_data (drop n (map f xs)))) (add-one i)
      ∙ sym (ap (λ (rest : List ℕ). front ++ rest) (data_at xs i x is below))
      ∙ so_far

  -- a section that doesn't fit
  pub too_much : (front : List ℕ) (xs : List V) (i : ℕ) (x : V) → x ≡ get_or xs i x → i < length xs
      → front ++ all_data (drop i (map f xs)) ≡ all_data (map f xs)
      → nat_le (length front + padded_length (length (f x))) STACK_BYTES ≡ false
      → fitting_data (map f xs) ≡ Err TooMuchData
  too_much front xs i x is below so_far full =
      let whole : length (front ++ padded_section (f x) ++ all_data (drop (i + 1) (map f xs))) ≡ length (all_data (map f xs))
      = ap (length {A = ℕ}) (section_more front xs i x is below so_far) in
      let long : STACK_BYTES < length (all_data (map f xs))
      = omega (
        arith,
        whole,
        padded_is (f x),
        length-append (front ++ padded_section (f x)) (all_data (drop (i + 1) (map f xs))),
        length-append front (padded_section (f x)),
        leb-false (length front + padded_length (length (f x))) STACK_BYTES full,
      ) in
      cond-false (nat_le (length (all_data (map f xs))) STACK_BYTES) (Ok (all_data (map f xs))) (Err TooMuchData)
      (lt-leb (length (all_data (map f xs))) STACK_BYTES long)
