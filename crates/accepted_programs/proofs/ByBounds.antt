-- Where an address counts as any word, no record fits by a sum.
use Rattle.std.proofs.Common.{ℕ, pos, ◌≡◌, ◌+◌, ◌^◌, true, false, ◌&&◌, Option, Some, None, refl, arith}
use Rattle.std.proofs.lemmas.Bool.{and_parts, false_from_ne_true, leb-true, ltb-true}
use Rattle.std.specs.Prelude.{int_le, nat_le, nat_lt}
use Rattle.program_interface.specs.Area.{address_of, length_of}
use Rattle.word_domain.specs.Domain.{Operations}
use Rattle.word_domain.specs.declared.offsets.Offsets.{Offsets}
use Rattle.accepted_programs.specs.Accepted.{ends_inside, fits_by_sum, is_record}
use Rattle.accepted_programs.specs.Facts.{fact, greatest, least_length}
use Rattle.accepted_programs.specs.Laws.{JudgesByBounds, TakesAddressesForAny}
use Rattle.accepted_programs.specs.declared.facts.Facts.{Facts}
use Rattle.accepted_programs.specs.declared.sums.Fit.{Fit}

module _ {D : Type 0} {IsFact : D → Type 0} (operations : Operations D) where
  module _ (takes : TakesAddressesForAny IsFact operations) (block : ℕ) (facts : Facts D) (first : IsFact (fact operations facts 1))
      (second : IsFact (fact operations facts 2)) where
    wraps : (f : Fit) (told : Offsets) → operations.offsets (fact operations facts 1) ≡ Some told
        → (is_record f && int_le (pos 0) told.low && nat_le 1 (least_length operations facts) && ends_inside operations block facts f told) ≡ true
        → ⊥
    wraps f told is_told inside =
        let last = and_parts (is_record f && int_le (pos 0) told.low && nat_le 1 (least_length operations facts)) (ends_inside operations block facts f told) inside in
        let some = and_parts (is_record f && int_le (pos 0) told.low) (nat_le 1 (least_length operations facts)) last.0 in
        let sum = greatest operations facts 1 + greatest operations facts 2 + f.more in
        let ends = and_parts (nat_lt sum (2 ^ 64)) (nat_le f.most (address_of told.area + length_of block told.area + f.more)) last.1 in
        let no_wrap = ltb-true sum (2 ^ 64) ends.0 in
        let length = leb-true 1 (least_length operations facts) some.1 in
        let any = takes.addresses (fact operations facts 1) first (rw is_told refl) in
        let ordered = takes.ordered (fact operations facts 2) second in
        omega (arith, no_wrap, length, any, ordered)

    never_fits : (fit : Option Fit) (told : Option Offsets) → operations.offsets (fact operations facts 1) ≡ told
        → fits_by_sum operations block facts fit told ≡ false
    never_fits (Some f) (Some told) is_told = false_from_ne_true _ (wraps f told is_told)
    never_fits (Some f) None is_told = refl
    never_fits None told is_told = refl

  pub judges_by_bounds : JudgesByBounds IsFact operations
  judges_by_bounds takes block facts first second =
      never_fits takes block facts first second facts.fit (operations.offsets (fact operations facts 1)) refl
