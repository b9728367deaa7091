-- What slots hold after facts were given to some.
use Rattle.std.proofs.Common.{◌≡◌, ◌≢◌, ℕ, ℤ, zero, suc, ◌<◌, ◌≤◌, ◌==◌, ◌++◌, Bool, true, false, List, [], ◌∷◌, length, get_or, set, Option, Some, None, Result, Ok, Err, pos, refl, subst, sym, ap, ◌∙◌, arith, if◌then◌else◌}
use Rattle.std.proofs.lemmas.Bool.{eqb-false, eqb-true, ne_eqb}
use Rattle.std.proofs.lemmas.Bool.Decides.{nat_tests}
use Rattle.std.proofs.lemmas.Grind.{get_or-set_at}
use Rattle.std.proofs.lemmas.List.{get_or-set_other, set-set}
use Rattle.std.specs.Ordering.{int_eq}
use Rattle.std.specs.Prelude.{Box, IsSome, OnOk}
use Rattle.instruction_set.specs.Instruction.{distance_of, target}
use Rattle.instruction_set.specs.declared.instruction.Instruction.{Instruction}
use Rattle.instruction_set.specs.declared.instruction.Instruction.TheVariants.{Branch, Jump, JumpLong}
use Rattle.instruction_set.specs.declared.operation.Relation.{Relation}
use Rattle.instruction_set.specs.declared.operation.Width.{Width}
use Rattle.instruction_set.specs.declared.instruction.Source.{Source}
use Rattle.instruction_set.specs.declared.instruction.Source.TheVariants.{Immediate, Register}
use Rattle.word_domain.specs.Domain.{Operations}
use Rattle.accepted_programs.specs.Facts.{compared_fit, facts_at_start, facts_at_target, facts_behind, gives, leads, merge, slot_behind, tracked, with_both, with_compared}
use Rattle.verifier.specs.declared.rows.Fork.{Fork}
use Rattle.verifier.specs.steps.Instructions.{told_along}
use Rattle.verifier.specs.steps.Rows.{EachBecomes, GivesAlong, GivesBoth, GivesByJump, HoldStart, held, held_at, Rows, with_gift}
use Rattle.accepted_programs.specs.declared.facts.Facts.{Facts}

-- one row more, of which nothing is known
pub empty_more : {A : Type 0} (rows : List (Option A)) → ((s : ℕ) → get_or rows s None ≡ None)
    → (s : ℕ) → get_or (rows ++ (None ∷ [])) s None ≡ None
empty_more [] empty zero = refl
empty_more [] empty (suc s) = refl
empty_more (row ∷ rows) empty zero = empty zero
empty_more (row ∷ rows) empty (suc s) = empty_more rows (λ k. empty (suc k)) s

-- ---- registers that are set twice
both_twice : {A : Type 0} (l : List A) (i j : ℕ) (a b c d : A) → set (set (set (set l i a) j b) i c) j d ≡ set (set l i c) j d
both_twice [] i j a b c d = refl
both_twice (x ∷ l) zero zero a b c d = refl
both_twice (x ∷ l) zero (suc j) a b c d = ap (λ t. c ∷ t) (set-set l j b d)
both_twice (x ∷ l) (suc i) zero a b c d = ap (λ t. d ∷ t) (set-set l i a c)
both_twice (x ∷ l) (suc i) (suc j) a b c d = ap (λ t. x ∷ t) (both_twice l i j a b c d)

module _ {D : Type 0} (operations : Operations D) where
  -- what a compare tells along one edge replaces what it tells along the other, once what was known of a sum is as before
  pub edge_replaced : (facts : Facts D) (dst : ℕ) (source : Source) (one other : D × D)
      → with_compared operations dst source (record (with_compared operations dst source facts one) { fit = facts.fit }) other
      ≡ with_compared operations dst source facts other
  edge_replaced facts dst (Register r) one other =
      ap (λ registers. let told = record facts { registers = registers } in
      record told { fit = tracked operations (compared_fit operations dst (Register r) told told.sum) })
      (both_twice facts.registers dst r one.0 one.1 other.0 other.1)
  edge_replaced facts dst (Immediate z) one other =
      ap (λ registers. let told = record facts { registers = registers } in
      record told { fit = tracked operations (compared_fit operations dst (Immediate z) told told.sum) })
      (set-set facts.registers dst one.0 other.0)

  merge_none : (o : Option (Facts D)) → merge operations o None ≡ o
  merge_none (Some a) = refl
  merge_none None = refl

  -- m is o, but joined with b at the target, which isn't the slot behind
  in_either_order : (a b : Facts D) (at_target behind : Bool) (o m : Option (Facts D))
      → (at_target ≡ true → m ≡ merge operations o (Some b)) → (at_target ≡ false → m ≡ o) → (at_target ≡ true → behind ≡ false)
      → merge operations m (if behind then Some a else None)
      ≡ merge operations (merge operations o (if behind then Some a else None)) (if at_target then Some b else None)
  in_either_order a b true true o m there elsewhere apart = let not_both = apart refl in cc
  in_either_order a b true false o m there elsewhere apart =
      merge_none m ∙ there refl ∙ ap (λ r. merge operations r (Some b)) (sym (merge_none o))
  in_either_order a b false behind o m there elsewhere apart =
      ap (λ r. merge operations r (if behind then Some a else None)) (elsewhere refl)
      ∙ sym (merge_none (merge operations o (if behind then Some a else None)))

  -- facts given to the slot behind a compare, and then others to its target: x, and then y
  pub given_in_turn : {Z : Type 0} (behind target : ℕ) (a b x y : Facts D) (old between new : Rows D Z)
      → a ≡ x → b ≡ y → length between ≡ length old
      → EachBecomes (with_gift operations behind (Some a)) old between → EachBecomes (with_gift operations target (Some b)) between new
      → GivesBoth operations behind (Some x) target (Some y) old new
  given_in_turn behind target a b x y old between new is_x is_y long first last s inside =
      rw (sym is_x, sym is_y) (last s (rw long inside) ∙ ap (with_gift operations target (Some b) s) (first s inside))

  nothing_given : (test : Bool) (o : Option (Facts D)) → o ≡ merge operations o (if test then None else None)
  nothing_given true o = sym (merge_none o)
  nothing_given false o = sym (merge_none o)

  -- facts along the edge of a compare that leads to the slot behind it, where there is no other
  pub given_behind : {Z : Type 0} (behind target : ℕ) (a x : Facts D) (old new : Rows D Z)
      → a ≡ x → EachBecomes (with_gift operations behind (Some a)) old new → GivesBoth operations behind (Some x) target None old new
  given_behind behind target a x old new is given s inside =
      rw (sym is) (given s inside ∙ nothing_given (target == s) (with_gift operations behind (Some a) s (held_at old s)))

  -- and along that to its target
  pub given_to_target : {Z : Type 0} (behind target : ℕ) (a x : Facts D) (old new : Rows D Z)
      → a ≡ x → EachBecomes (with_gift operations target (Some a)) old new → GivesBoth operations behind None target (Some x) old new
  given_to_target behind target a x old new is given s inside =
      rw (sym is) (given s inside ∙ ap (with_gift operations target (Some a) s) (nothing_given (behind == s) (held_at old s)))

  -- no facts at all
  pub given_nowhere : {Z : Type 0} (behind target : ℕ) (old : Rows D Z) → GivesBoth operations behind None target None old old
  given_nowhere behind target old s inside =
      nothing_given (behind == s) (held_at old s)
      ∙ nothing_given (target == s) (with_gift operations behind None s (held_at old s))

  one_row : (facts : Facts D) (test : Bool) (o m : Option (Facts D)) → (test ≡ true → m ≡ merge operations o (Some facts)) → (test ≡ false → m ≡ o)
      → m ≡ merge operations o (if test then Some facts else None)
  one_row facts true o m here elsewhere = here refl
  one_row facts false o m here elsewhere = elsewhere refl ∙ sym (merge_none o)

  -- facts joined into the row of one slot
  pub given_one : {Z : Type 0} (to : ℕ) (facts : Facts D) (rows : Rows D Z) (row : Option (Box (Facts D) Z)) → to < length rows
      → held row ≡ merge operations (held_at rows to) (Some facts) → EachBecomes (with_gift operations to (Some facts)) rows (set rows to row)
  given_one to facts rows row within joined s inside =
      one_row facts (to == s) (held_at rows s) (held_at (set rows to row) s)
      (λ e. ap held (get_or-set_at rows to s row None (sym (eqb-true to s e)) within) ∙ joined
      ∙ ap (λ (k : ℕ). merge operations (held_at rows k) (Some facts)) (eqb-true to s e))
      (λ e. ap held (get_or-set_other rows to s row None (λ same. eqb-false to s e (sym same))))

  -- what is known of the two words along the edges of a compare that there are
  pub given_along : {Z : Type 0} (fork : Fork D) (facts : Facts D) (not_taken taken : Option (D × D)) (old new : Rows D Z)
      → fork.not_taken ≡ not_taken → fork.taken ≡ taken → GivesAlong operations fork facts not_taken taken old new
      → GivesAlong operations fork facts fork.not_taken fork.taken old new
  given_along fork facts not_taken taken old new is_not is given =
      subst (λ (o : Option (D × D)). GivesAlong operations fork facts o fork.taken old new) (sym is_not)
      (subst (λ (o : Option (D × D)). GivesAlong operations fork facts not_taken o old new) (sym is) given)

  -- ---- what a jump gives
  jumps_only : (i : Instruction) (facts : Facts D) (block : ℕ) → IsSome (distance_of i)
      → ((w : Width) (r : Relation) (dst : ℕ) (source : Source) (distance : ℤ) → i ≡ Branch w r dst source distance → ⊥)
      → (facts_behind operations block i facts ≡ None) × (facts_at_target operations block i facts ≡ Some facts)
  jumps_only (Jump distance) facts block jumps not = (refl, refl)
  jumps_only (JumpLong distance) facts block jumps not = (refl, refl)
  jumps_only (Branch w r dst source distance) facts block jumps not = absurd (not w r dst source distance refl)
  jumps_only _ facts block jumps not = absurd cc

  -- one that is no compare gives to its target alone
  pub given_by_jump : {Z : Type 0} (i : Instruction) (facts : Facts D) (behind target : ℕ) (old new : Rows D Z) → IsSome (distance_of i)
      → ((w : Width) (r : Relation) (dst : ℕ) (source : Source) (distance : ℤ) → i ≡ Branch w r dst source distance → ⊥)
      → EachBecomes (with_gift operations target (Some facts)) old new → GivesByJump operations i facts behind target old new
  given_by_jump i facts behind target old new jumps not given block s inside =
      let only = jumps_only i facts block jumps not in
      rw (only.0, only.1) (given_to_target behind target facts facts old new refl given s inside)

  compared : {Z : Type 0} (i : Instruction) (w : Width) (r : Relation) (dst : ℕ) (source : Source) (distance : ℤ) (facts : Facts D)
      (behind target : ℕ) (not_taken taken : Option (D × D)) (old new : Rows D Z) → i ≡ Branch w r dst source distance
      → not_taken ≡ told_along operations false w r dst source facts → taken ≡ told_along operations true w r dst source facts
      → GivesBoth operations behind (with_both operations facts dst source not_taken) target (with_both operations facts dst source taken) old new
      → GivesByJump operations i facts behind target old new
  compared i w r dst source distance facts behind target not_taken taken old new is is_not is_taken given =
      subst (λ (j : Instruction). GivesByJump operations j facts behind target old new) (sym is)
      (λ block. subst (λ (o : Option (D × D)). GivesBoth operations behind (with_both operations facts dst source o) target
      (with_both operations facts dst source (told_along operations true w r dst source facts)) old new) is_not
      (subst (λ (o : Option (D × D)). GivesBoth operations behind (with_both operations facts dst source not_taken) target
      (with_both operations facts dst source o) old new) is_taken given))

  -- a compare gives what it tells along its edges
  pub given_by_compare : {Z E : Type 0} (result : Result Unit E) (i : Instruction) (w : Width) (r : Relation) (dst : ℕ) (source : Source)
      (distance : ℤ) (facts : Facts D) (behind target : ℕ) (not_taken taken : Option (D × D)) (old new : Rows D Z) → i ≡ Branch w r dst source distance
      → not_taken ≡ told_along operations false w r dst source facts → taken ≡ told_along operations true w r dst source facts
      → OnOk result (GivesBoth operations behind (with_both operations facts dst source not_taken) target (with_both operations facts dst source taken) old new)
      → OnOk result (GivesByJump operations i facts behind target old new)
  given_by_compare (Ok done) i w r dst source distance facts behind target not_taken taken old new is is_not is_taken given =
      compared i w r dst source distance facts behind target not_taken taken old new is is_not is_taken given
  given_by_compare (Err error) i w r dst source distance facts behind target not_taken taken old new is is_not is_taken given = tt

  not_behind : (target behind s : ℕ) → behind ≢ target → (target == s) ≡ true → (behind == s) ≡ false
  not_behind target behind s apart e = grind (arith, nat_tests)

  target_first : {Z : Type 0} (behind target : ℕ) (a b : Facts D) (old new : Rows D Z) (row : Option (Box (Facts D) Z))
      → behind ≢ target → target < length old → held row ≡ merge operations (held_at old target) (Some b)
      → ((s : ℕ) → s < length old → held_at new s ≡ with_gift operations behind (Some a) s (held_at (set old target row) s))
      → GivesBoth operations behind (Some a) target (Some b) old new
  target_first behind target a b old new row apart within joined given s inside =
      given s inside
      ∙ in_either_order a b (target == s) (behind == s) (held_at old s) (held_at (set old target row) s)
      (λ e. ap held (get_or-set_at old target s row None (sym (eqb-true target s e)) within) ∙ joined
      ∙ ap (λ k. merge operations (held_at old k) (Some b)) (eqb-true target s e))
      (λ e. ap held (get_or-set_other old target s row None (λ same. eqb-false target s e (sym same))))
      (λ e. not_behind target behind s apart e)

  -- facts joined into the target's row, and then others given behind the compare: y along the taken edge, and then x
  pub given_to_both : {Z : Type 0} (behind target : ℕ) (a b x y : Facts D) (old new : Rows D Z) (row : Option (Box (Facts D) Z))
      → a ≡ x → b ≡ y
      → behind ≢ target → target < length old → held row ≡ merge operations (held_at old target) (Some b)
      → ((s : ℕ) → s < length old → held_at new s ≡ with_gift operations behind (Some a) s (held_at (set old target row) s))
      → GivesBoth operations behind (Some x) target (Some y) old new
  given_to_both behind target a b x y old new row is_x is_y apart within joined given s inside =
      rw (sym is_x, sym is_y) (target_first behind target a b old new row apart within joined given s inside)

  -- ---- the rows before any slot is visited
  pub start_held : {Z : Type 0} (slots : ℕ) (rows : Rows D Z) (box : Box (Facts D) Z) → ((s : ℕ) → get_or rows s None ≡ None)
      → 1 ≤ length rows → box.value ≡ facts_at_start operations → HoldStart operations slots (set rows 0 (Some box))
  start_held slots rows box empty some is zero inside =
      ap held (get_or-set_at rows 0 0 (Some box) None refl some) ∙ ap (λ (facts : Facts D). Some facts) is
  start_held slots rows box empty some is (suc s) inside =
      let later : (suc s == 0) ≡ false = ne_eqb (suc s) 0 (λ same. absurd cc) in
      ap held (get_or-set_other rows 0 (suc s) (Some box) None (λ same. absurd cc) ∙ empty (suc s))
      ∙ ap (λ (test : Bool). if test then Some (facts_at_start operations) else None) (sym later)

  -- ---- what an instruction gives to a slot
  same_place : (a b : ℕ) → int_eq (pos a) (pos b) ≡ (a == b)
  same_place a b = grind (arith, nat_tests)

  leads_to : (slot to other : ℕ) (distance : Option ℤ) (d : ℤ) → distance ≡ Some d → pos to ≡ target slot d
      → leads slot distance other ≡ (to == other)
  leads_to slot to other distance d is at = rw (is, sym at) (same_place to other)

  module _ (i : Instruction) (slot : ℕ) (facts : Facts D) (block : ℕ) where
    -- a jump gives to the slot behind it and to its target
    pub jumped : (d : ℤ) (behind to : ℕ) (s : ℕ) (old new : Option (Facts D))
        → distance_of i ≡ Some d → pos to ≡ target slot d → behind ≡ slot_behind slot i
        → new ≡ with_gift operations to (facts_at_target operations block i facts) s (with_gift operations behind (facts_behind operations block i facts) s old)
        → new ≡ gives operations block (Some i) slot (Some facts) s old
    jumped d behind to s old new is at behind_is given =
        rw (leads_to slot to s (distance_of i) d is at, sym behind_is) given

    -- an instruction with no target gives to the slot behind it alone
    pub stepped : (behind s : ℕ) (old new given : Option (Facts D)) → distance_of i ≡ None → behind ≡ slot_behind slot i
        → given ≡ facts_behind operations block i facts → new ≡ with_gift operations behind given s old
        → new ≡ gives operations block (Some i) slot (Some facts) s old
    stepped behind s old new given is behind_is given_is told =
        rw (is, sym behind_is, sym given_is) (told ∙ sym (merge_none (with_gift operations behind given s old)))
