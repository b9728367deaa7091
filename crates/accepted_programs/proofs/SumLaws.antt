-- What is known of registers together stays known, or is made, when words change.
use Rattle.std.proofs.Common.{ℕ, ℤ, suc, zero, ◌+◌, ◌-◌, ◌%◌, ◌^◌, ◌≡◌, ◌<◌, ◌≤◌, Bool, false, not, List, ◌++◌, drop, length, replicate, set, get_or, Option, Some, None, refl, sym, ap, ◌∙◌, arith, subst, inl, inr, ◌⊎◌}
use Rattle.std.proofs.lemmas.Bool.{and_parts, cond_both, eqb-true, eqb-false, ltb-true, ne_eqb, not-true, or_cases, or_parts}
use Rattle.std.proofs.lemmas.List.{get_or-drop, get_or-set_other, get_or-set_same}
use Rattle.std.specs.Option.{option_and_then, option_map_or, option_or}
use Rattle.std.specs.Prelude.{◌==◌, ◌&&◌, ◌||◌, nat_lt, is_none, max, if◌then◌else◌}
use Rattle.instruction_set.specs.Instruction.{immediate_word}
use Rattle.instruction_set.specs.declared.instruction.Source.{Source}
use Rattle.instruction_set.specs.declared.instruction.Source.TheVariants.{Immediate, Register}
use Rattle.instruction_set.specs.declared.operation.Operation.{Operation}
use Rattle.instruction_set.specs.declared.operation.Operation.TheVariants.{Add, Move}
use Rattle.instruction_set.specs.declared.operation.Width.{Width}
use Rattle.instruction_set.specs.declared.operation.Width.TheVariants.{Bits64}
use Rattle.program_meaning.specs.Effect.{operand}
use Rattle.program_meaning.specs.Word.{computed}
use Rattle.program_meaning.specs.declared.word.Arithmetic.TheVariants as word
use Rattle.accepted_programs.specs.Meets.{AreWithin, HasSum, added_word}
use Rattle.accepted_programs.specs.Sums.{alters_sum, carried, computed_fit, computed_sum, copied, fit_left, fit_of, grown, is_added, is_register, join_fit, join_fits, moved_fit, renamed, shifted, sum_left, with_more}
use Rattle.accepted_programs.specs.declared.sums.Fit.{Fit}
use Rattle.accepted_programs.specs.declared.sums.Sum.{Sum}

-- ---- words that stay

-- the words of the registers that don't change are as before
abbrev pub AreLeft : (ℕ → Bool) → (old new : List ℕ) → Type 0
AreLeft changes old new = (r : ℕ) → changes r ≡ false → get_or new r 0 ≡ get_or old r 0

-- one register is set
pub others_left : (ws : List ℕ) (dst w : ℕ) → AreLeft (λ r. dst == r) ws (set ws dst w)
others_left ws dst w r other = get_or-set_other ws dst r w 0 (λ same. eqb-false dst r other (sym same))

-- a call clears R0 to R5
pub call_leaves : (ws : List ℕ) → AreLeft (λ r. nat_lt r 6) ws (replicate 6 0 ++ drop 6 ws)
call_leaves ws zero other = cc
call_leaves ws (suc zero) other = cc
call_leaves ws (suc (suc zero)) other = cc
call_leaves ws (suc (suc (suc zero))) other = cc
call_leaves ws (suc (suc (suc (suc zero)))) other = cc
call_leaves ws (suc (suc (suc (suc (suc zero))))) other = cc
call_leaves ws (suc (suc (suc (suc (suc (suc r)))))) other =
    let there : 6 + r ≡ suc (suc (suc (suc (suc (suc r))))) = omega arith in
    get_or-drop 6 ws r 0 ∙ ap (λ n. get_or ws n 0) there

pub either_sum : (one other : Option Sum) (ws : List ℕ) → HasSum one ws → HasSum other ws → HasSum (option_or one other) ws
either_sum (Some s) other ws is stays = is
either_sum None other ws is stays = stays

pub either_fit : (one other : Option Fit) (ws : List ℕ) → AreWithin one ws → AreWithin other ws → AreWithin (option_or one other) ws
either_fit (Some f) other ws is stays = is
either_fit None other ws is stays = stays

-- what is made of no fit, or of a fit
pub made_within : (make : Fit → Option Fit) (fit : Option Fit) (old new : List ℕ) → AreWithin fit old
    → ((f : Fit) → AreWithin (Some f) old → AreWithin (make f) new) → AreWithin (option_and_then make fit) new
made_within make None old new is each = tt
made_within make (Some f) old new is each = each f is

module _ (changes : ℕ → Bool) (old new : List ℕ) (left : AreLeft changes old new) where
  second_left : (second : Option ℕ) → option_map_or changes second false ≡ false → added_word new second ≡ added_word old second
  second_left (Some r) stays = left r stays
  second_left None stays = refl

  left_sum : (s : Sum) → HasSum (Some s) old → HasSum (sum_left changes s) new
  left_sum s is = cond_both (alters_sum changes s) None (Some s) (λ o. HasSum o new)
      (λ _. tt)
      (λ stay.
      let some = or_parts (changes s.register || changes s.first) (option_map_or changes s.second false) stay in
      let both = or_parts (changes s.register) (changes s.first) some.0 in
      rw (left s.register both.0, left s.first both.1, second_left s.second some.1) is)

  pub sum_stays : (sum : Option Sum) → HasSum sum old → HasSum (option_and_then (sum_left changes) sum) new
  sum_stays None is = tt
  sum_stays (Some s) is = left_sum s is

  left_fit : (f : Fit) → AreWithin (Some f) old → AreWithin (fit_left changes f) new
  left_fit f is = cond_both (changes f.first || changes f.second) None (Some f) (λ o. AreWithin o new)
      (λ _. tt)
      (λ stay.
      let both = or_parts (changes f.first) (changes f.second) stay in
      rw (left f.first both.0, left f.second both.1) is)

  pub fit_stays : (fit : Option Fit) → AreWithin fit old → AreWithin (option_and_then (fit_left changes) fit) new
  fit_stays fit is = made_within (fit_left changes) fit old new is (λ f within. left_fit f within)

-- ---- sums of words

added_on : (x first second more : ℕ) → x ≡ (first + 0 + more) % 2 ^ 64 → (x + second) % 2 ^ 64 ≡ (first + second + more) % 2 ^ 64
added_on x first second more is = omega (arith, is)

more_on : (x first second more n : ℕ) → x ≡ (first + second + more) % 2 ^ 64
    → (x + n) % 2 ^ 64 ≡ (first + second + (more + n) % 2 ^ 64) % 2 ^ 64
more_on x first second more n is = omega (arith, is)

less_left : (x other more n most : ℕ) → n < 2 ^ 64 → (x + other + more) % 2 ^ 64 ≤ most
    → ((x + n) % 2 ^ 64 + other + (more + (2 ^ 64 - n)) % 2 ^ 64) % 2 ^ 64 ≤ most
less_left x other more n most small is = omega (arith, small, is)

carried_on : (address x other more most high : ℕ) → address ≤ high → most + high < 2 ^ 64 → (x + other + more) % 2 ^ 64 ≤ most
    → ((address + x) % 2 ^ 64 + other + more) % 2 ^ 64 ≤ most + high
carried_on address x other more most high below fits is = omega (arith, below, fits, is)

in_other_order : (x y more : ℕ) → x + y + more ≡ y + x + more
in_other_order x y more = omega arith

-- ---- what arithmetic makes, of a destination that is one of the registers

module _ (ws : List ℕ) (dst : ℕ) (inside : dst < length ws) (small : (r : ℕ) → get_or ws r 0 < 2 ^ 64) where
  abbrev word_at : ℕ → ℕ
  word_at r = get_or ws r 0

  abbrev then_at : ℕ → ℕ → ℕ
  then_at w r = get_or (set ws dst w) r 0

  here : (w r : ℕ) → dst ≡ r → then_at w r ≡ w
  here w r is = ap (λ n. then_at w n) (sym is) ∙ get_or-set_same ws dst w 0 inside

  there : (w r : ℕ) → (dst == r) ≡ false → then_at w r ≡ word_at r
  there w r other = others_left ws dst w r other

  copy_has : (src : ℕ) → HasSum (copied dst src) (set ws dst (word_at src))
  copy_has src = cond_both (dst == src) None _ (λ o. HasSum o (set ws dst (word_at src)))
      (λ _. tt)
      (λ other.
      let made = here (word_at src) dst refl in
      let kept = there (word_at src) src other in
      let fits = small src in
      rw (made, kept) (omega (arith, fits)))

  module _ (s : Sum) (is : HasSum (Some s) ws) (same : dst ≡ s.register) where
    at_dst : word_at dst ≡ (word_at s.first + added_word ws s.second + s.more) % 2 ^ 64
    at_dst = ap word_at same ∙ is

    with_register : (r : ℕ) → (dst == s.first) ≡ false → (dst == r) ≡ false → (second : Option ℕ) → s.second ≡ second
        → HasSum (if is_none second then Some (record s { second = Some r }) else None) (set ws dst ((word_at dst + word_at r) % 2 ^ 64))
    with_register r first other (Some second) none = tt
    with_register r first other None none =
        let w = (word_at dst + word_at r) % 2 ^ 64 in
        let sum : word_at dst ≡ (word_at s.first + 0 + s.more) % 2 ^ 64 = at_dst ∙ ap (λ o. (word_at s.first + added_word ws o + s.more) % 2 ^ 64) none in
        rw (here w s.register same, there w s.first first, there w r other) (added_on (word_at dst) (word_at s.first) (word_at r) s.more sum)

    second_stays : (w : ℕ) (second : Option ℕ) → option_map_or (λ second. dst == second) second false ≡ false
        → added_word (set ws dst w) second ≡ added_word ws second
    second_stays w (Some r) other = there w r other
    second_stays w None other = refl

    with_number : (z : ℤ) → is_added dst s ≡ false
        → HasSum (with_more (Immediate z) s) (set ws dst ((word_at dst + immediate_word z) % 2 ^ 64))
    with_number z other =
        let w = (word_at dst + immediate_word z) % 2 ^ 64 in
        let both = or_parts (dst == s.first) (option_map_or (λ second. dst == second) s.second false) other in
        rw (here w s.register same, there w s.first both.0, second_stays w s.second both.1)
        (more_on (word_at dst) (word_at s.first) (added_word ws s.second) s.more (immediate_word z) at_dst)

    more_has : (source : Source) → is_added dst s ≡ false → is_register dst source ≡ false
        → HasSum (with_more source s) (set ws dst ((word_at dst + operand ws source) % 2 ^ 64))
    more_has (Register r) added other =
        let both = or_parts (dst == s.first) (option_map_or (λ second. dst == second) s.second false) added in
        with_register r both.0 other s.second refl
    more_has (Immediate z) added other = with_number z added

  grown_has : (source : Source) (s : Sum) → HasSum (Some s) ws
      → HasSum (grown dst source s) (set ws dst ((word_at dst + operand ws source) % 2 ^ 64))
  grown_has source s is =
      let w = (word_at dst + operand ws source) % 2 ^ 64 in
      cond_both ((dst == s.register) && not (is_added dst s || is_register dst source)) (with_more source s) None (λ o. HasSum o (set ws dst w))
      (λ grows.
      let both = and_parts (dst == s.register) (not (is_added dst s || is_register dst source)) grows in
      let apart = or_parts (is_added dst s) (is_register dst source) (not-true _ both.1) in
      more_has s is (eqb-true dst s.register both.0) source apart.0 apart.1)
      (λ _. tt)

  added_has : (source : Source) (sum : Option Sum) → HasSum sum ws
      → HasSum (option_and_then (grown dst source) sum) (set ws dst ((word_at dst + operand ws source) % 2 ^ 64))
  added_has source None is = tt
  added_has source (Some s) is = grown_has source s is

  -- what arithmetic leaves in its destination
  abbrev left_by : Width → Operation → Source → List ℕ
  left_by width operation source = set ws dst (computed (word.Binary width operation) (word_at dst) (operand ws source))

  pub computed_has : (width : Width) (operation : Operation) (source : Source) (sum : Option Sum) → HasSum sum ws
      → HasSum (computed_sum width operation dst source sum) (left_by width operation source)
  computed_has Bits64 Move (Register src) sum is = copy_has src
  computed_has Bits64 Add source sum is = added_has source sum is
  computed_has width operation source sum is = tt

  -- a register in the place of another: what it has is known to be at most a number with any other
  renamed_fits : (src w most : ℕ) (f : Fit) → (word_at f.first + word_at f.second + f.more) % 2 ^ 64 ≤ most
      → ((other : ℕ) → (word_at src + other + f.more) % 2 ^ 64 ≤ most → (w + other + f.more) % 2 ^ 64 ≤ f.most)
      → AreWithin (renamed dst src f) (set ws dst w)
  renamed_fits src w most f within carries =
      cond_both ((src == f.first) && not (dst == f.second)) (Some (record f { first = dst })) _ (λ o. AreWithin o (set ws dst w))
      (λ first.
      let both = and_parts (src == f.first) (not (dst == f.second)) first in
      let e = eqb-true src f.first both.0 in
      rw (here w dst refl, there w f.second (not-true _ both.1)) (carries (word_at f.second) (rw e within)))
      (λ _. cond_both ((src == f.second) && not (dst == f.first)) (Some (record f { second = dst })) None (λ o. AreWithin o (set ws dst w))
      (λ second.
      let both = and_parts (src == f.second) (not (dst == f.first)) second in
      let e = eqb-true src f.second both.0 in
      let P : ℕ → Type 0 = λ n. n % 2 ^ 64 ≤ f.most in
      let Q : ℕ → Type 0 = λ n. n % 2 ^ 64 ≤ most in
      rw (here w dst refl, there w f.first (not-true _ both.1))
      (subst P (in_other_order w (word_at f.first) f.more)
      (carries (word_at f.first) (rw e (subst Q (in_other_order (word_at f.first) (word_at f.second) f.more) within)))))
      (λ _. tt))

  moved_fits : (src : ℕ) (f : Fit) → AreWithin (Some f) ws → AreWithin (moved_fit dst src f) (set ws dst (word_at src))
  moved_fits src f within = cond_both ((dst == 1) || (dst == 2)) (renamed dst src f) None (λ o. AreWithin o (set ws dst (word_at src)))
      (λ _. renamed_fits src (word_at src) f.most f within (λ other is. is))
      (λ _. tt)

  carried_fits : (high : Option ℕ) → ((n : ℕ) → high ≡ Some n → word_at dst ≤ n) → (src : ℕ) (f : Fit) → AreWithin (Some f) ws
      → AreWithin (carried high dst src f) (set ws dst ((word_at dst + word_at src) % 2 ^ 64))
  carried_fits None below src f within = tt
  carried_fits (Some n) below src f within =
      let w = (word_at dst + word_at src) % 2 ^ 64 in
      let more = f.most + n in
      cond_both (nat_lt more (2 ^ 64) && not (dst == src)) (renamed dst src (record f { most = more })) None (λ o. AreWithin o (set ws dst w))
      (λ fits.
      let both = and_parts (nat_lt more (2 ^ 64)) (not (dst == src)) fits in
      renamed_fits src w f.most (record f { most = more }) within
      (λ other is. carried_on (word_at dst) (word_at src) other f.more f.most n (below n refl) (ltb-true more (2 ^ 64) both.0) is))
      (λ _. tt)

  shifted_fits : (z : ℤ) → immediate_word z < 2 ^ 64 → (f : Fit) → AreWithin (Some f) ws
      → AreWithin (shifted dst z f) (set ws dst ((word_at dst + immediate_word z) % 2 ^ 64))
  shifted_fits z fits f within =
      let w = (word_at dst + immediate_word z) % 2 ^ 64 in
      let more = (f.more + (2 ^ 64 - immediate_word z)) % 2 ^ 64 in
      let P : ℕ → Type 0 = λ n. n % 2 ^ 64 ≤ f.most in
      cond_both (((dst == f.first) || (dst == f.second)) && not (f.first == f.second)) (Some (record f { more = more })) None
      (λ o. AreWithin o (set ws dst w))
      (λ one.
      let both = and_parts ((dst == f.first) || (dst == f.second)) (not (f.first == f.second)) one in
      let apart = not-true (f.first == f.second) both.1 in
      elim (or_cases (dst == f.first) (dst == f.second) both.0) [
        | inl first ↦
            let e = eqb-true dst f.first first in
            let other : (dst == f.second) ≡ false = ne_eqb dst f.second (λ same. eqb-false f.first f.second apart (sym e ∙ same)) in
            rw (here w f.first e, there w f.second other)
            (less_left (word_at dst) (word_at f.second) f.more (immediate_word z) f.most fits (rw e within))
        | inr second ↦
            let e = eqb-true dst f.second second in
            let other : (dst == f.first) ≡ false = ne_eqb dst f.first (λ same. eqb-false f.first f.second apart (sym same ∙ e)) in
            rw (there w f.first other, here w f.second e)
            (subst P (in_other_order w (word_at f.first) more)
            (less_left (word_at dst) (word_at f.first) f.more (immediate_word z) f.most fits
            (rw e (subst P (in_other_order (word_at f.first) (word_at f.second) f.more) within))))
      ])
      (λ _. tt)

  pub computed_fits : (high : Option ℕ) → ((n : ℕ) → high ≡ Some n → word_at dst ≤ n) → (width : Width) (operation : Operation) (source : Source)
      → operand ws source < 2 ^ 64 → (f : Fit) → AreWithin (Some f) ws
      → AreWithin (computed_fit high width operation dst source f) (left_by width operation source)
  computed_fits high below Bits64 Move (Register src) fits f within = moved_fits src f within
  computed_fits high below Bits64 Add (Register src) fits f within = carried_fits high below src f within
  computed_fits high below Bits64 Add (Immediate z) fits f within = shifted_fits z fits f within
  computed_fits high below width operation source fits f within = tt

-- ---- edges and joins

-- a sum that is at most a number
told_fits : (ws : List ℕ) (most : ℕ) (s : Sum) (second : Option ℕ) → s.second ≡ second → HasSum (Some s) ws → get_or ws s.register 0 ≤ most
    → AreWithin (fit_of most s second) ws
told_fits ws most s None is sum below = tt
told_fits ws most s (Some r) is sum below =
    let same : get_or ws s.register 0 ≡ (get_or ws s.first 0 + get_or ws r 0 + s.more) % 2 ^ 64 =
    sum ∙ ap (λ o. (get_or ws s.first 0 + added_word ws o + s.more) % 2 ^ 64) is in
    omega (arith, same, below)

-- along an edge of a compare, where the words of the sum's register are at most a number
pub edge_fits : (ws : List ℕ) (test : Bool) (most : ℕ) (s : Sum) (fit : Option Fit) → HasSum (Some s) ws → AreWithin fit ws
    → get_or ws s.register 0 ≤ most → AreWithin (if test then option_or (fit_of most s s.second) fit else fit) ws
edge_fits ws test most s fit sum within below =
    cond_both test (option_or (fit_of most s s.second) fit) fit (λ o. AreWithin o ws)
    (λ _. either_fit (fit_of most s s.second) fit ws (told_fits ws most s s.second refl sum below) within)
    (λ _. within)

module _ (ws : List ℕ) where
  joined_fits : (f g : Fit) → (AreWithin (Some f) ws ⊎ AreWithin (Some g) ws) → AreWithin (join_fits f g) ws
  joined_fits f g one = cond_both ((f.first == g.first) && (f.second == g.second) && (f.more == g.more)) (Some (record f { most = max f.most g.most })) None
      (λ o. AreWithin o ws)
      (λ same.
      let some = and_parts ((f.first == g.first) && (f.second == g.second)) (f.more == g.more) same in
      let both = and_parts (f.first == g.first) (f.second == g.second) some.0 in
      let first = eqb-true f.first g.first both.0 in
      let second = eqb-true f.second g.second both.1 in
      let more = eqb-true f.more g.more some.1 in
      elim one [
        | inl is ↦ omega (arith, is)
        | inr is ↦ rw (first, second, more) (omega (arith, is))
      ])
      (λ _. tt)

  -- what is within on one of two ways is within where they meet
  pub join_first_fits : (a b : Option Fit) → AreWithin a ws → AreWithin (join_fit a b) ws
  join_first_fits (Some f) (Some g) is = joined_fits f g (inl is)
  join_first_fits (Some f) None is = tt
  join_first_fits None b is = tt

  pub join_second_fits : (a b : Option Fit) → AreWithin b ws → AreWithin (join_fit a b) ws
  join_second_fits (Some f) (Some g) is = joined_fits f g (inr is)
  join_second_fits (Some f) None is = tt
  join_second_fits None b is = tt
