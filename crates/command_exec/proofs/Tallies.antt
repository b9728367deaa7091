-- Replies that are counted.
use Rattle.std.proofs.Common.{◌≡◌, ◌+◌, ◌-◌, ◌<◌, ◌^◌, min, arith, ℕ, Bool, true, false, cond, fold, get_or, List, [], ◌∷◌, ◌++◌, length, Option, Some, None, is_some, option_map, refl, ap, sym, ◌∙◌}
use Rattle.std.specs.Prelude.{count_by, position}
use Rattle.std.specs.List.{position_from}
use Rattle.std.proofs.lemmas.Iterator.Adapters.{position_from-zero}
use Rattle.std.proofs.lemmas.List.Sums.{fold-append, sum_by-append}
use Rattle.device_events.specs.Replies.{Joins, ReplyWithData}
use Rattle.command_exec.specs.declared.fail.Refused.{Refused}
use Rattle.command_exec.specs.declared.watched.Tally.{Tally}
use Rattle.command_exec.specs.Refused.{NoneRefused, is_refusal, line_at, refused_among}
use Rattle.command_exec.specs.steps.Tallied.{Watches, first_of, none_tallied, noted, tallied, told_of_tally}

-- the largest number of 64 bits
abbrev most : ℕ
most = 2 ^ 64 - 1

-- how many of these are refusals, and so many more
abbrev refusals_from : ℕ → List ReplyWithData → ℕ
refusals_from n replies = fold (λ sum given. sum + cond (is_refusal given) 1 0) n replies

-- ---- how many are refused

noted_refused : (b : Bool) (tally : Tally) (n : ℕ) → tally.refused ≡ min n most → (noted b tally).refused ≡ min (n + cond b 1 0) most
noted_refused true tally n is = omega (arith, is)
noted_refused false tally n is = omega (arith, is)

refused_is : (replies : List ReplyWithData) (tally : Tally) (n : ℕ) → tally.refused ≡ min n most
    → (tallied tally replies).refused ≡ min (refusals_from n replies) most
refused_is [] tally n is = is
refused_is (given ∷ rest) tally n is =
    refused_is rest (noted (is_refusal given) tally) (n + cond (is_refusal given) 1 0) (noted_refused (is_refusal given) tally n is)

-- ---- where the first of them is

noted_taken : (b : Bool) (tally : Tally) (n : ℕ) → tally.taken ≡ min n most → (noted b tally).taken ≡ min (n + 1) most
noted_taken true tally n is = omega (arith, is)
noted_taken false tally n is = omega (arith, is)

noted_stays : (b : Bool) (tally : Tally) (i : ℕ) → tally.first ≡ Some i → (noted b tally).first ≡ Some i
noted_stays true tally i is = ap (λ first. first_of first tally.taken) is
noted_stays false tally i is = is

first_stays : (replies : List ReplyWithData) (tally : Tally) (i : ℕ) → tally.first ≡ Some i → (tallied tally replies).first ≡ Some i
first_stays [] tally i is = is
first_stays (given ∷ rest) tally i is = first_stays rest (noted (is_refusal given) tally) i (noted_stays (is_refusal given) tally i is)

-- one more is noted, and then others are
first_of_next : (b : Bool) (rest : List ReplyWithData) (tally : Tally) (n : ℕ) → tally.first ≡ None → tally.taken ≡ min n most
    → (tallied (noted false tally) rest).first ≡ option_map (λ i. min i most) (position_from is_refusal (n + 1) rest)
    → (tallied (noted b tally) rest).first ≡ option_map (λ i. min i most) (cond b (Some n) (position_from is_refusal (n + 1) rest))
first_of_next true rest tally n none taken later =
    first_stays rest (noted true tally) (min n most) (ap (λ first. first_of first tally.taken) none ∙ ap Some taken)
first_of_next false rest tally n none taken later = later

first_is : (replies : List ReplyWithData) (tally : Tally) (n : ℕ) → tally.first ≡ None → tally.taken ≡ min n most
    → (tallied tally replies).first ≡ option_map (λ i. min i most) (position_from is_refusal n replies)
first_is [] tally n none taken = none
first_is (given ∷ rest) tally n none taken =
    first_of_next (is_refusal given) rest tally n none taken (first_is rest (noted false tally) (n + 1) none (noted_taken false tally n taken))

-- ---- what is told

line_is : (numbers : List ℕ) (i : ℕ) → length numbers < 2 ^ 64 → line_at numbers (min i most) ≡ line_at numbers i
line_is numbers i few =
    let same : min (min i most) (length numbers - 1) ≡ min i (length numbers - 1) = omega (arith, few) in
    ap (λ (at : ℕ). get_or numbers at 0) same

-- what is told, where so many are refused, behind so many replies
abbrev told_at : List ℕ → ℕ → Option ℕ → Option Refused
told_at numbers count found = option_map (λ before. record { commands = count; line = line_at numbers before }) found

told_least : (numbers : List ℕ) (found : Option ℕ) (count : ℕ) → length numbers < 2 ^ 64
    → told_at numbers count (option_map (λ i. min i most) found) ≡ told_at numbers count found
told_least numbers None count few = refl
told_least numbers (Some i) count few =
    ap (λ (line : ℕ). let it : Refused = record { commands = count; line = line } in Some it) (line_is numbers i few)

told_from : (numbers : List ℕ) (found first : Option ℕ) (refused count : ℕ) → length numbers < 2 ^ 64 → refused ≡ count
    → first ≡ option_map (λ i. min i most) found → told_at numbers refused first ≡ told_at numbers count found
told_from numbers found first refused count few are is =
    ap (told_at numbers refused) is ∙ told_least numbers found refused few ∙ ap (λ (n : ℕ). told_at numbers n found) are

-- what is told of replies that were all counted is what is to be told of them
pub told_is : (numbers : List ℕ) (replies : List ReplyWithData) → length numbers < 2 ^ 64
    → told_of_tally numbers (tallied none_tallied replies) ≡ refused_among numbers replies
told_is numbers replies few =
    told_from numbers (position is_refusal replies) (tallied none_tallied replies).first (tallied none_tallied replies).refused
    (min (count_by is_refusal replies) most) few (refused_is replies none_tallied 0 refl)
    (first_is replies none_tallied 0 refl refl ∙ ap (option_map (λ i. min i most)) (sym (position_from-zero is_refusal replies)))

-- ---- where none is refused

none_after : (b : Bool) (rest : List ReplyWithData) (tally : Tally) (n : ℕ) → tally.first ≡ None → (tallied (noted b tally) rest).first ≡ None
    → ((tallied (noted false tally) rest).first ≡ None → refusals_from (n + 0) rest ≡ n + 0) → refusals_from (n + cond b 1 0) rest ≡ n
none_after true rest tally n none still later =
    let some = first_stays rest (noted true tally) tally.taken (ap (λ first. first_of first tally.taken) none) in
    absurd (cc)
none_after false rest tally n none still later = later still ∙ omega arith

none_from : (replies : List ReplyWithData) (tally : Tally) (n : ℕ) → tally.first ≡ None → (tallied tally replies).first ≡ None
    → refusals_from n replies ≡ n
none_from [] tally n none still = refl
none_from (given ∷ rest) tally n none still =
    none_after (is_refusal given) rest tally n none still (λ later. none_from rest (noted false tally) (n + 0) none later)

-- none was counted as the first
pub none_refused : (replies : List ReplyWithData) (tally : Tally) → tally.first ≡ None → (tallied tally replies).first ≡ None → NoneRefused replies
none_refused replies tally none still = none_from replies tally 0 none still

noted_some : (b : Bool) (tally : Tally) → tally.first ≡ None → is_some (noted b tally).first ≡ true → b ≡ true
noted_some true tally none some = refl
noted_some false tally none some = let not = ap is_some none in absurd (cc)

-- one more is counted, and is the first
pub one_refused : (given : ReplyWithData) (tally : Tally) → tally.first ≡ None → is_some (tallied tally (given ∷ [])).first ≡ true → is_refusal given ≡ true
one_refused given tally none some = noted_some (is_refusal given) tally none some

-- ---- in parts

pub none_in_parts : (first later : List ReplyWithData) → NoneRefused first → NoneRefused later → NoneRefused (first ++ later)
none_in_parts first later a b =
    let sum : count_by is_refusal (first ++ later) ≡ count_by is_refusal first + count_by is_refusal later =
    sum_by-append (λ (given : ReplyWithData). cond (is_refusal given) 1 0) first later in
    omega (arith, sum, a, b)

module _ {T : Type 0} (took : T → T → List ReplyWithData → Type 0) (joins : Joins took) where
  pub watches_joins : Joins (Watches took)
  watches_joins a b c first later early late = (
    joins a.out b.out c.out first later early.0 late.0,
    late.1 ∙ ap (λ (tally : Tally). tallied tally later) early.1 ∙ sym (fold-append (λ (counted : Tally) (given : ReplyWithData). noted (is_refusal given) counted) a.tally first later),
  )
