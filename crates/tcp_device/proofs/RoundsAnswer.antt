-- Each round of a loop meets the commands that are next, and gives a turn.
use Rattle.std.proofs.Common.{◌≡◌, ◌≢◌, ◌≤◌, ◌<◌, ◌==◌, ◌||◌, ◌⊎◌, inl, inr, ℕ, suc, Bool, true, false, List, [], ◌∷◌, ◌++◌, length, refl, sym, ap, subst, ◌∙◌, ⊎_elim, arith}
use Rattle.std.specs.List.{AllByRecursion, list_any}
use Rattle.std.proofs.Math.Bool.{or-true}
use Rattle.std.proofs.lemmas.Bool.Decides.{eqb_tells}
use Rattle.tcp_device.specs.Answering.{CommandsAreAnswered, serves}
use Rattle.tcp_device.specs.Rounds.{NextIsAnswered}
use Rattle.tcp_device.specs.Turning.{turn_in, turns_in}
use Rattle.tcp_device.specs.Waiting.{RunsGoOn}
use Rattle.tcp_loop.specs.Attended.{AreRounds, EndsRound, IsAttendedTo, IsHandedOn, IsRound, deeds_in, ended_before, has_turn, is_turn}
use Rattle.tcp_loop.specs.Deeds.{Closed, Deed, Opened, Received, Resumed, Sent, Served, Ticked, Turned}
use Rattle.tcp_loop.specs.Trace.{Trace}
use Rattle.tcp_loop.specs.declared.operation.Operation.{Operation}
use Rattle.tcp_loop.specs.declared.operation.Operation.TheVariants as operation
use Rattle.tcp_device.specs.Answered.{AnswersNext, MeetsNext, RoundsAnswer}
use Rattle.tcp_device.specs.LoopMeaning.{deed_of, deeds_of}

same_is : (n : ℕ) → (n == n) ≡ true
same_is n = ⊎_elim
    (λ (is : (n == n ≡ true) × (n ≡ n)). is.0)
    (λ (other : (n == n ≡ false) × (n ≢ n)). absurd (other.1 refl)) (eqb_tells n n)

either_of : (a b : Bool) → (a || b) ≡ true → (a ≡ true) ⊎ (b ≡ true)
either_of true b is = inl refl
either_of false b is = inr is

-- ---- what a round has

pub record Has (round : List Deed) : Type 0 where
  pub turn : has_turn round ≡ true
  pub serves_each : (number : ℕ) → number < 40 → list_any (serves number) (deeds_of round) ≡ true

-- a connection that is attended to is served
attended_is_served : (number : ℕ) (came : List ℕ) (round before : List Deed) → IsAttendedTo number came round before
    → list_any (serves number) (deeds_of round) ≡ true
attended_is_served number came [] before is = absurd is
attended_is_served number came (deed ∷ round) before is = ⊎_elim
    (λ (here : (deed ≡ Served number) × IsHandedOn number came round before).
    ap (λ (d : Deed). serves number (deed_of d) || list_any (serves number) (deeds_of round)) here.0
    ∙ ap (λ b. b || list_any (serves number) (deeds_of round)) (same_is number))
    (λ (later : IsAttendedTo number came round before).
    ap (λ b. serves number (deed_of deed) || b) (attended_is_served number came round before later) ∙ or-true (serves number (deed_of deed))) is

of_round : (trace : Trace) (round before : List Deed) → IsRound trace round before → Has round
of_round trace round before is = record {
  turn = is.turn;
  serves_each = λ number low. attended_is_served number _ round before (is.connections number low);
}

-- ---- each round of a trace

by_operation : (o : Operation) (trace : Trace) (rounds : List (List Deed)) → EndsRound o trace rounds
    → AllByRecursion Has (ended_before o rounds) → AllByRecursion Has rounds
by_operation (operation.Poll watched milliseconds) trace [] ends have = absurd ends
by_operation (operation.Poll watched milliseconds) trace (round ∷ rounds) ends have = (of_round trace round (deeds_in rounds) ends, have)
by_operation (operation.Read place) trace rounds ends have = have
by_operation (operation.Write place) trace rounds ends have = have
by_operation (operation.Accept place) trace rounds ends have = have
by_operation (operation.Close place) trace rounds ends have = have
by_operation operation.Signal trace rounds ends have = have
by_operation operation.Now trace rounds ends have = have
by_operation (operation.Pwrite file «at») trace rounds ends have = have
by_operation (operation.Ftruncate len) trace rounds ends have = have
by_operation (operation.Fsync file) trace rounds ends have = have
by_operation operation.Create trace rounds ends have = have
by_operation operation.Rename trace rounds ends have = have
by_operation operation.SyncFolder trace rounds ends have = have
by_operation operation.Discard trace rounds ends have = have
by_operation (operation.Log cause) trace rounds ends have = have
by_operation (operation.End done) trace rounds ends have = have

all_have : (trace : Trace) (rounds : List (List Deed)) → AreRounds trace rounds → AllByRecursion Has rounds
all_have [] rounds are = subst (λ (l : List (List Deed)). AllByRecursion Has l) (sym are) tt
all_have (m ∷ trace) rounds are = by_operation m.asked trace rounds are.0 (all_have trace (ended_before m.asked rounds) are.1)

-- ---- turns

turn_counts : (deed : Deed) → is_turn deed ≡ true → turn_in (deed_of deed) ≡ 1
turn_counts (Opened number) is = absurd cc
turn_counts (Received number piece count) is = absurd cc
turn_counts (Sent number count) is = absurd cc
turn_counts (Closed number) is = absurd cc
turn_counts (Ticked milliseconds) is = absurd cc
turn_counts (Served number) is = absurd cc
turn_counts Turned is = refl
turn_counts (Resumed run) is = absurd cc

-- a round has no fewer than those before it, and with a turn one more
no_less : (round rest : List Deed) → turns_in (deeds_of rest) ≤ turns_in (deeds_of (round ++ rest))
no_less [] rest = omega arith
no_less (deed ∷ round) rest =
    let below : turns_in (deeds_of rest) ≤ turns_in (deeds_of (round ++ rest)) = no_less round rest in
    omega (arith, below)

one_more : (round rest : List Deed) → has_turn round ≡ true → suc (turns_in (deeds_of rest)) ≤ turns_in (deeds_of (round ++ rest))
one_more [] rest has = absurd cc
one_more (deed ∷ round) rest has = ⊎_elim
    (λ (here : is_turn deed ≡ true).
    let counts : turn_in (deed_of deed) ≡ 1 = turn_counts deed here in
    let below : turns_in (deeds_of rest) ≤ turns_in (deeds_of (round ++ rest)) = no_less round rest in
    omega (arith, counts, below))
    (λ (later : has_turn round ≡ true).
    let below : suc (turns_in (deeds_of rest)) ≤ turns_in (deeds_of (round ++ rest)) = one_more round rest later in
    omega (arith, below)) (either_of (is_turn deed) (has_turn round) has)

a_turn_each : (rounds : List (List Deed)) → AllByRecursion Has rounds → length rounds ≤ turns_in (deeds_of (deeds_in rounds))
a_turn_each [] have = omega arith
a_turn_each (round ∷ rounds) have =
    let more : suc (turns_in (deeds_of (deeds_in rounds))) ≤ turns_in (deeds_of (round ++ deeds_in rounds)) =
    one_more round (deeds_in rounds) have.0.turn in
    let others : length rounds ≤ turns_in (deeds_of (deeds_in rounds)) = a_turn_each rounds have.1 in
    omega (arith, more, others)

first_of : (first others : List (List Deed)) → AllByRecursion Has (first ++ others) → AllByRecursion Has first
first_of [] others have = tt
first_of (round ∷ first) others have = (have.0, first_of first others have.1)

others_of : (first others : List (List Deed)) → AllByRecursion Has (first ++ others) → AllByRecursion Has others
others_of [] others have = have
others_of (round ∷ first) others have = others_of first others have.1

-- ---- the law

module _ (answers : CommandsAreAnswered) (next_answered : NextIsAnswered) (go_on : RunsGoOn) where
  each_meets : (rounds : List (List Deed)) → AllByRecursion Has rounds → AllByRecursion MeetsNext rounds
  each_meets [] have = tt
  each_meets (round ∷ rounds) have = (
    λ number execution old new low done stays next. answers.meets number execution (deeds_of round) old new done (have.0.serves_each number low) stays next,
    each_meets rounds have.1,
  )

  each_answers : (rounds : List (List Deed)) → AllByRecursion Has rounds → AllByRecursion AnswersNext rounds
  each_answers [] have = tt
  each_answers (round ∷ rounds) have = (
    λ number execution old new low places done fit next.
        next_answered number execution (deeds_of round) old new places done fit (have.0.serves_each number low) next,
    each_answers rounds have.1,
  )

  pub rounds_answer : (trace : Trace) (rounds : List (List Deed)) → AreRounds trace rounds → RoundsAnswer rounds
  rounds_answer trace rounds are = record {
    commands = each_meets rounds (all_have trace rounds are);
    answers = each_answers rounds (all_have trace rounds are);
    runs = λ later some earlier parts run old new low done reached pending.
        let here : AllByRecursion Has some = first_of some earlier (others_of later (some ++ earlier)
        (subst (λ (l : List (List Deed)). AllByRecursion Has l) parts (all_have trace rounds are))) in
        let most : length some ≤ turns_in (deeds_of (deeds_in some)) = a_turn_each some here in
        let fair = go_on.turns run (deeds_of (deeds_in some)) old new done low reached pending in
        omega (arith, most, fair);
  }
