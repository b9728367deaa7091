-- Events that are done one after another, and what answers them.
use Rattle.std.proofs.Common.{◌≡◌, ℕ, zero, suc, ◌+◌, ◌-◌, ◌%◌, ◌<◌, ◌≤◌, ◌≢◌, ◌⊎◌, Bool, true, false, cond, not, List, [], ◌∷◌, ◌++◌, append-nil, append_assoc, get_or, get_or-set_other, get_or-set_same, length, length-append, map, replicate, set, Option, Some, None, inl, inr, refl, ap, subst, sym, ◌∙◌, arith}
use Rattle.std.specs.Prelude.{flat_map}
use Rattle.std.proofs.Math.Dec.{eqb}
use Rattle.std.proofs.lemmas.Bool.Decides.{eqb_tells}
use Rattle.std.proofs.lemmas.List.{map-append}
use Rattle.std.proofs.lemmas.List.Concat.{flat_map-append}
use Rattle.device_meaning.specs.Judging.{interval_judge}
use Rattle.device_events.specs.Replies.{Joins, ReplyWithData}
use Rattle.device_events.specs.declared.event.Event.{Event}
use Rattle.device_events.specs.declared.event.Event.TheVariants as event
use Rattle.device_events.specs.ToldEvents.{ToldEvent, told_of}
use Rattle.device_meaning.specs.Events.{HasHappened, HasServed, Occurrence, replies_to, state_after}
use Rattle.device_meaning.specs.State.{Place, State, place_at}
use Rattle.device_meaning.specs.Happenings.{place_left, take_turn, turn_reply, turn_state, turned, turned_at}
use Rattle.device_meaning.specs.Outcome.{Ending, Turn}
use Rattle.device_meaning.proofs.Proved.{events_in_parts}
use Rattle.durable_device.specs.Changing.{is_idle}
use Rattle.event_frames.specs.Frames.{reply_frame}
use Rattle.device_serve.specs.FrameStream.{Answers, Began, GivesTurns, HasNone, TookTurns, WentRound, of_runs, turns_round}
use Rattle.device_serve.specs.steps.FrameParts.{AreFree, GaveTurn, HasGrown}

-- ---- events in parts

module _ {T : Type 0} (took : T → T → List ReplyWithData → Type 0) (joins : Joins took) where
  pub served_in_parts : (first later : List Event) (old between new : State) (before then after : T)
      → HasServed interval_judge first old between (took before then) → HasServed interval_judge later between new (took then after)
      → HasServed interval_judge (first ++ later) old new (took before after)
  served_in_parts first later old between new before then after a b =
      let parts = events_in_parts interval_judge a.occurrences b.occurrences old in
      record {
        occurrences = a.occurrences ++ b.occurrences;
        are =
            map-append (λ (o : Occurrence). o.event) a.occurrences b.occurrences
            ∙ ap (λ (events : List ToldEvent). events ++ map (λ (o : Occurrence). o.event) b.occurrences) a.are
            ∙ ap (λ (events : List ToldEvent). map told_of first ++ events) b.are
            ∙ sym (map-append told_of first later);
        state = b.state ∙ ap (λ (s : State). state_after interval_judge b.occurrences s) a.state ∙ sym parts.state;
        replies = subst (took before after) (sym parts.replies)
            (joins before then after (replies_to interval_judge a.occurrences old) (replies_to interval_judge b.occurrences (state_after interval_judge a.occurrences old))
            a.replies (subst (λ (s : State). took then after (replies_to interval_judge b.occurrences s)) a.state b.replies));
      }

-- one event happened
pub served_one : (took : List ReplyWithData → Type 0) (e : Event) (old new : State) (r : ReplyWithData) → HasHappened interval_judge e old new r → took (r ∷ [])
    → HasServed interval_judge (e ∷ []) old new took
served_one took e old new r happened t = record {
  occurrences = record { event = told_of e; starved = happened.starved } ∷ [];
  are = refl;
  state = happened.state;
  replies = subst took (ap (λ (x : ReplyWithData). x ∷ []) happened.replied) t;
}

-- the frame of its reply was added to the answer
pub answered_in : (e : Event) (old new : State) (r : ReplyWithData) (before after : List ℕ) → HasHappened interval_judge e old new r
    → after ≡ before ++ reply_frame r → Answers (e ∷ []) old new before after
answered_in e old new r before after happened added =
    served_one (λ (replies : List ReplyWithData). after ≡ before ++ flat_map reply_frame replies) e old new r happened
    (added ∙ ap (λ (x : List ℕ). before ++ x) (sym (append-nil (reply_frame r))))

-- ---- turns

kept : (b : Bool) (x : ReplyWithData) (xs ys : List ReplyWithData) → cond b (x ∷ xs) xs ++ ys ≡ cond b (x ∷ (xs ++ ys)) (xs ++ ys)
kept true x xs ys = refl
kept false x xs ys = refl

of_both : (first later : List ReplyWithData) → of_runs (first ++ later) ≡ of_runs first ++ of_runs later
of_both [] later = refl
of_both (x ∷ xs) later =
    ap (λ (rest : List ReplyWithData). cond (not (is_idle x.reply)) (x ∷ rest) rest) (of_both xs later)
    ∙ sym (kept (not (is_idle x.reply)) x (of_runs xs) (of_runs later))

turns_join : Joins TookTurns
turns_join a b c first later early late = (
  late.0 ∙ ap (λ (x : List ℕ). x ++ flat_map reply_frame (of_runs later)) early.0
      ∙ append_assoc a.0 (flat_map reply_frame (of_runs first)) (flat_map reply_frame (of_runs later))
      ∙ ap (λ (x : List ℕ). a.0 ++ x)
      (sym (ap (flat_map reply_frame) (of_both first later) ∙ flat_map-append reply_frame (of_runs first) (of_runs later))),
  omega (arith, early.1, late.1, ap length (of_both first later), length-append (of_runs first) (of_runs later)),
)

-- such a turn leaves a device as it was
answers_turn : (run : ℕ) (place : Place) (ending : Option Ending) → is_idle (turn_reply run place ending).reply ≡ true → ⊥
answers_turn run place None idle = cc
answers_turn run place (Some ending) idle = cc

taken_stays : (s : State) (run : ℕ) (place : Place) (turns : List Turn) → is_idle (take_turn s run place turns).reply.reply ≡ true
    → (take_turn s run place turns).state ≡ s
taken_stays s run place [] idle = refl
taken_stays s run place (turn ∷ later) idle = absurd (answers_turn run place turn.ending idle)

idle_stays : (s : State) (run : ℕ) (at : Option Place) → is_idle (turned_at s run at).reply.reply ≡ true → (turned_at s run at).state ≡ s
idle_stays s run None idle = refl
idle_stays s run (Some place) idle = taken_stays s run place place.turns idle

-- a turn starts no run
same_reply_of : (s t : State) (n : ℕ) (place : Place) (turns : List Turn) → (take_turn t n place turns).reply ≡ (take_turn s n place turns).reply
same_reply_of s t n place [] = refl
same_reply_of s t n place (turn ∷ later) = refl

same_reply : (s t : State) (n : ℕ) (at : Option Place) → (turned_at t n at).reply ≡ (turned_at s n at).reply
same_reply s t n None = refl
same_reply s t n (Some place) = same_reply_of s t n place place.turns

takes_none : (s : State) (run n : ℕ) (place : Place) (turns : List Turn) → place_at s run ≡ Some place → place.turns ≡ turns → HasNone s n
    → ((eqb n run ≡ true) × (n ≡ run)) ⊎ ((eqb n run ≡ false) × (n ≢ run)) → HasNone (take_turn s run place turns).state n
takes_none s run n place [] here are none which = none
takes_none s run n place (turn ∷ later) here are none (inl same) =
    let at_run : HasNone s run = subst (HasNone s) same.1 none in
    let taken : is_idle (take_turn s run place place.turns).reply.reply ≡ true =
    subst (λ (at : Option Place). is_idle (turned_at s run at).reply.reply ≡ true) here at_run in
    absurd (answers_turn run place turn.ending (subst (λ (turns : List Turn). is_idle (take_turn s run place turns).reply.reply ≡ true) are taken))
takes_none s run n place (turn ∷ later) here are none (inr differs) =
    let then : State = turn_state s run place turn later in
    ap (λ (at : Option Place). is_idle (turned_at then n at).reply.reply)
    (get_or-set_other s.places run n (place_left place later turn.ending) None differs.1)
    ∙ ap (λ (r : ReplyWithData). is_idle r.reply) (same_reply s then n (place_at s n))
    ∙ none

gets_none_at : (s : State) (run n : ℕ) (at : Option Place) → place_at s run ≡ at → HasNone s n → HasNone (turned_at s run at).state n
gets_none_at s run n None here none = none
gets_none_at s run n (Some place) here none = takes_none s run n place place.turns here refl none (eqb_tells n run)

gets_none : (run : ℕ) (old new : State) (r : ReplyWithData) → HasHappened interval_judge (event.Turn run) old new r → (n : ℕ) → HasNone old n
    → HasNone new n
gets_none run old new r happened n none =
    subst (λ (s : State). HasNone s n) (sym happened.state) (gets_none_at old run n (place_at old run) refl none)

-- a turn of a number that no run has
pub gave_none : (run : ℕ) (old new : State) (r : ReplyWithData) (before : List ℕ) → HasHappened interval_judge (event.Turn run) old new r
    → is_idle r.reply ≡ true → GaveTurn run false old new before before
gave_none run old new r before happened idle =
    let none : of_runs (r ∷ []) ≡ [] = ap (λ (b : Bool). cond (not b) (r ∷ []) []) idle in
    let has_none : HasNone old run = ap (λ (x : ReplyWithData). is_idle x.reply) (sym happened.replied) ∙ idle in
    record {
      served = λ count.
          served_one (TookTurns (before, count) (before, count)) (event.Turn run) old new r happened
          (subst (λ (l : List ReplyWithData). before ≡ before ++ flat_map reply_frame l) (sym none) (sym (append-nil before)), omega (arith, ap length none));
      none = λ same. (happened.state ∙ idle_stays old run (place_at old run) has_none, has_none);
      starts_none = gets_none run old new r happened;
    }

-- a turn that isn't given to a number of which this is known comes to the same
pub gave_free : (run : ℕ) (s : State) (before : List ℕ) → HasNone s run → GaveTurn run false s s before before
gave_free run s before none =
    gave_none run s s (turned s run).reply before
    (record { starved = false; state = sym (idle_stays s run (place_at s run) none); replied = refl }) none

-- a turn of a run
pub gave_one : (run : ℕ) (old new : State) (r : ReplyWithData) (before after : List ℕ) → HasHappened interval_judge (event.Turn run) old new r
    → is_idle r.reply ≡ false → after ≡ before ++ reply_frame r → GaveTurn run true old new before after
gave_one run old new r before after happened busy added =
    let one : of_runs (r ∷ []) ≡ r ∷ [] = ap (λ (b : Bool). cond (not b) (r ∷ []) []) busy in
    record {
      served = λ count.
          served_one (TookTurns (before, count) (after, count + 1)) (event.Turn run) old new r happened (
            added ∙ ap (λ (x : List ℕ). before ++ x) (sym (append-nil (reply_frame r)) ∙ sym (ap (flat_map reply_frame) one)),
            omega (arith, ap length one),
          );
      none = λ same. cc;
      starts_none = gets_none run old new r happened;
    }

-- ---- numbers that no run has

not_both : false ≡ true → ⊥
not_both both = cc

free_at : (marks : List Bool) (run n : ℕ) (was : Bool) (old new : State) → run < length marks → AreFree marks old
    → (was ≡ false → (new ≡ old) × HasNone old run) → ((k : ℕ) → HasNone old k → HasNone new k) → get_or (set marks run (not was)) n false ≡ true
    → ((eqb n run ≡ true) × (n ≡ run)) ⊎ ((eqb n run ≡ false) × (n ≢ run)) → HasNone new n
free_at marks run n true old new within free none stays marked (inl same) =
    absurd (not_both (sym (get_or-set_same marks run false false within) ∙ subst (λ (k : ℕ). get_or (set marks run false) k false ≡ true) same.1 marked))
free_at marks run n false old new within free none stays marked (inl same) = subst (HasNone new) (sym same.1) (stays run (none refl).1)
free_at marks run n was old new within free none stays marked (inr differs) =
    stays n (free n (sym (get_or-set_other marks run n (not was) false differs.1) ∙ marked))

-- the number of a turn is marked where no run has it
pub free_on : (marks : List Bool) (at run : ℕ) (was : Bool) (old new : State) (before after : List ℕ) → run < length marks → AreFree marks old
    → GaveTurn run was old new before after → at ≡ run → AreFree (set marks at (not was)) new
free_on marks at run was old new before after within free gave is n marked =
    free_at marks run n was old new within free gave.none gave.starts_none
    (subst (λ (k : ℕ). get_or (set marks k (not was)) n false ≡ true) is marked) (eqb_tells n run)

-- no run has a number that is marked
pub free_there : (marks : List Bool) (s : State) (at run : ℕ) → AreFree marks s → at ≡ run → get_or marks at false ≡ true → HasNone s run
free_there marks s at run free is marked = free run (subst (λ (k : ℕ). get_or marks k false ≡ true) is marked)

none_marked : (k n : ℕ) → get_or (replicate k false) n false ≡ false
none_marked zero n = refl
none_marked (suc k) zero = refl
none_marked (suc k) (suc n) = none_marked k n

-- none is marked at first
pub free_begun : (s : State) → AreFree (replicate 8 false) s
free_begun s n marked = absurd (not_both (sym (none_marked 8 n) ∙ marked))

-- turns went round the runs, and so many were given; the last so many numbers are of no run
pub record GoesRound (most given idle run : ℕ) (old new : State) (before after : List ℕ) : Type 0 where
  pub tries : ℕ
  pub served : HasServed interval_judge (turns_round tries) old new (TookTurns (before, 0) (after, given))
  pub run_is : run ≡ tries % 8
  pub few : given ≤ most
  pub still : idle ≤ 8
  pub none : (n : ℕ) → n < 8 → 8 ≤ idle + (n + 8 - run) % 8 → HasNone new n

pub goes_begun : (most : ℕ) (s : State) (before : List ℕ) → GoesRound most 0 0 0 s s before before
goes_begun most s before = record {
  tries = 0;
  served = record { occurrences = []; are = refl; state = refl; replies = (sym (append-nil before), refl) };
  run_is = omega arith;
  few = omega arith;
  still = omega arith;
  none = λ n below far. absurd (omega (arith, below, far));
}

-- one number more is of no run
none_at : (idle run n : ℕ) (s : State) → run < 8 → ((k : ℕ) → k < 8 → 8 ≤ idle + (k + 8 - run) % 8 → HasNone s k) → HasNone s run
    → n < 8 → 8 ≤ idle + 1 + (n + 8 - (run + 1) % 8) % 8 → ((eqb n run ≡ true) × (n ≡ run)) ⊎ ((eqb n run ≡ false) × (n ≢ run)) → HasNone s n
none_at idle run n s small so_far none below far (inl same) = subst (HasNone s) (sym same.1) none
none_at idle run n s small so_far none below far (inr differs) = so_far n below (omega (arith, differs.1, small, below, far))

none_on : (was : Bool) (idle run n : ℕ) (between new : State) → run < 8
    → ((k : ℕ) → k < 8 → 8 ≤ idle + (k + 8 - run) % 8 → HasNone between k) → (was ≡ false → (new ≡ between) × HasNone between run)
    → n < 8 → 8 ≤ cond was 0 (idle + 1) + (n + 8 - (run + 1) % 8) % 8 → HasNone new n
none_on true idle run n between new small so_far none below far = absurd (omega (arith, below, far))
none_on false idle run n between new small so_far none below far =
    subst (λ (s : State). HasNone s n) (sym (none refl).0) (none_at idle run n between small so_far (none refl).1 below far (eqb_tells n run))

pub goes_on : (most given given' idle idle' run run' : ℕ) (was : Bool) (old between new : State) (before then after : List ℕ)
    → GoesRound most given idle run old between before then → GaveTurn run was between new then after → given' ≡ cond was (given + 1) given
    → given' ≤ most → idle' ≡ cond was 0 (idle + 1) → idle' ≤ 8 → run' ≡ (run + 1) % 8 → GoesRound most given' idle' run' old new before after
goes_on most given given' idle idle' run run' was old between new before then after round gave given_is few idle_is still run_is =
    let more = served_in_parts TookTurns turns_join (turns_round round.tries) (event.Turn run ∷ []) old between new (before, 0) (then, given) (after, cond was (given + 1) given)
    round.served (gave.served given) in
    record {
      tries = suc round.tries;
      served = subst (λ (n : ℕ). HasServed interval_judge (turns_round round.tries ++ event.Turn n ∷ []) old new (TookTurns (before, 0) (after, given'))) round.run_is
          (subst (λ (n : ℕ). HasServed interval_judge (turns_round round.tries ++ event.Turn run ∷ []) old new (TookTurns (before, 0) (after, n))) (sym given_is) more);
      run_is = omega (arith, run_is, round.run_is);
      few = few;
      still = still;
      none = λ n below far.
          none_on was idle run n between new (omega (arith, round.run_is)) round.none gave.none below
          (subst (λ (r : ℕ). 8 ≤ cond was 0 (idle + 1) + (n + 8 - r) % 8) run_is (subst (λ (i : ℕ). 8 ≤ i + (n + 8 - run') % 8) idle_is far));
    }

-- no more are given
pub goes_done : (most given idle run : ℕ) (old new : State) (before after : List ℕ) → GoesRound most given idle run old new before after
    → (given ≡ most) ⊎ (idle ≡ 8) → GivesTurns most given old new before after
goes_done most given idle run old new before after round (inl all) = record { tries = round.tries; served = round.served; few = round.few; all = inl all }
goes_done most given idle run old new before after round (inr none) = record {
  tries = round.tries;
  served = round.served;
  few = round.few;
  all = inr (λ n below. round.none n below (omega (arith, none)));
}

-- ---- turns of which it isn't said what was written

-- so many turns of runs at most
abbrev Counts : ℕ → ℕ → List ReplyWithData → Type 0
Counts old new replies = length (of_runs replies) + old ≤ new

counts_join : Joins Counts
counts_join a b c first later early late = omega (arith, early, late, ap length (of_both first later), length-append (of_runs first) (of_runs later))

few_one : (b : Bool) (r : ReplyWithData) → length (cond (not b) (r ∷ []) []) ≤ 1
few_one true r = omega arith
few_one false r = omega arith

pub untold : {took tooks : List ReplyWithData → Type 0} (events : List Event) (old new : State) → ((replies : List ReplyWithData) → took replies → tooks replies)
    → HasServed interval_judge events old new took → HasServed interval_judge events old new tooks
untold events old new weaker s = record { occurrences = s.occurrences; are = s.are; state = s.state; replies = weaker _ s.replies }

pub went_given : (most given : ℕ) (old new : State) (before after : List ℕ) → GivesTurns most given old new before after → WentRound most old new
went_given most given old new before after gives =
    record { tries = gives.tries; served = untold (turns_round gives.tries) old new (λ replies took. omega (arith, took.1, gives.few)) gives.served }

pub went_so_far : (most given idle run : ℕ) (old new : State) (before after : List ℕ) → GoesRound most given idle run old new before after
    → WentRound most old new
went_so_far most given idle run old new before after round =
    record { tries = round.tries; served = untold (turns_round round.tries) old new (λ replies took. omega (arith, took.1, round.few)) round.served }

-- after turns that were answered one more, which isn't
pub went_on : (most given idle run : ℕ) (old between new : State) (before then : List ℕ) → GoesRound most given idle run old between before then
    → given + 1 ≤ most → Began (event.Turn run) between new → WentRound most old new
went_on most given idle run old between new before then round less (inl same) =
    subst (λ (s : State). WentRound most old s) (sym same) (went_so_far most given idle run old between before then round)
went_on most given idle run old between new before then round less (inr happened) =
    let one = served_one (Counts given (given + 1)) (event.Turn run) between new happened.0 happened.1
    (omega (arith, few_one (is_idle happened.0.reply) happened.0)) in
    let first = untold {tooks = Counts 0 given} (turns_round round.tries) old between (λ replies took. omega (arith, took.1)) round.served in
    let more = served_in_parts Counts counts_join (turns_round round.tries) (event.Turn run ∷ []) old between new 0 given (given + 1) first one in
    record {
      tries = suc round.tries;
      served = subst (λ (n : ℕ). HasServed interval_judge (turns_round round.tries ++ event.Turn n ∷ []) old new (λ replies. length (of_runs replies) ≤ most)) round.run_is
          (untold (turns_round round.tries ++ event.Turn run ∷ []) old new (λ replies few. omega (arith, few, less)) more);
    }

-- what answers turns was added to the answer
pub goes_grown : (most given idle run : ℕ) (old new : State) (before after : List ℕ) → GoesRound most given idle run old new before after → HasGrown before after
goes_grown most given idle run old new before after round =
    (flat_map reply_frame (of_runs (replies_to interval_judge round.served.occurrences old)), round.served.replies.0)

-- and bytes more
pub grown_on : (a b c bytes : List ℕ) → HasGrown a b → c ≡ b ++ bytes → HasGrown a c
grown_on a b c bytes grown added =
    (grown.0 ++ bytes, added ∙ ap (λ (x : List ℕ). x ++ bytes) grown.1 ∙ append_assoc a grown.0 bytes)

pub grown_same : (a b c : List ℕ) → HasGrown a b → c ≡ b → HasGrown a c
grown_same a b c grown same = (grown.0, same ∙ grown.1)

pub grown_both : (a b c : List ℕ) → HasGrown a b → HasGrown b c → HasGrown a c
grown_both a b c first then = grown_on a b c then.0 first then.1

pub not_grown : (a : List ℕ) → HasGrown a a
not_grown a = ([], sym (append-nil a))
