-- The turns of runs come to the same in any order.
use Rattle.std.proofs.Common.{◌≡◌, ◌≢◌, ℕ, zero, suc, Bool, true, false, cond, List, [], ◌∷◌, ◌++◌, map, get_or, Option, Some, None, refl, ap, sym, ◌∙◌, inl, inr, append_assoc}
use Rattle.std.specs.Prelude.{◌==◌}
use Rattle.std.specs.List.{filter, fold, zip}
use Rattle.std.proofs.lemmas.Bool.{eqb-true}
use Rattle.std.proofs.lemmas.Bool.Decides.{eqb_tells}
use Rattle.std.proofs.lemmas.List.{append-nil}
use Rattle.device_meaning.specs.Judging.{IsSoundJudge, Judge}
use Rattle.device_meaning.specs.Admission.{Loaded}
use Rattle.device_meaning.specs.EventReplies.{Happening}
use Rattle.device_events.specs.Replies.{ReplyWithData}
use Rattle.pushdown.specs.AnyOrder.{AreSameTurns, ComeToTheSame, IsUnshared, TurnsInAnyOrder, own_replies}
use Rattle.device_meaning.specs.Draining.{replies_to_turns, state_after_turns}
use Rattle.device_meaning.specs.Happenings.{slots_left, take_turn, turned, turned_at}
use Rattle.device_meaning.specs.Outcome.{Ending, Turn}
use Rattle.device_meaning.specs.State.{Place, State, loaded_at, place_at}
use Rattle.pushdown.proofs.Commuting.{Empty, OwnAll, kept, reply_after, state_of_both, stays_own, turns_keep}
use Rattle.device_meaning.proofs.Proved.{AreApart, reached_fine}
use Rattle.pushdown.proofs.SameTurns.{in_any_order}

-- ---- slots of which all are emptied but one

abbrev alone : ℕ → List (Option Loaded) → List (Option Loaded)
alone slot [] = []
alone zero (x ∷ xs) = x ∷ []
alone (suc slot) (x ∷ xs) = None ∷ alone slot xs

alone_same : (slot : ℕ) (xs : List (Option Loaded)) → get_or (alone slot xs) slot None ≡ get_or xs slot None
alone_same slot [] = refl
alone_same zero (x ∷ xs) = refl
alone_same (suc slot) (x ∷ xs) = alone_same slot xs

alone_other : (slot : ℕ) (xs : List (Option Loaded)) (other : ℕ) → other ≢ slot → Empty (alone slot xs) other
alone_other slot [] other differs = refl
alone_other zero (x ∷ xs) zero differs = absurd (differs refl)
alone_other zero (x ∷ xs) (suc other) differs = refl
alone_other (suc slot) (x ∷ xs) zero differs = refl
alone_other (suc slot) (x ∷ xs) (suc other) differs = alone_other slot xs other (λ same. differs (ap suc same))

alone_kept : (slot : ℕ) (xs : List (Option Loaded)) (i : ℕ) (bytes : Option (List ℕ)) → alone slot (kept xs i bytes) ≡ kept (alone slot xs) i bytes
alone_kept slot [] i bytes = refl
alone_kept zero (x ∷ xs) zero bytes = refl
alone_kept zero (x ∷ xs) (suc i) bytes = refl
alone_kept (suc slot) (x ∷ xs) zero bytes = refl
alone_kept (suc slot) (x ∷ xs) (suc i) bytes = ap (λ (rest : List (Option Loaded)). None ∷ rest) (alone_kept slot xs i bytes)

-- ---- a state that is seen with other slots, in which turns keep results likewise: turns do the same there

record IsView (view : List (Option Loaded) → List (Option Loaded)) : Type 0 where
  keeps : (xs : List (Option Loaded)) (i : ℕ) (bytes : Option (List ℕ)) → view (kept xs i bytes) ≡ kept (view xs) i bytes

module _ (view : List (Option Loaded) → List (Option Loaded)) where
  abbrev with_view : State → State
  with_view s = record s { slots = view s.slots }

  module _ (is : IsView view) where
    slots_seen : (s : State) (place : Place) (ending : Option Ending) → view (slots_left s place ending) ≡ slots_left (with_view s) place ending
    slots_seen s place None = refl
    slots_seen s place (Some ending) = is.keeps s.slots place.slot ending.result

    abbrev happening_seen : Happening → Happening
    happening_seen h = record { reply = h.reply; state = with_view h.state }

    taken_seen : (s : State) (run : ℕ) (place : Place) (turns : List Turn)
        → happening_seen (take_turn s run place turns) ≡ take_turn (with_view s) run place turns
    taken_seen s run place [] = refl
    taken_seen s run place (turn ∷ later) =
        let h = take_turn (with_view s) run place (turn ∷ later) in
        ap (λ (slots : List (Option Loaded)). record h { state = record h.state { slots = slots } }) (slots_seen s place turn.ending)

    turned_seen : (s : State) (run : ℕ) (at : Option Place) → happening_seen (turned_at s run at) ≡ turned_at (with_view s) run at
    turned_seen s run None = refl
    turned_seen s run (Some place) = taken_seen s run place place.turns

-- ---- a state, with the replies to the turns of one run so far

record Seen : Type 0 where
  state : State
  replies : List ReplyWithData

abbrev seen_with : State → List ReplyWithData → Seen
seen_with s replies = record { state = s; replies = replies }

same_seen : (s t : State) (xs ys : List ReplyWithData) → s ≡ t → xs ≡ ys → seen_with s xs ≡ seen_with t ys
same_seen s t xs ys same_state same_replies = ap (λ (s : State). seen_with s xs) same_state ∙ ap (seen_with t) same_replies

abbrev told_if : Bool → ReplyWithData → List ReplyWithData
told_if true reply = reply ∷ []
told_if false reply = []

one_more : (mine : Bool) (x : ℕ × ReplyWithData) (xs : List (ℕ × ReplyWithData))
    → told_if mine x.1 ++ map (λ y. y.1) xs ≡ map (λ y. y.1) (cond mine (x ∷ xs) xs)
one_more true x xs = refl
one_more false x xs = refl

replies_both : (a b : Bool) (before : List ReplyWithData) (x y : ReplyWithData) → (a ≡ true → b ≡ true → ⊥)
    → (before ++ told_if a x) ++ told_if b y ≡ (before ++ told_if b y) ++ told_if a x
replies_both true true before x y differs = absurd (differs refl refl)
replies_both true false before x y differs = append-nil (before ++ x ∷ []) ∙ ap (λ (xs : List ReplyWithData). xs ++ x ∷ []) (sym (append-nil before))
replies_both false true before x y differs = ap (λ (xs : List ReplyWithData). xs ++ y ∷ []) (append-nil before) ∙ sym (append-nil (before ++ y ∷ []))
replies_both false false before x y differs = refl

module _ (watched : ℕ) where
  abbrev step : Seen → ℕ → Seen
  step x run = seen_with (turned x.state run).state (x.replies ++ told_if (run == watched) (turned x.state run).reply)

  abbrev Own : Seen → Type 0
  Own x = OwnAll x.state

  in_either_order : (x : Seen) (a b : ℕ) → Own x → a ≢ b → step (step x a) b ≡ step (step x b) a
  in_either_order x a b own differs =
      let s = x.state in
      let first = told_if (a == watched) (turned s a).reply in
      let second = told_if (b == watched) (turned s b).reply in
      same_seen (step (step x a) b).state (step (step x b) a).state (step (step x a) b).replies (step (step x b) a).replies
      (state_of_both s a b own differs)
      (ap (λ (y : ReplyWithData). (x.replies ++ first) ++ told_if (b == watched) y) (reply_after s a b (λ same. differs (sym same)))
      ∙ replies_both (a == watched) (b == watched) x.replies (turned s a).reply (turned s b).reply
      (λ at_a at_b. differs (eqb-true a watched at_a ∙ sym (eqb-true b watched at_b)))
      ∙ ap (λ (y : ReplyWithData). (x.replies ++ second) ++ told_if (a == watched) y) (sym (reply_after s b a differs)))

  module _ (view : List (Option Loaded) → List (Option Loaded)) (is : IsView view) where
    turns_seen : (runs : List ℕ) (s : State) (replies : List ReplyWithData)
        → fold step (seen_with (with_view view s) replies) runs
        ≡ seen_with (with_view view (state_after_turns runs s)) (replies ++ own_replies watched runs (replies_to_turns runs s))
    turns_seen [] s replies = ap (seen_with (with_view view s)) (sym (append-nil replies))
    turns_seen (run ∷ runs) s replies =
        let t = (turned s run).state in
        let mine = told_if (run == watched) (turned s run).reply in
        let rest = own_replies watched runs (replies_to_turns runs t) in
        ap (λ (h : Happening). fold step (seen_with h.state (replies ++ told_if (run == watched) h.reply)) runs)
        (sym (turned_seen view is s run (place_at s run)))
        ∙ turns_seen runs t (replies ++ mine)
        ∙ ap (seen_with (with_view view (state_after_turns runs t))) (append_assoc replies mine rest ∙ ap (λ (xs : List ReplyWithData). replies ++ xs)
        (one_more (run == watched) (run, (turned s run).reply) (filter (λ x. x.0 == watched) (zip runs (replies_to_turns runs t)))))

    same_after : (first second : List ℕ) (s : State) → OwnAll (with_view view s) → AreSameTurns first second
        → seen_with (with_view view (state_after_turns first s)) (own_replies watched first (replies_to_turns first s))
        ≡ seen_with (with_view view (state_after_turns second s)) (own_replies watched second (replies_to_turns second s))
    same_after first second s own same =
        sym (turns_seen first s [])
        ∙ in_any_order step Own (λ x run. stays_own x.state run) in_either_order first second (seen_with (with_view view s) []) own same
        ∙ turns_seen second s []

-- ---- the law

-- nothing is seen of the slots, or one, or all
none_seen : IsView (λ xs. [])
none_seen = record { keeps = λ xs i bytes. refl }

one_seen : (slot : ℕ) → IsView (alone slot)
one_seen slot = record { keeps = alone_kept slot }

all_seen : IsView (λ xs. xs)
all_seen = record { keeps = λ xs i bytes. refl }

own_in : (s : State) (slot : ℕ) → AreApart s.places → IsUnshared s slot → OwnAll (with_view (alone slot) s)
own_in s slot apart unshared = record {
  apart = apart;
  slots = λ j k p q at_j at_k differs same. elim (eqb_tells p.slot slot) [
    | inl is ↦ absurd (differs (unshared j k p q at_j at_k is.1 (sym same ∙ is.1)))
    | inr other ↦ alone_other slot s.slots p.slot other.1
  ];
}

module _ (s : State) (apart : AreApart s.places) (first second : List ℕ) (same : AreSameTurns first second) where
  same_result : (slot : ℕ) → IsUnshared s slot → loaded_at (state_after_turns first s) slot ≡ loaded_at (state_after_turns second s) slot
  same_result slot unshared =
      sym (alone_same slot (state_after_turns first s).slots)
      ∙ ap (λ (x : Seen). loaded_at x.state slot) (same_after 0 (alone slot) (one_seen slot) first second s (own_in s slot apart unshared) same)
      ∙ alone_same slot (state_after_turns second s).slots

  own_all : ((slot : ℕ) → IsUnshared s slot) → OwnAll s
  own_all unshared = record { apart = apart; slots = λ j k p q at_j at_k differs is. absurd (differs (unshared p.slot j k p q at_j at_k refl (sym is))) }

  any_order : ComeToTheSame s first second
  any_order =
      let own : OwnAll (with_view (λ xs. []) s) = record { apart = apart; slots = λ j k p q at_j at_k differs same. refl } in
      let all : (run : ℕ) → _ = λ run. same_after run (λ xs. []) none_seen first second s own same in
      record {
        namespace = ap (λ (x : Seen). x.state.namespace) (all 0);
        places = ap (λ (x : Seen). x.state.places) (all 0);
        programs = λ slot.
            let one = turns_keep first s slot in
            let other = turns_keep second s slot in
            record { loaded = other.loaded ∙ sym one.loaded; program = other.program ∙ sym one.program; limit = other.limit ∙ sym one.limit };
        results = same_result;
        whole = λ unshared. ap (λ (x : Seen). x.state) (same_after 0 (λ xs. xs) all_seen first second s (own_all unshared) same);
        replies = λ run. ap (λ (x : Seen). x.replies) (all run);
      }

pub turns_in_any_order : (judge : Judge) → IsSoundJudge judge → TurnsInAnyOrder judge
turns_in_any_order judge sound s reached first second same = any_order s (reached_fine judge sound s reached).apart first second same
