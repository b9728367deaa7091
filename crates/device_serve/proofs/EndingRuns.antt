-- Turns of the lowest active run, and one turn more.
use Rattle.std.proofs.Common.{◌≡◌, ℕ, ◌+◌, ◌≤◌, List, [], ◌∷◌, ◌++◌, append-nil, append_assoc, length, length-append, Some, None, ◌⊎◌, inl, inr, refl, ap, sym, subst, ◌∙◌, arith}
use Rattle.std.specs.Prelude.{flat_map, is_some}
use Rattle.std.proofs.lemmas.List.{take_all, take_at}
use Rattle.std.proofs.lemmas.List.Concat.{flat_map-append}
use Rattle.std.proofs.lemmas.List.Quantifiers.{position-Some}
use Rattle.std.proofs.lemmas.List.Sums.{fold-append}
use Rattle.device_events.specs.Replies.{ReplyWithData}
use Rattle.device_meaning.specs.Draining.{AreLowest, lowest_run, replies_to_turns, state_after_turns, turns_left}
use Rattle.device_meaning.specs.Happenings.{turned}
use Rattle.device_meaning.specs.Judging.{IsSoundJudge, Judge}
use Rattle.device_meaning.specs.Reached.{IsReached}
use Rattle.device_meaning.specs.State.{State}
use Rattle.device_meaning.proofs.Proved.{turns_leave_fewer}
use Rattle.device_serve.specs.EndingRuns.{EndsRuns, EndsSome}

pub turn_less : (judge : Judge) (sound : IsSoundJudge judge) (s : State) (run : ℕ) → IsReached judge s → lowest_run s ≡ Some run
    → turns_left (turned s run).state.places + 1 ≤ turns_left s.places
turn_less judge sound s run reached low = turns_leave_fewer judge sound s run reached ((position-Some is_some s.places run None low).1)

turns_replies-append : (first later : List ℕ) (s : State)
    → replies_to_turns (first ++ later) s ≡ replies_to_turns first s ++ replies_to_turns later (state_after_turns first s)
turns_replies-append [] later s = refl
turns_replies-append (run ∷ runs) later s =
    ap (λ (replies : List ReplyWithData). (turned s run).reply ∷ replies) (turns_replies-append runs later (turned s run).state)

lowest-append : (first later : List ℕ) (s : State) → AreLowest first s → AreLowest later (state_after_turns first s) → AreLowest (first ++ later) s
lowest-append [] later s are more = more
lowest-append (run ∷ runs) later s are more = (are.0, lowest-append runs later (turned s run).state are.1 more)

module _ (spelled : ReplyWithData → List ℕ) where
  -- turns of the lowest active run were given, and all of them are answered
  pub record IsEnding (old now : State) (before so_far : List ℕ) : Type 0 where
    pub runs : List ℕ
    pub lowest : AreLowest runs old
    pub state : now ≡ state_after_turns runs old
    pub answers : so_far ≡ before ++ flat_map spelled (replies_to_turns runs old)
    pub few : length runs + turns_left now.places ≤ turns_left old.places

  pub ending_none : (s : State) (before : List ℕ) → IsEnding s s before before
  ending_none s before = record { runs = []; lowest = tt; state = refl; answers = sym (append-nil before); few = omega arith }

  module _ (old now : State) (before so_far : List ℕ) (d : IsEnding old now before so_far) where
    -- no run is left
    pub ended : lowest_run now ≡ None → EndsRuns spelled old now before so_far
    ended none = record {
      runs = d.runs;
      drains = record { lowest = d.lowest; none_left = ap lowest_run (sym d.state) ∙ none; few = omega (arith, d.few) };
      state = d.state;
      replies = d.answers;
    }

    all_answered : EndsSome spelled old now before so_far
    all_answered = record {
      runs = d.runs;
      lowest = d.lowest;
      state = d.state;
      answered = length d.runs;
      within = omega arith;
      all_but_one = omega arith;
      answers = subst (λ (runs : List ℕ). so_far ≡ before ++ flat_map spelled (replies_to_turns runs old)) (sym (take_all (length d.runs) d.runs (omega arith)))
          d.answers;
    }

    module _ (run : ℕ) (low : lowest_run now ≡ Some run) where
      more_lowest : AreLowest (d.runs ++ run ∷ []) old
      more_lowest = lowest-append d.runs (run ∷ []) old d.lowest (subst (λ (s : State). lowest_run s ≡ Some run) d.state low, tt)

      more_state : (turned now run).state ≡ state_after_turns (d.runs ++ run ∷ []) old
      more_state = ap (λ (s : State). (turned s run).state) d.state ∙ sym (fold-append _ old d.runs (run ∷ []))

      -- one more is given and answered
      pub ending_more : (new : State) (after : List ℕ) → turns_left new.places + 1 ≤ turns_left now.places → new ≡ (turned now run).state
          → after ≡ so_far ++ spelled (turned now run).reply → IsEnding old new before after
      ending_more new after less step added =
          let replies : replies_to_turns (d.runs ++ run ∷ []) old ≡ replies_to_turns d.runs old ++ (turned now run).reply ∷ [] =
          turns_replies-append d.runs (run ∷ []) old
          ∙ ap (λ (s : State). replies_to_turns d.runs old ++ (turned s run).reply ∷ []) (sym d.state) in
          record {
            runs = d.runs ++ run ∷ [];
            lowest = more_lowest;
            state = step ∙ more_state;
            answers = added ∙ ap (λ (x : List ℕ). x ++ spelled (turned now run).reply) d.answers
                ∙ append_assoc before (flat_map spelled (replies_to_turns d.runs old)) (spelled (turned now run).reply)
                ∙ ap (λ (x : List ℕ). before ++ (flat_map spelled (replies_to_turns d.runs old) ++ x)) (sym (append-nil (spelled (turned now run).reply)))
                ∙ ap (λ (x : List ℕ). before ++ x)
                (sym (ap (flat_map spelled) replies ∙ flat_map-append spelled (replies_to_turns d.runs old) ((turned now run).reply ∷ [])));
            few = omega (arith, d.few, less, length-append d.runs (run ∷ []));
          }

      one_unanswered : EndsSome spelled old (turned now run).state before so_far
      one_unanswered = record {
        runs = d.runs ++ run ∷ [];
        lowest = more_lowest;
        state = more_state;
        answered = length d.runs;
        within = omega (arith, length-append d.runs (run ∷ []));
        all_but_one = omega (arith, length-append d.runs (run ∷ []));
        answers = subst (λ (runs : List ℕ). so_far ≡ before ++ flat_map spelled (replies_to_turns runs old)) (sym (take_at d.runs (run ∷ []) (length d.runs) refl))
            d.answers;
      }

      -- one more is perhaps given, and isn't answered
      pub ending_stops : (new : State) (after : List ℕ) → (new ≡ now) ⊎ (new ≡ (turned now run).state) → after ≡ so_far → EndsSome spelled old new before after
      ending_stops new after (inl same) unanswered =
          subst (λ (s : State). EndsSome spelled old s before after) (sym same)
          (subst (λ (x : List ℕ). EndsSome spelled old now before x) (sym unanswered) all_answered)
      ending_stops new after (inr step) unanswered =
          subst (λ (s : State). EndsSome spelled old s before after) (sym step)
          (subst (λ (x : List ℕ). EndsSome spelled old (turned now run).state before x) (sym unanswered) one_unanswered)
