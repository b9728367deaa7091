-- Turns of a run at once.
use Rattle.std.proofs.Common.{ℕ, zero, suc, ◌≡◌, Bool, true, false, cond, List, [], ◌∷◌, ◌++◌, replicate, Option, Some, None, ap, arith, inl, inr, refl, sym, ⊎_elim, ◌∙◌}
use Rattle.std.proofs.lemmas.Bool.{false≢true}
use Rattle.device_events.specs.Replies.{ReplyWithData, without_data}
use Rattle.device_events.specs.declared.reply.Reply.TheVariants as reply
use Rattle.device_meaning.specs.Draining.{replies_to_turns}
use Rattle.device_meaning.specs.EventReplies.{Happening}
use Rattle.device_meaning.specs.Happenings.{take_turn, turn_reply, turned, turned_at}
use Rattle.device_meaning.specs.Outcome.{Ending, Turn}
use Rattle.device_meaning.specs.State.{Place, State, place_at}
use Rattle.runner.specs.Turns.{has_turns_left, turned_on}
use Rattle.device_library.specs.Turns.{AreOneByOne}

-- ---- the reply of a run that has turns left

reply_of_more : (run : ℕ) (place : Place) (ending : Option Ending) → has_turns_left (turn_reply run place ending).reply ≡ true
    → turn_reply run place ending ≡ without_data (reply.Pending run)
reply_of_more run place None left = refl
reply_of_more run place (Some ending) left = absurd (false≢true left)

taken_of_more : (s : State) (run : ℕ) (place : Place) (turns : List Turn) → has_turns_left (take_turn s run place turns).reply.reply ≡ true
    → (take_turn s run place turns).reply ≡ without_data (reply.Pending run)
taken_of_more s run place [] left = absurd (false≢true left)
taken_of_more s run place (turn ∷ later) left = reply_of_more run place turn.ending left

turned_at_of_more : (s : State) (run : ℕ) (place : Option Place) → has_turns_left (turned_at s run place).reply.reply ≡ true
    → (turned_at s run place).reply ≡ without_data (reply.Pending run)
turned_at_of_more s run None left = absurd (false≢true left)
turned_at_of_more s run (Some place) left = taken_of_more s run place place.turns left

-- ---- turns

after_first : (more run : ℕ) (s : State) (left : Bool) → has_turns_left (turned s run).reply.reply ≡ left
    → AreOneByOne more run (turned s run).state → AreOneByOne (suc more) run s
after_first more run s false is later =
    let same : turned_on (suc more) s run ≡ turned s run =
    ap (λ (left : Bool). cond left (turned_on more (turned s run).state run) (turned s run)) is in
    record {
      given = 0;
      within = omega arith;
      state = ap (λ (h : Happening). h.state) same;
      replies = ap (λ (h : Happening). h.reply ∷ []) (sym same);
      all = inr (ap (λ (h : Happening). has_turns_left h.reply.reply) same ∙ is);
    }
after_first more run s true is later =
    let same : turned_on (suc more) s run ≡ turned_on more (turned s run).state run =
    ap (λ (left : Bool). cond left (turned_on more (turned s run).state run) (turned s run)) is in
    let pending : ReplyWithData = without_data (reply.Pending run) in
    let others = replies_to_turns (replicate (suc later.given) run) (turned s run).state in
    record {
      given = suc later.given;
      within = omega (arith, later.within);
      state = ap (λ (h : Happening). h.state) same ∙ later.state;
      replies =
          ap (λ (r : ReplyWithData). r ∷ others) (turned_at_of_more s run (place_at s run) is)
          ∙ ap (λ (rs : List ReplyWithData). pending ∷ rs) later.replies
          ∙ ap (λ (h : Happening). replicate (suc later.given) pending ++ h.reply ∷ []) (sym same);
      all =
          ⊎_elim (λ whole. inl (ap (λ (n : ℕ). suc n) whole))
          (λ ended. inr (ap (λ (h : Happening). has_turns_left h.reply.reply) same ∙ ended)) later.all;
    }

pub one_by_one : (more run : ℕ) (s : State) → AreOneByOne more run s
one_by_one zero run s = record { given = 0; within = omega arith; state = refl; replies = refl; all = inl refl }
one_by_one (suc more) run s = after_first more run s (has_turns_left (turned s run).reply.reply) refl (one_by_one more run (turned s run).state)
