-- A turn of a run, as an event.
use Rattle.std.proofs.Common.{ℕ, ◌≡◌, List, [], ◌∷◌, Option, Some, None, false, ap, refl, sym, take, ◌∙◌}
use Rattle.device_events.specs.Replies.{ReplyWithData, data_length, without_data}
use Rattle.device_events.specs.declared.event.Event.TheVariants as event
use Rattle.device_events.specs.declared.reply.Reply.{Reply}
use Rattle.device_meaning.specs.Happenings.{take_turn, turn_reply, turned, turned_at}
use Rattle.device_meaning.specs.Outcome.{Ending, Turn}
use Rattle.device_meaning.specs.State.{Place, State, place_at}
use Rattle.runner.specs.Turns.{turned_on}
use Rattle.device_library.specs.Events.{Happens}
use Rattle.device_library.specs.declared.numbers.TheConstants.{TURN}

-- ---- no data goes with its reply

reply_alone : (run : ℕ) (place : Place) (ending : Option Ending) → turn_reply run place ending ≡ without_data (turn_reply run place ending).reply
reply_alone run place None = refl
reply_alone run place (Some ending) = refl

taken_alone : (s : State) (run : ℕ) (place : Place) (turns : List Turn)
    → (take_turn s run place turns).reply ≡ without_data (take_turn s run place turns).reply.reply
taken_alone s run place [] = refl
taken_alone s run place (turn ∷ later) = reply_alone run place turn.ending

turned_at_alone : (s : State) (run : ℕ) (place : Option Place) → (turned_at s run place).reply ≡ without_data (turned_at s run place).reply.reply
turned_at_alone s run None = refl
turned_at_alone s run (Some place) = taken_alone s run place place.turns

turned_alone : (s : State) (run : ℕ) → (turned s run).reply ≡ without_data (turned s run).reply.reply
turned_alone s run = turned_at_alone s run (place_at s run)

-- ---- it is what a call for no more turns than one comes to

pub turn_happens : (entry input : List ℕ) (kind run : ℕ) (old new : State) (given : Reply) (out : List ℕ) → kind ≡ TURN
    → given ≡ (turned_on 0 old run).reply.reply → new ≡ (turned_on 0 old run).state → data_length given ≡ 0
    → Happens (record { kind = kind; number = run; entry = entry; input = input }) old new given out out
turn_happens entry input kind run old new given out is replied state none =
    let giving : List ℕ → ReplyWithData = λ bytes. record { reply = given; bytes = bytes } in
    record {
      event = event.Turn run;
      asked_for = (is, refl);
      happened = record {
        starved = false;
        state = state;
        replied = ap (λ (n : ℕ). giving (take n out)) none ∙ ap without_data replied ∙ sym (turned_alone old run);
      };
      rest = refl;
    }
