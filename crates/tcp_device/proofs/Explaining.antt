-- The deeds of a loop as those of a target before a device.
use Rattle.std.proofs.Common.{ℕ, zero, suc, ◌≡◌, true, false, List, [], ◌∷◌, refl, ap}
use Rattle.durable_device.specs.Kept.{StandsFor}
use Rattle.tcp_device.specs.Answering.{CommandsAreAnswered}
use Rattle.tcp_device.specs.Deeds.{AreDone}
use Rattle.tcp_device.specs.Laws.{DeedsAreEvents}
use Rattle.tcp_device.specs.Order.{CommandsAreInOrder}
use Rattle.tcp_device.specs.Rounds.{NextIsAnswered}
use Rattle.tcp_device.specs.State.{ServedState}
use Rattle.tcp_device.specs.Waiting.{RunsGoOn}
use Rattle.tcp_loop.specs.Deeds.{Closed, Deed, Opened, Received, Resumed, Sent, Served, Ticked, Turned}
use Rattle.tcp_loop.specs.Deeds as loop
use Rattle.tcp_loop.specs.Law.{AreUnanswered, sends, state_before}
use Rattle.tcp_device.specs.Explained.{DevicesAreExplained, HasAllAnswered, MemoriesAreExplained, is_silent}
use Rattle.tcp_device.proofs.RoundsAnswer.{rounds_answer}
use Rattle.tcp_device.specs.LoopMeaning.{deed_of, deeds_of, in_memory, kept_in_file}

-- what a loop does with a target before a device is done
pub are_done : (deeds : List Deed) (old new : ServedState) → loop.AreDone kept_in_file deeds old new → AreDone (deeds_of deeds) old new
are_done [] old new done = done
are_done (deed ∷ deeds) old new done = record { between = done.between; first = are_done deeds old done.between done.first; last = done.last.1 }

are_done_in_memory : (deeds : List Deed) (old new : ServedState) → loop.AreDone in_memory deeds old new → AreDone (deeds_of deeds) old new
are_done_in_memory [] old new done = done
are_done_in_memory (deed ∷ deeds) old new done =
    record { between = done.between; first = are_done_in_memory deeds old done.between done.first; last = done.last.1 }

silent : (deed : Deed) → sends deed ≡ false → is_silent (deed_of deed) ≡ true
silent (Opened number) none = refl
silent (Received number piece count) none = refl
silent (Sent number count) none = absurd cc
silent (Closed number) none = refl
silent (Ticked milliseconds) none = refl
silent (Served number) none = refl
silent Turned none = refl
silent (Resumed run) none = refl

module _ (events : DeedsAreEvents) (answers : CommandsAreAnswered) (next_answered : NextIsAnswered) (go_on : RunsGoOn) where
  -- a file that stands for the state before the last so many deeds
  has_all : (c : List ℕ) (missing : ℕ) (deeds : List Deed) (old new : ServedState) (done : loop.AreDone kept_in_file deeds old new)
      → AreUnanswered missing deeds → StandsFor c (state_before kept_in_file missing deeds old new done).device → HasAllAnswered c (deeds_of deeds) old new
  has_all c zero deeds old new done unanswered stands = record {
    later = [];
    earlier = deeds_of deeds;
    parts = refl;
    silent = tt;
    between = new;
    first = are_done deeds old new done;
    last = refl;
    did = events (deeds_of deeds) old new (are_done deeds old new done);
    stands = stands;
  }
  has_all c (suc n) [] old new done unanswered stands = record {
    later = [];
    earlier = [];
    parts = refl;
    silent = tt;
    between = old;
    first = refl;
    last = done;
    did = events [] old old refl;
    stands = stands;
  }
  has_all c (suc n) (deed ∷ deeds) old new done unanswered stands =
      let rest : HasAllAnswered c (deeds_of deeds) old done.between = has_all c n deeds old done.between done.first unanswered.1 stands in
      record {
        later = deed_of deed ∷ rest.later;
        earlier = rest.earlier;
        parts = ap (λ l. deed_of deed ∷ l) rest.parts;
        silent = (silent deed unanswered.0, rest.silent);
        between = rest.between;
        first = rest.first;
        last = record { between = done.between; first = rest.last; last = done.last.1 };
        did = rest.did;
        stands = rest.stands;
      }

  pub explained : CommandsAreInOrder → DevicesAreExplained
  explained in_order device subsystem format opened trace is = record {
    explained = is;
    done = are_done is.deeds _ is.new is.done;
    did = events (deeds_of is.deeds) _ is.new (are_done is.deeds _ is.new is.done);
    in_order = λ later earlier between parts first done number id queue has. in_order device subsystem format earlier later between is.new first done number id queue has;
    answered = rounds_answer answers next_answered go_on trace is.attended.rounds is.attended.each;
    left = λ c now. (let answered = is.left c now in has_all c answered.missing is.deeds _ is.new is.done answered.unanswered answered.stands);
  }

  pub explained_in_memory : CommandsAreInOrder → MemoriesAreExplained
  explained_in_memory in_order device subsystem format opened trace is = record {
    explained = is;
    done = are_done_in_memory is.deeds _ is.new is.done;
    did = events (deeds_of is.deeds) _ is.new (are_done_in_memory is.deeds _ is.new is.done);
    in_order = λ later earlier between parts first done number id queue has. in_order device subsystem format earlier later between is.new first done number id queue has;
    answered = rounds_answer answers next_answered go_on trace is.attended.rounds is.attended.each;
  }
