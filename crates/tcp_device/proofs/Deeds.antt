-- What deeds of a target do with its device.
use Rattle.std.proofs.Common.{◌≡◌, ◌⊎◌, ℕ, List, [], Option, None, Some, inl, inr, refl, sym, ap, subst}
use Rattle.std.specs.Prelude.{IfSome, slice_index_or}
use Rattle.std.specs.Option.{option_map}
use Rattle.device_events.specs.Replies.{ReplyWithData}
use Rattle.device_events.specs.declared.event.Event.TheVariants as event
use Rattle.device_events.specs.declared.reply.Reply.{Reply}
use Rattle.device_events.specs.declared.reply.Reply.TheVariants.{Idle}
use Rattle.device_meaning.specs.Events.{HasHappened}
use Rattle.device_meaning.specs.Judging.{interval_judge}
use Rattle.device_meaning.specs.State.{State}
use Rattle.runner.specs.Taken.{HasTaken}
use Rattle.tcp_connection.specs.Executing.{Execution}
use Rattle.tcp_target.specs.QueueCommands.{given_to_device}
use Rattle.tcp_device.specs.Deeds.{Does, DoesWith, Resumed, Served, Turned, reply_in, resumption_replies, submission_replies, turn_replies}
use Rattle.tcp_device.specs.Served.{ResumesGiven, ServesGiven, TurnsGiven, next_run}
use Rattle.tcp_device.specs.State.{CommandOfRun, ServedState}

-- ---- commands

-- the entry of the command that goes to the device, and its data
abbrev pub HasEntry : Option Execution → List ℕ → Type 0
HasEntry given entry = option_map (λ (e : Execution). e.entry) given ≡ Some entry

abbrev pub HasData : Option Execution → List ℕ → Type 0
HasData given input = IfSome given (λ (e : Execution). input ≡ e.data)

-- there is always some
abbrev pub its_data : Option Execution → List ℕ
its_data None = []
its_data (Some execution) = execution.data

pub has_data : (given : Option Execution) → HasData given (its_data given)
has_data None = tt
has_data (Some execution) = refl

-- an entry was submitted, and the device replied this
pub record WasSubmitted (queue : ℕ) (entry input : List ℕ) (old new : State) (reply : Reply) : Type 0 where
  pub given : ReplyWithData
  pub taken : HasTaken queue entry input old new given
  pub replied : given.reply ≡ reply

module _ (number : ℕ) (old new : ServedState) where
  leaves : (o : Option Execution) → option_map (λ (e : Execution). e.entry) o ≡ None → ServesGiven o number old new → new.device ≡ old.device
  leaves None none done = ap (λ (s : ServedState). s.device) done
  leaves (Some execution) none done = absurd (cc)

  -- a command that the target executes leaves it
  pub own_leaves : option_map (λ (e : Execution). e.entry) (given_to_device number old.target.queues) ≡ None → Does (Served number) old new
      → new.device ≡ old.device
  own_leaves none done = leaves (given_to_device number old.target.queues) none done

  module _ (entry input : List ℕ) (reply : Reply) where
    submits : (o : Option Execution) → HasEntry o entry → HasData o input → (done : ServesGiven o number old new)
        → reply_in (submission_replies o number old new done) ≡ reply → WasSubmitted number entry input old.device new.device reply
    submits None is data_is done replied = absurd (cc)
    submits (Some execution) is data_is done replied =
        let entry_is : execution.entry ≡ entry = cc in
        record {
          given = done.reply;
          taken =
              subst (λ (x : List ℕ). HasTaken number x input old.device new.device done.reply) entry_is
              (subst (λ (x : List ℕ). HasTaken number execution.entry x old.device new.device done.reply) (sym data_is) done.taken);
          replied = replied;
        }

    -- and another is submitted
    pub was_submitted : HasEntry (given_to_device number old.target.queues) entry → HasData (given_to_device number old.target.queues) input
        → DoesWith (Served number) old new reply → WasSubmitted number entry input old.device new.device reply
    was_submitted is data_is done = submits (given_to_device number old.target.queues) is data_is done.does done.replied

-- ---- turns

-- a run was given a turn, and the device replied this
pub record WasTurned (run : ℕ) (old new : State) (reply : Reply) : Type 0 where
  pub given : ReplyWithData
  pub happened : HasHappened interval_judge (event.Turn run) old new given
  pub replied : given.reply ≡ reply

-- where no run may have a turn, none is given
pub no_turn : (s : ServedState) → next_run s ≡ None → Does Turned s s
no_turn s none = subst (λ (o : Option ℕ). TurnsGiven o s s) (sym none) refl

module _ (run : ℕ) (old new : ServedState) (reply : Reply) where
  turns : (o : Option ℕ) → o ≡ Some run → (done : TurnsGiven o old new) → reply_in (turn_replies o old new done) ≡ reply
      → WasTurned run old.device new.device reply
  turns None is done replied = absurd (cc)
  turns (Some other) is done replied =
      let same : other ≡ run = cc in
      record {
        given = done.reply;
        happened = subst (λ (r : ℕ). HasHappened interval_judge (event.Turn r) old.device new.device done.reply) same done.happened;
        replied = replied;
      }

  pub was_turned : next_run old ≡ Some run → DoesWith Turned old new reply → WasTurned run old.device new.device reply
  was_turned is done = turns (next_run old) is done.does done.replied

  resumes : (o : Option CommandOfRun) (done : ResumesGiven o run old new) → reply_in (resumption_replies o run old new done) ≡ reply
      → ((new.device ≡ old.device) × (Idle ≡ reply)) ⊎ WasTurned run old.device new.device reply
  resumes None done replied = inr (record { given = done.reply; happened = done.happened; replied = replied })
  resumes (Some command) done idle = inl (ap (λ (s : ServedState). s.device) done, idle)

  -- one of whose command no connection waits is given one; where one waits, nothing happens
  pub was_resumed : DoesWith (Resumed run) old new reply
      → ((new.device ≡ old.device) × (Idle ≡ reply)) ⊎ WasTurned run old.device new.device reply
  was_resumed done = resumes (slice_index_or old.pending run None) done.does done.replied
