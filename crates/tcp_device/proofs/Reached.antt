-- What holds of a target from its beginning on, whatever is done with it and the device behind it.
use Rattle.std.proofs.Common.{◌≡◌, ℕ, true, false, cond, List, [], ◌∷◌, Option, None, Some, refl, ap, sym, subst}
use Rattle.std.specs.Prelude.{slice_index_or}
use Rattle.device_events.specs.declared.reply.Reply.{Reply}
use Rattle.device_events.specs.declared.reply.Reply.TheVariants as reply
use Rattle.tcp_connection.specs.declared.queue.Outcome.{Outcome}
use Rattle.tcp_connection.specs.Executing.{Execution}
use Rattle.tcp_target.specs.Places.{ready_at}
use Rattle.tcp_target.specs.QueueCommands.{given_by, given_to_device, is_for_device}
use Rattle.tcp_target.specs.Queues.{QueuesState, place_at}
use Rattle.tcp_target.specs.Commands.{served}
use Rattle.tcp_target.specs.Events.{closed, executed, handed_over, opened, received, run_ended, sent}
use Rattle.tcp_target.specs.Target.{TargetState}
use Rattle.tcp_target.specs.Time.{ticked}
use Rattle.tcp_device.specs.Deeds.{AreDone, Closed, Deed, Does, Opened, Received, Resumed, Sent, Served, Ticked, Turned}
use Rattle.tcp_device.specs.Outcome.{outcome_in}
use Rattle.tcp_device.specs.Served.{ResumesGiven, ServesGiven, TurnsGiven, completed_by, ended_by, ended_with, next_run}
use Rattle.tcp_device.specs.State.{CommandOfRun, ServedState}

-- the entry that goes to the device is that of the command which is ready
pub ready_given : (number : ℕ) (q : QueuesState) (execution : Execution) (found : Option Execution) → given_by found number q ≡ Some execution
    → found ≡ Some execution
ready_given number q execution None is = absurd cc
ready_given number q execution (Some other) is =
    elim (is_for_device number other.entry q) as (λ b. cond {A = Option Execution} b (Some other) None ≡ Some execution
    → ◌≡◌ {A = Option Execution} (Some other) (Some execution)) [ true ↦ (λ same. same) | false ↦ (λ none. absurd cc) ] is

-- what happens to a target leaves it so
pub record Stays (P : TargetState → Type 0) : Type 0 where
  pub opens : (t : TargetState) → P t → P (opened t)
  pub receives : (number : ℕ) (piece : List ℕ) (t : TargetState) → P t → P (received number piece t)
  pub serves : (number : ℕ) (t : TargetState) → P t → P (served number t)
  pub sends : (number count : ℕ) (t : TargetState) → P t → P (sent number count t)
  pub hands_over : (number : ℕ) (execution : Execution) (t : TargetState) → ready_at (place_at number t.queues) ≡ Some execution → P t
      → P (handed_over number t)
  pub executes : (number : ℕ) (entry : List ℕ) (outcome : Outcome) (bytes : List ℕ) (t : TargetState) → P t
      → P (executed number entry outcome bytes t)
  pub ends_run : (number command : ℕ) (outcome : Outcome) (t : TargetState) → P t → P (run_ended number command outcome t)
  pub closes : (number : ℕ) (t : TargetState) → P t → P (closed number t)
  pub ticks : (milliseconds : ℕ) (t : TargetState) → P t → P (ticked milliseconds t)

module _ (P : TargetState → Type 0) (stays : Stays P) where
  completes : (r : Reply) (bytes : List ℕ) (number : ℕ) (entry : List ℕ) (t : TargetState) → P t → P (completed_by r bytes number entry t)
  completes (reply.Complete queue completion length) bytes number entry t so = stays.executes number entry (outcome_in completion) bytes t so
  completes (reply.Pending run) bytes number entry t so = so
  completes reply.Idle bytes number entry t so = so
  completes reply.FaultTaken bytes number entry t so = so
  completes reply.FaultRefused bytes number entry t so = so

  ends_with : (command : Option CommandOfRun) (completion : List ℕ) (t : TargetState) → P t → P (ended_with command completion t)
  ends_with None completion t so = so
  ends_with (Some p) completion t so = stays.ends_run p.connection p.command (outcome_in completion) t so

  ends : (r : Reply) (command : Option CommandOfRun) (t : TargetState) → P t → P (ended_by r command t)
  ends (reply.Complete queue completion length) command t so = ends_with command completion t so
  ends (reply.Pending run) command t so = so
  ends reply.Idle command t so = so
  ends reply.FaultTaken command t so = so
  ends reply.FaultRefused command t so = so

  module _ (old new : ServedState) where
    -- where the target is another
    by : (t : TargetState) → new.target ≡ t → P t → P new.target
    by t is so = subst P (sym is) so

    serves : (number : ℕ) (given : Option Execution) → given_to_device number old.target.queues ≡ given → ServesGiven given number old new
        → P old.target → P new.target
    serves number None is done so = by _ (ap (λ (s : ServedState). s.target) done) (stays.serves number old.target so)
    serves number (Some execution) is done so =
        by _ (ap (λ (s : ServedState). s.target) done.rest)
        (completes done.reply.reply done.reply.bytes number execution.entry (handed_over number old.target)
        (stays.hands_over number execution old.target
        (ready_given number old.target.queues execution (ready_at (place_at number old.target.queues)) is) so))

    turns : (run : Option ℕ) → TurnsGiven run old new → P old.target → P new.target
    turns None done so = by _ (ap (λ (s : ServedState). s.target) done) so
    turns (Some run) done so = by _ (ap (λ (s : ServedState). s.target) done.rest) (ends done.reply.reply _ old.target so)

    resumes : (command : Option CommandOfRun) (run : ℕ) → ResumesGiven command run old new → P old.target → P new.target
    resumes None run done so = by _ (ap (λ (s : ServedState). s.target) done.rest) so
    resumes (Some command) run done so = by _ (ap (λ (s : ServedState). s.target) done) so

    does : (deed : Deed) → Does deed old new → P old.target → P new.target
    does Opened done so = by _ (ap (λ (s : ServedState). s.target) done) (stays.opens old.target so)
    does (Received number piece) done so = by _ (ap (λ (s : ServedState). s.target) done) (stays.receives number piece old.target so)
    does (Sent number count) done so = by _ (ap (λ (s : ServedState). s.target) done) (stays.sends number count old.target so)
    does (Closed number) done so = by _ (ap (λ (s : ServedState). s.target) done) (stays.closes number old.target so)
    does (Ticked milliseconds) done so = by _ (ap (λ (s : ServedState). s.target) done) (stays.ticks milliseconds old.target so)
    does (Served number) done so = serves number (given_to_device number old.target.queues) refl done so
    does Turned done so = turns (next_run old) done so
    does (Resumed run) done so = resumes (slice_index_or old.pending run None) run done so

  pub reached : (deeds : List Deed) (old new : ServedState) → AreDone deeds old new → P old.target → P new.target
  reached [] old new done so = by old new old.target (ap (λ (s : ServedState). s.target) done) so
  reached (deed ∷ deeds) old new done so = does done.between new deed done.last (reached deeds old done.between done.first so)
