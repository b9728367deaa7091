-- What holds of targets.
use Rattle.std.specs.Prelude.{ℕ, List}
use Rattle.tcp_connection.specs.declared.queue.Outcome.{Outcome}
use Rattle.tcp_target.specs.QueueLaws.{OthersAreSame}
use Rattle.tcp_target.specs.Commands.{served}
use Rattle.tcp_target.specs.Events.{closed, executed, handed_over, received, run_ended, sent}
use Rattle.tcp_target.specs.Target.{TargetState}

-- what happens on one connection leaves what has come on all others, and what is to be sent on them, as it was
pub record ConnectionsStay : Type 0 where
  pub receives : (number : ℕ) (piece : List ℕ) (t : TargetState) → OthersAreSame number t.queues (received number piece t).queues
  pub serves : (number : ℕ) (t : TargetState) → OthersAreSame number t.queues (served number t).queues
  pub sends : (number count : ℕ) (t : TargetState) → OthersAreSame number t.queues (sent number count t).queues
  pub hands_over : (number : ℕ) (t : TargetState) → OthersAreSame number t.queues (handed_over number t).queues
  pub executes : (number : ℕ) (entry : List ℕ) (outcome : Outcome) (bytes : List ℕ) (t : TargetState)
      → OthersAreSame number t.queues (executed number entry outcome bytes t).queues
  pub ends_run : (number command : ℕ) (outcome : Outcome) (t : TargetState)
      → OthersAreSame number t.queues (run_ended number command outcome t).queues
  pub closes : (number : ℕ) (t : TargetState) → OthersAreSame number t.queues (closed number t).queues
