-- Queues and their connections: each queue has a connection of its own (NVMe Base 2.0, 6.3).
use Rattle.std.specs.Prelude.{ℕ, ◌≡◌, true, List, length, is_some}
use Rattle.tcp_admin.specs.declared.subsystem.NamespaceFormat.{NamespaceFormat}
use Rattle.tcp_admin.specs.declared.subsystem.Subsystem.{Subsystem}
use Rattle.tcp_connection.specs.declared.queue.Outcome.{Outcome}
use Rattle.tcp_target.specs.declared.associations.Associations.{Associations}
use Rattle.tcp_target.specs.declared.role.Role.TheVariants.{Admin, Io}
use Rattle.tcp_target.specs.Associations.{role_at}
use Rattle.tcp_target.specs.Table.{is_ready, with_id}
use Rattle.tcp_target.specs.Commands.{served}
use Rattle.tcp_target.specs.Events.{closed, executed, handed_over, opened, received, run_ended, sent}
use Rattle.tcp_target.specs.Target.{TargetState, begun}
use Rattle.tcp_target.specs.Time.{ticked}

-- no two connections have the admin queue of one controller, nor one of its I/O queues
pub record AreApart (s : Associations) : Type 0 where
  pub admin : (one other id : ℕ) → role_at one s ≡ Admin id → role_at other s ≡ Admin id → one ≡ other
  pub io : (one other id queue : ℕ) → role_at one s ≡ Io id queue → role_at other s ≡ Io id queue → one ≡ other

-- a queue that has a connection is one of a controller that there is, and an I/O queue one of a controller that is ready; identifiers
-- are below 5 (profile)
pub record AreOfControllers (s : Associations) : Type 0 where
  pub admin : (number id : ℕ) → role_at number s ≡ Admin id → is_some (with_id id s.controllers) ≡ true
  pub io : (number id queue : ℕ) → role_at number s ≡ Io id queue → is_ready id s.controllers ≡ true
  pub places : length s.controllers ≡ 5

pub record AreSound (s : Associations) : Type 0 where
  pub apart : AreApart s
  pub controllers : AreOfControllers s

abbrev pub HasQueuesApart : TargetState → Type 0
HasQueuesApart t = AreSound t.queues.associations

-- so it is from the beginning of a target on, whatever happens: in every state that it comes to
pub record QueuesStayApart : Type 0 where
  pub begins : (subsystem : Subsystem) (format : NamespaceFormat) → HasQueuesApart (begun subsystem format)
  pub opens : (t : TargetState) → HasQueuesApart t → HasQueuesApart (opened t)
  pub receives : (number : ℕ) (piece : List ℕ) (t : TargetState) → HasQueuesApart t → HasQueuesApart (received number piece t)
  pub serves : (number : ℕ) (t : TargetState) → HasQueuesApart t → HasQueuesApart (served number t)
  pub sends : (number count : ℕ) (t : TargetState) → HasQueuesApart t → HasQueuesApart (sent number count t)
  pub hands_over : (number : ℕ) (t : TargetState) → HasQueuesApart t → HasQueuesApart (handed_over number t)
  pub executes : (number : ℕ) (entry : List ℕ) (outcome : Outcome) (bytes : List ℕ) (t : TargetState)
      → HasQueuesApart t → HasQueuesApart (executed number entry outcome bytes t)
  pub ends_run : (number command : ℕ) (outcome : Outcome) (t : TargetState)
      → HasQueuesApart t → HasQueuesApart (run_ended number command outcome t)
  pub closes : (number : ℕ) (t : TargetState) → HasQueuesApart t → HasQueuesApart (closed number t)
  pub ticks : (milliseconds : ℕ) (t : TargetState) → HasQueuesApart t → HasQueuesApart (ticked milliseconds t)
