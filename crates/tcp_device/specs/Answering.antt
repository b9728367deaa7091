-- Each command that is ready on a connection is answered by the next service of that connection, whatever other hosts do.
use Rattle.std.specs.Prelude.{ℕ, ◌≡◌, ◌==◌, Bool, true, false, List, [], ◌∷◌, ◌++◌, length, Option, None, Some, slice_index_or}
use Rattle.std.specs.List.{list_any}
use Rattle.device_events.specs.declared.reply.Reply.{Reply}
use Rattle.device_events.specs.declared.reply.Reply.TheVariants as reply
use Rattle.device_meaning.specs.State.{State}
use Rattle.tcp_pdus.specs.Direction.{identifier_of}
use Rattle.tcp_admin.specs.declared.subsystem.NamespaceFormat.{NamespaceFormat}
use Rattle.tcp_admin.specs.declared.subsystem.Subsystem.{Subsystem}
use Rattle.tcp_admin.specs.Admin.{response}
use Rattle.tcp_admin.specs.declared.answer.Answer.TheVariants.{Kept}
use Rattle.tcp_target.specs.declared.role.Role.TheVariants.{Admin}
use Rattle.tcp_target.specs.Associations.{role_at}
use Rattle.tcp_connection.specs.declared.queue.Outcome.{Outcome}
use Rattle.tcp_connection.specs.declared.queue.Phase.TheVariants.{Open}
use Rattle.tcp_connection.specs.declared.queue.Queue.{Queue}
use Rattle.tcp_connection.specs.Commands.{is_running}
use Rattle.tcp_connection.specs.Executing.{Execution, data_sent, waiting_ready}
use Rattle.tcp_connection.specs.Sending.{completion}
use Rattle.tcp_target.specs.QueueCommands.{given_to_device, result_of}
use Rattle.tcp_target.specs.Places.{PlaceState}
use Rattle.tcp_target.specs.Ready.{is_ready}
use Rattle.tcp_target.specs.Target.{controller_at}
use Rattle.tcp_device.specs.Deeds.{AreDone, Closed, Deed, Does, Served, Turned}
use Rattle.tcp_device.specs.Order.{place_of}
use Rattle.tcp_device.specs.Outcome.{outcome_in}
use Rattle.tcp_device.specs.Served.{ServesGiven, TurnsGiven, next_run}
use Rattle.tcp_device.specs.State.{CommandOfRun, ServedState, begun_on}

-- ---- the command that is next

-- a host has the connection, which is initialized, and this is the first of the commands that wait there; all of its data has come
pub record IsNext (execution : Execution) (p : PlaceState) : Type 0 where
  pub is_open : p.is_open ≡ true
  pub alignment : ℕ
  pub initialized : p.connection.phase ≡ Open alignment
  pub ready : waiting_ready p.connection ≡ Some execution

-- a deed serves the connection with a number, or closes it
abbrev pub serves : ℕ → Deed → Bool
serves number (Served other) = other == number
serves number _ = false

abbrev pub closes : ℕ → Deed → Bool
closes number (Closed other) = other == number
closes number _ = false

-- deeds of which one serves a connection: before the first that does, and after it; that one meets this command
pub record IsMet (number : ℕ) (execution : Execution) (deeds : List Deed) (old new : ServedState) : Type 0 where
  pub earlier : List Deed
  pub later : List Deed
  pub before : ServedState
  pub after : ServedState
  pub parts : deeds ≡ later ++ Served number ∷ earlier
  pub first : list_any (serves number) earlier ≡ false
  pub led : AreDone earlier old before
  pub next : IsNext execution (place_of number before)
  pub served : Does (Served number) before after
  pub leads : AreDone later after new

-- ---- its answer

-- at a place more is to be sent than before: last the data of a command, if it has some, and its completion
pub record IsCompleted (command : ℕ) (outcome : Outcome) (bytes : List ℕ) (old new : PlaceState) : Type 0 where
  pub before : List ℕ
  pub alignment : ℕ
  pub queue : Queue
  pub head : ℕ
  pub sent : new.unsent ≡ old.unsent ++ (before ++ (data_sent alignment command bytes ++ completion queue head command outcome))

-- the command of a run is executed on an open connection that is initialized
pub record IsAwaited (command : ℕ) (p : PlaceState) : Type 0 where
  pub is_open : p.is_open ≡ true
  pub alignment : ℕ
  pub initialized : p.connection.phase ≡ Open alignment
  pub executed : is_running command p.connection.commands ≡ true

-- by the reply of the device, a command is completed, or it is kept with the number of its run; no other reply is given to a command
abbrev pub IsAnswered : Reply → List ℕ → (number : ℕ) → Execution → (old new : ServedState) → Type 0
IsAnswered (reply.Complete queue completion length) bytes number execution old new =
    let r = result_of execution.entry (outcome_in completion) bytes in
    IsCompleted (identifier_of execution.entry) r.0 r.1 (place_of number old) (place_of number new)
IsAnswered (reply.Pending run) bytes number execution old new =
    let c = identifier_of execution.entry in
    (slice_index_or new.pending run None ≡ Some (record { connection = number; command = c })) × IsAwaited c (place_of number new)
IsAnswered reply.Idle bytes number execution old new = ⊥
IsAnswered reply.FaultTaken bytes number execution old new = ⊥
IsAnswered reply.FaultRefused bytes number execution old new = ⊥

-- the target completes it, or keeps it, on an admin queue: an Asynchronous Event Request, as no event is reported
pub data IsExecuted (number : ℕ) (execution : Execution) (old new : ServedState) : Type 0 where
  is_completed : (outcome : Outcome) (bytes : List ℕ)
      → IsCompleted (identifier_of execution.entry) outcome bytes (place_of number old) (place_of number new)
      → IsExecuted number execution old new
  is_kept : (id : ℕ) → role_at number old.target.queues.associations ≡ Admin id
      → (response execution.entry old.target.subsystem old.target.format (controller_at id old.target)).answer ≡ Kept
      → IsExecuted number execution old new

-- it goes to the device, if it is for it, and to no other; or the target executes it
abbrev pub IsDone : (given : Option Execution) (number : ℕ) (execution : Execution) (old new : ServedState)
    → ServesGiven given number old new → Type 0
IsDone None number execution old new done = IsExecuted number execution old new
IsDone (Some given) number execution old new done =
    (given ≡ execution) × IsAnswered done.reply.reply done.reply.bytes number execution old new

-- ---- runs

-- where the device's reply to a turn is a completion, the command of the run is completed
abbrev pub IsEndedBy : Reply → CommandOfRun → (old new : ServedState) → Type 0
IsEndedBy (reply.Complete queue completion length) c old new =
    IsCompleted c.command (outcome_in completion) [] (place_of c.connection old) (place_of c.connection new)
IsEndedBy _ c old new = Unit {0}

abbrev pub IsTurned : (run : Option ℕ) → CommandOfRun → (old new : ServedState) → TurnsGiven run old new → Type 0
IsTurned None c old new done = Unit {0}
IsTurned (Some run) c old new done = slice_index_or old.pending run None ≡ Some c → IsEndedBy done.reply.reply c old new

-- ---- the law

-- the device has as many places for runs as the target has for their commands
abbrev pub HasPlaces : ServedState → Type 0
HasPlaces s = length s.device.places ≡ length s.pending

pub record CommandsAreAnswered : Type 0 where
  -- whatever else is done, also for other hosts, the command that is next on a connection stays next, with the same data
  pub stays : (number : ℕ) (execution : Execution) (deed : Deed) (old new : ServedState) → Does deed old new
      → serves number deed ≡ false → closes number deed ≡ false
      → IsNext execution (place_of number old) → IsNext execution (place_of number new)
  -- so the first deed that serves the connection meets it
  pub meets : (number : ℕ) (execution : Execution) (deeds : List Deed) (old new : ServedState) → AreDone deeds old new
      → list_any (serves number) deeds ≡ true → list_any (closes number) deeds ≡ false
      → IsNext execution (place_of number old) → IsMet number execution deeds old new
  -- and answers it, unless the connection is cut off, or its host has left more than 256 KiB unread
  pub answers : (number : ℕ) (execution : Execution) (old new : ServedState) → HasPlaces old
      → IsNext execution (place_of number old) → is_ready number old.target ≡ true → (done : Does (Served number) old new)
      → IsDone (given_to_device number old.target.queues) number execution old new done
  -- what a run completes is sent by the turn that ends it
  pub ends : (c : CommandOfRun) (old new : ServedState) → IsAwaited c.command (place_of c.connection old) → (done : Does Turned old new)
      → IsTurned (next_run old) c old new done
  pub begin_places : (device : State) (subsystem : Subsystem) (format : NamespaceFormat) → length device.places ≡ 8
      → HasPlaces (begun_on device subsystem format)
  pub stay_places : (deed : Deed) (old new : ServedState) → Does deed old new → HasPlaces old → HasPlaces new
