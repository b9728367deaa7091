-- What holds of the queues of a target.
use Rattle.std.specs.Prelude.{ℕ, ◌≡◌, ◌≢◌, Bool, true, List, Option, Some}
use Rattle.tcp_connection.specs.declared.queue.Outcome.{Outcome}
use Rattle.tcp_connection.specs.Executing.{Execution, ready}
use Rattle.tcp_target.specs.declared.connect_request.ConnectRequest.{ConnectRequest}
use Rattle.tcp_target.specs.Associations.{is_live}
use Rattle.tcp_target.specs.Queues.{QueuesState, place_at, received_at, sent_at}
use Rattle.tcp_target.specs.QueueCommands.{answered, connected, executed_at, given_to_device, handed_over_at, kept_at, run_ended_at}
use Rattle.tcp_target.specs.Ends.{closed_at, controller_ended, readied_at}

-- all connections but one are as they were: what has come on them, and what is to be sent
abbrev pub OthersAreSame : ℕ → QueuesState → QueuesState → Type 0
OthersAreSame number old new = (other : ℕ) → other ≢ number → place_at other new ≡ place_at other old

-- what happens on one connection leaves all others as they were
pub record OthersStay : Type 0 where
  pub receives : (number : ℕ) (piece : List ℕ) (s : QueuesState) → OthersAreSame number s (received_at number piece s)
  pub sends : (number count : ℕ) (s : QueuesState) → OthersAreSame number s (sent_at number count s)
  pub connects : (number command : ℕ) (request : ConnectRequest) (nqn : List ℕ) (s : QueuesState)
      → OthersAreSame number s (connected number command request nqn s)
  pub answers : (number command : ℕ) (outcome : Outcome) (bytes : List ℕ) (s : QueuesState)
      → OthersAreSame number s (answered number command outcome bytes s)
  pub keeps : (number : ℕ) (s : QueuesState) → OthersAreSame number s (kept_at number s)
  pub hands_over : (number : ℕ) (s : QueuesState) → OthersAreSame number s (handed_over_at number s)
  pub executes : (number : ℕ) (entry : List ℕ) (outcome : Outcome) (bytes : List ℕ) (s : QueuesState)
      → OthersAreSame number s (executed_at number entry outcome bytes s)
  pub ends_run : (number command : ℕ) (outcome : Outcome) (s : QueuesState) → OthersAreSame number s (run_ended_at number command outcome s)
  pub closes : (number : ℕ) (s : QueuesState) → OthersAreSame number s (closed_at number s)

-- and what happens to controllers changes no place at all
pub record PlacesStay : Type 0 where
  pub readies : (id : ℕ) (ready : Bool) (s : QueuesState) → (readied_at id ready s).places ≡ s.places
  pub ends : (id : ℕ) (s : QueuesState) → (controller_ended id s).places ≡ s.places

-- an entry that goes to the device is that of the command which is ready on the connection, with all of its data, and the connection
-- has an I/O queue of a controller that is ready
pub record IsLiveAndReady (number : ℕ) (s : QueuesState) (execution : Execution) : Type 0 where
  pub live : is_live number s.associations ≡ true
  pub command : ready (place_at number s).connection ≡ Some execution

abbrev pub GivenAreLive : Type 0
GivenAreLive =
    (number : ℕ) (s : QueuesState) (execution : Execution) → given_to_device number s ≡ Some execution → IsLiveAndReady number s execution
