-- What goes to the device is the command that is ready, with its data.
use Rattle.std.proofs.Common.{◌≡◌, ℕ, List, Option, None, Some, IsTrue, refl, ap}
use Rattle.std.specs.Prelude.{is_some}
use Rattle.std.specs.Option.{option_map}
use Rattle.tcp_connection.specs.Executing.{Execution, data_of}
use Rattle.tcp_target.specs.Places.{ready_at}
use Rattle.tcp_target.specs.QueueCommands.{connect_data_at, given_by, given_to_device}
use Rattle.tcp_target.specs.QueueLaws.{GivenAreLive}
use Rattle.tcp_target.specs.Queues.{QueuesState, place_at}

-- an entry that goes to the device is that of a command which is ready
some_ready : (number : ℕ) (entry : List ℕ) (s : QueuesState) (r : Option Execution)
    → option_map (λ (e : Execution). e.entry) (given_by r number s) ≡ Some entry → IsTrue (is_some r)
some_ready number entry s None is = absurd (cc)
some_ready number entry s (Some execution) is = refl

pub given_ready : (number : ℕ) (entry : List ℕ) (s : QueuesState)
    → option_map (λ (e : Execution). e.entry) (given_to_device number s) ≡ Some entry → IsTrue (is_some (ready_at (place_at number s)))
given_ready number entry s is = some_ready number entry s (ready_at (place_at number s)) is

-- and its data is the connection's
pub data_given : GivenAreLive → (number : ℕ) (s : QueuesState) (execution : Execution) → given_to_device number s ≡ Some execution
    → connect_data_at number s ≡ execution.data
data_given live number s execution is = ap data_of (live number s execution is).command
