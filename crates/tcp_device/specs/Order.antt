-- The order in which a device gets the commands of a connection (NVMe Base 2.0, 3.3.3).
use Rattle.std.specs.Prelude.{ℕ, ◌≡◌, Bool, ◌==◌, List, [], ◌∷◌, ◌++◌, map, Option, Some, None, if◌then◌else◌}
use Rattle.std.specs.List.{filter}
use Rattle.device_events.specs.declared.event.Event.{Event}
use Rattle.device_events.specs.declared.event.Event.TheVariants as event
use Rattle.device_meaning.specs.State.{State}
use Rattle.tcp_admin.specs.declared.subsystem.NamespaceFormat.{NamespaceFormat}
use Rattle.tcp_admin.specs.declared.subsystem.Subsystem.{Subsystem}
use Rattle.tcp_connection.specs.Executing.{Execution}
use Rattle.tcp_connection.specs.Order.{GoInOrder}
use Rattle.tcp_target.specs.declared.role.Role.TheVariants.{Io}
use Rattle.tcp_target.specs.Associations.{role_at}
use Rattle.tcp_target.specs.Places.{PlaceState, ready_at}
use Rattle.tcp_target.specs.PlaceOrder.{brought_at}
use Rattle.tcp_target.specs.QueueCommands.{is_for_device}
use Rattle.tcp_target.specs.Queues.{QueuesState, place_at}
use Rattle.tcp_device.specs.Deeds.{AreDone, Closed, Deed, Opened, Received, Resumed, Sent, Served, Ticked, Turned, events_of}
use Rattle.tcp_device.specs.State.{ServedState, begun_on}

abbrev pub place_of : ℕ → ServedState → PlaceState
place_of number s = place_at number s.target.queues

-- ---- what came

-- the entries of the capsules that a deed brings on the connection with a number
abbrev pub came_by : ℕ → Deed → ServedState → List (List ℕ)
came_by number Opened s = []
came_by number (Received other piece) s = if other == number then brought_at piece (place_of other s) else []
came_by number (Sent other count) s = []
came_by number (Closed other) s = []
came_by number (Ticked milliseconds) s = []
came_by number (Served other) s = []
came_by number Turned s = []
came_by number (Resumed run) s = []

abbrev pub came_on : (number : ℕ) (deeds : List Deed) (old new : ServedState) → AreDone deeds old new → List (List ℕ)
came_on number [] old new done = []
came_on number (deed ∷ deeds) old new done = came_on number deeds old done.between done.first ++ came_by number deed done.between

-- ---- what went

-- the entry of a command that went, and whether it went to the device; if not, the target has answered it
pub record Departure : Type 0 where
  pub entry : List ℕ
  pub is_given : Bool

abbrev pub departure : Option Execution → ℕ → QueuesState → List Departure
departure None number s = []
departure (Some execution) number s = record { entry = execution.entry; is_given = is_for_device number execution.entry s } ∷ []

-- the command that is ready goes where its connection is served
abbrev pub went_by : ℕ → Deed → ServedState → List Departure
went_by number Opened s = []
went_by number (Received other piece) s = []
went_by number (Sent other count) s = []
went_by number (Closed other) s = []
went_by number (Ticked milliseconds) s = []
went_by number (Served other) s = if other == number then departure (ready_at (place_of other s)) other s.target.queues else []
went_by number Turned s = []
went_by number (Resumed run) s = []

abbrev pub went_on : (number : ℕ) (deeds : List Deed) (old new : ServedState) → AreDone deeds old new → List Departure
went_on number [] old new done = []
went_on number (deed ∷ deeds) old new done = went_on number deeds old done.between done.first ++ went_by number deed done.between

abbrev pub entries : List Departure → List (List ℕ)
entries those = map (λ d. d.entry) those

abbrev pub given : List Departure → List Departure
given those = filter (λ d. d.is_given) those

-- ---- what the device got

-- the entry of a submission to the queue with a number
abbrev pub submitted_by : ℕ → Event → List (List ℕ)
submitted_by number (event.Submit queue entry input) = if queue == number then entry ∷ [] else []
submitted_by number (event.Turn run) = []
submitted_by number (event.Fault zone state) = []

abbrev pub submitted_to : ℕ → List Event → List (List ℕ)
submitted_to number [] = []
submitted_to number (one ∷ later) = submitted_by number one ++ submitted_to number later

-- ---- their order

-- the connection has this I/O queue of this controller as long as these deeds last
abbrev pub HasQueue : (number id queue : ℕ) (deeds : List Deed) (old new : ServedState) → AreDone deeds old new → Type 0
HasQueue number id queue [] old new done = role_at number new.target.queues.associations ≡ Io id queue
HasQueue number id queue (deed ∷ deeds) old new done =
    HasQueue number id queue deeds old done.between done.first × (role_at number new.target.queues.associations ≡ Io id queue)

-- the commands that went on a connection are the first of those that waited and of those that came, in the order of their capsules,
-- each once; and the device got just those of them that were for it, in this order
pub record IsInOrder (number : ℕ) (deeds : List Deed) (old new : ServedState) (done : AreDone deeds old new) : Type 0 where
  pub order : GoInOrder (entries (went_on number deeds old new done)) (came_on number deeds old new done)
      (place_of number old).connection (place_of number new).connection
  pub submitted : submitted_to number (events_of deeds old new done) ≡ entries (given (went_on number deeds old new done))

-- so it is on each connection as long as it has an I/O queue, in every state that deeds lead to from the beginning
abbrev pub CommandsAreInOrder : Type 0
CommandsAreInOrder =
    (device : State) (subsystem : Subsystem) (format : NamespaceFormat) (before deeds : List Deed) (old new : ServedState)
    → AreDone before (begun_on device subsystem format) old → (done : AreDone deeds old new) (number id queue : ℕ)
    → HasQueue number id queue deeds old new done → IsInOrder number deeds old new done
