-- The words for states, faults and actions, which a user reads and writes (profile).
use Rattle.std.specs.Prelude.{ℕ, List, codes}
use Rattle.zone_state.specs.declared.action.Action.{Action}
use Rattle.zone_state.specs.declared.action.Action.TheVariants as action
use Rattle.zone_state.specs.Zone.{state_of_fault}
use Rattle.zone_state.specs.declared.state.FaultState.{FaultState}
use Rattle.zone_state.specs.declared.state.ZoneState.{ZoneState}
use Rattle.zone_state.specs.declared.state.ZoneState.TheVariants as state

-- one word for a state
abbrev pub state_word : ZoneState → List ℕ
state_word state.Empty = codes "empty"
state_word state.ImplicitlyOpened = codes "implicit"
state_word state.ExplicitlyOpened = codes "explicit"
state_word state.Closed = codes "closed"
state_word state.ReadOnly = codes "readonly"
state_word state.Full = codes "full"
state_word state.Offline = codes "offline"

-- one for a fault: that of the state to which it takes a zone
abbrev pub fault_word : FaultState → List ℕ
fault_word fault = state_word (state_of_fault fault)

-- and one for an action
abbrev pub action_word : Action → List ℕ
action_word action.Close = codes "close"
action_word action.Finish = codes "finish"
action_word action.Open = codes "open"
action_word action.Reset = codes "reset"
action_word action.Offline = codes "offline"
