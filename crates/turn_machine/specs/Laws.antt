-- That what a run does is fixed when it is admitted: the machine that reads at its turn does the same, however long a turn waits.
use Rattle.std.specs.Prelude.{ℕ, ◌≡◌, ◌≢◌, List, map, Some}
use Rattle.std.specs.List.{AllByRecursion}
use Rattle.image_store.specs.Namespace.{ZonedNamespace}
use Rattle.device_meaning.specs.Beginning.{MayBegin}
use Rattle.device_meaning.specs.Events.{Occurrence, replies_to, state_after}
use Rattle.device_meaning.specs.Judging.{Judge}
use Rattle.device_meaning.specs.State.{State, new_state}
use Rattle.device_meaning.specs.View.{Active, seen}
use Rattle.device_events.specs.ToldEvents as told
use Rattle.turn_machine.specs.Machine.{Machine, machine_after, new_machine, replies_now, run_at, turn_now}

-- A machine that reads at its turn and a state that has turns correspond: the same namespace, the same slots, and at each
-- place the same run, of which the state has the turns that are left where the machine has how far it has come. These
-- turns are the rest of the run (`rest`) over the source blocks still to come, as they are now (`turns_of`).
pub record Corresponds (m : Machine) (s : State) : Type 0 where
  pub namespace : s.namespace ≡ m.namespace
  pub slots : s.slots ≡ m.slots
  pub places : s.places ≡ map (seen m.namespace m.slots) m.runs

module _ (judge : Judge) where
  -- both give the same replies to these events, and correspond after them
  pub record DoTheSame (ns : ZonedNamespace) (events : List Occurrence) : Type 0 where
    pub replies : replies_now judge events (new_machine ns) ≡ replies_to judge events (new_state ns)
    pub after : Corresponds (machine_after judge events (new_machine ns)) (state_after judge events (new_state ns))

-- from every namespace on, whatever events come and whoever judges programs, a machine that reads each block at its turn does what one does that fixes all
-- turns of a run when it is admitted
abbrev pub FixedAtAdmission : Type 0
FixedAtAdmission = (judge : Judge) (ns : ZonedNamespace) (events : List Occurrence) → DoTheSame judge ns events

-- however long a run waits, its next turn is the same: events that are no turns of its own leave it as far as it has come, and the
-- turn that it takes then is the one that it would have taken before them
abbrev pub TurnsMayWait : Type 0
TurnsMayWait =
    (judge : Judge) (ns : ZonedNamespace) (before after : List Occurrence) (run : ℕ) (a : Active)
    → let m = machine_after judge before (new_machine ns) in
    let later = machine_after judge after m in
    run_at m run ≡ Some a → AllByRecursion (λ o. o.event ≢ told.Turned run) after
    → (run_at later run ≡ Some a) × (turn_now later a ≡ turn_now m a)

-- ---- from any beginning

module _ (judge : Judge) where
  -- The machine that begins where a device may begin: with the namespace and the programs of the state, and with the runs that were
  -- kept, of each how far it had come (`MayBegin`, `WasBegun`). The state has the turns that are left of these runs.
  abbrev pub machine_from : (s : State) → MayBegin judge s → Machine
  machine_from s begins = record { namespace = s.namespace; slots = s.slots; runs = begins.runs }

  -- a machine and a state give the same replies to these events, and correspond after them
  pub record GoOnTheSame (m : Machine) (s : State) (events : List Occurrence) : Type 0 where
    pub replies : replies_now judge events m ≡ replies_to judge events s
    pub after : Corresponds (machine_after judge events m) (state_after judge events s)

-- from every state on that a device may begin with, also one that comes out of a journal with runs that were begun, whatever events
-- come and whoever judges programs, a machine that reads each block at its turn does what one does that has all turns of its runs
abbrev pub FixedFromAnyBeginning : Type 0
FixedFromAnyBeginning =
    (judge : Judge) (s : State) (begins : MayBegin judge s) (events : List Occurrence)
    → GoOnTheSame judge (machine_from judge s begins) s events

-- from there on, too, however long a run waits, one that was kept among them, its next turn is the same
abbrev pub TurnsMayWaitFromAnyBeginning : Type 0
TurnsMayWaitFromAnyBeginning =
    (judge : Judge) (s : State) (begins : MayBegin judge s) (before after : List Occurrence) (run : ℕ) (a : Active)
    → let m = machine_after judge before (machine_from judge s begins) in
    let later = machine_after judge after m in
    run_at m run ≡ Some a → AllByRecursion (λ o. o.event ≢ told.Turned run) after
    → (run_at later run ≡ Some a) × (turn_now later a ≡ turn_now m a)
