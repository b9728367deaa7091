-- The state of a device (profile): its namespace, its programs and its active runs.
use Rattle.std.specs.Prelude.{ℕ, Bool, false, ◌==◌, List, map, set, get_or, replicate, position, is_none, option_map, Option, Some, None}
use Rattle.std.specs.List.{list_any}
use Rattle.zone_resources.specs.declared.holds.Holds.{Holds}
use Rattle.zone_resources.specs.declared.holds.TheConstants.{RUNS}
use Rattle.nvme_entry.specs.declared.program_slot.TheConstants.{PROGRAM_SLOTS}
use Rattle.image_store.specs.Namespace.{ZonedNamespace}
use Rattle.device_meaning.specs.Admission.{Loaded}
use Rattle.device_meaning.specs.Outcome.{Turn}

-- an active run: the queue that its completion goes to and the command identifier that this repeats, the slot of
-- its program, the zones that it reads from and appends to, and the turns that are left of it
pub record Place : Type 0 where
  pub queue : ℕ
  pub cid : ℕ
  pub slot : ℕ
  pub source : ℕ
  pub destination : ℕ
  pub turns : List Turn

-- a namespace, the slots for programs, and the places for active runs, which the runs are numbered by
pub record State : Type 0 where
  pub namespace : ZonedNamespace
  pub slots : List (Option Loaded)
  pub places : List (Option Place)

-- a device that was just made
abbrev pub new_state : ZonedNamespace → State
new_state ns = record { namespace = ns; slots = replicate PROGRAM_SLOTS None; places = replicate RUNS None }

-- what is loaded in a slot
abbrev pub loaded_at : State → ℕ → Option Loaded
loaded_at s slot = get_or s.slots slot None

-- the run at a place
abbrev pub place_at : State → ℕ → Option Place
place_at s run = get_or s.places run None

-- the number of the lowest place that is free
abbrev pub free_place : State → Option ℕ
free_place s = position is_none s.places

-- ---- what the active runs hold

-- the zone that the run at a place reads from
abbrev pub source_of : Option Place → Option ℕ
source_of = option_map (λ place. place.source)

-- the zone that it appends to
abbrev pub destination_of : Option Place → Option ℕ
destination_of = option_map (λ place. place.destination)

-- the zones that the active runs read from and append to
abbrev pub holds_at : State → Holds
holds_at s = record { sources = map source_of s.places; destinations = map destination_of s.places }

-- does the run at a place use the program of this slot?
abbrev pub uses : ℕ → Option Place → Bool
uses slot None = false
uses slot (Some place) = place.slot == slot

-- does an active run use the program of a slot?
abbrev pub in_use : State → ℕ → Bool
in_use s slot = list_any (uses slot) s.places

-- ---- a state with one part changed

-- with this namespace
abbrev pub with_namespace : State → ZonedNamespace → State
with_namespace s ns = record { namespace = ns; slots = s.slots; places = s.places }

-- with this in a slot
abbrev pub with_slot : State → ℕ → Option Loaded → State
with_slot s slot loaded = record { namespace = s.namespace; slots = set s.slots slot loaded; places = s.places }

-- with this at a place
abbrev pub with_place : State → ℕ → Option Place → State
with_place s run place = record { namespace = s.namespace; slots = s.slots; places = set s.places run place }
