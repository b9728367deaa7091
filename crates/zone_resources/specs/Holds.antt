-- The zones that active runs use, and what is refused there (profile).
use Rattle.std.specs.Prelude.{ℕ, ◌≡◌, Bool, true, false, Option, Some, None, ◌==◌, ◌||◌, ◌&&◌, get_or, replicate}
use Rattle.std.specs.List.{list_any}
use Rattle.std.specs.Option.{option_eq}
use Rattle.zone_resources.specs.declared.holds.Holds.{Holds}
use Rattle.zone_resources.specs.declared.holds.TheConstants.{RUNS}
use Rattle.zone_state.specs.declared.action.Action.{Action}
use Rattle.zone_state.specs.declared.action.Action.TheVariants as action

-- is the zone the one with this number, if there is a number?
abbrev pub names : ℕ → Option ℕ → Bool
names zone held = option_eq (λ a b. a == b) held (Some zone)

-- does a run read from this zone?
abbrev pub is_source : Holds → ℕ → Bool
is_source holds zone = list_any (names zone) holds.sources

-- does a run append to it?
abbrev pub is_destination : Holds → ℕ → Bool
is_destination holds zone = list_any (names zone) holds.destinations

-- does a run use it?
abbrev pub is_held : Holds → ℕ → Bool
is_held holds zone = is_source holds zone || is_destination holds zone

-- does the action forget the blocks of a zone that it is taken on? (ZNS 1.1, 3.4.3)
abbrev pub forgets : Action → Bool
forgets action.Reset = true
forgets action.Offline = true
forgets _ = false

-- is the zone held against the action?
abbrev pub refuses : Holds → Action → ℕ → Bool
refuses holds action zone = is_destination holds zone || (forgets action && is_source holds zone)

-- the holds of no run
abbrev pub no_holds : Holds
no_holds = record { sources = replicate RUNS None; destinations = replicate RUNS None }

-- a run appends to the zone
abbrev pub IsAppendedTo : Holds → ℕ → Type 0
IsAppendedTo holds zone = (run : ℕ) × (get_or holds.destinations run None ≡ Some zone)

-- a run reads from the zone
abbrev pub IsReadFrom : Holds → ℕ → Type 0
IsReadFrom holds zone = (run : ℕ) × (get_or holds.sources run None ≡ Some zone)

-- a zone that a run appends to is held against every action; one that runs only read from against those that
-- forget its blocks, and against no others; and one that no run uses against none. Where no run is, no zone is used
pub record HoldsRefuse : Type 0 where
  pub destination : (holds : Holds) (a : Action) (zone : ℕ) → IsAppendedTo holds zone → refuses holds a zone ≡ true
  pub source : (holds : Holds) (zone : ℕ) → IsReadFrom holds zone
      → (refuses holds action.Reset zone ≡ true) × (refuses holds action.Offline zone ≡ true)
  pub read : (holds : Holds) (a : Action) (zone : ℕ) → ¬ IsAppendedTo holds zone → forgets a ≡ false → refuses holds a zone ≡ false
  pub free : (holds : Holds) (a : Action) (zone : ℕ) → ¬ IsAppendedTo holds zone → ¬ IsReadFrom holds zone → refuses holds a zone ≡ false
  pub none : (zone : ℕ) → (¬ IsAppendedTo no_holds zone) × (¬ IsReadFrom no_holds zone)
