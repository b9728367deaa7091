-- Turns and requests that are done before what answers them is written.
use Rattle.std.specs.Prelude.{ℕ, Bool, true, false, ◌≡◌, ◌+◌, ◌++◌, if◌then◌else◌, List, [], ◌∷◌, get_or}
use Rattle.device_events.specs.declared.event.Event.TheVariants as event
use Rattle.device_meaning.specs.Events.{HasServed}
use Rattle.device_meaning.specs.Judging.{interval_judge}
use Rattle.device_meaning.specs.State.{State}
use Rattle.device_serve.specs.FrameStream.{HasNone, TookTurns}

-- a turn was given; its reply was answered, unless no run has the number, which doesn't count; a turn starts no run
pub record GaveTurn (run : ℕ) (was : Bool) (old new : State) (before after : List ℕ) : Type 0 where
  pub served : (count : ℕ)
      → HasServed interval_judge (event.Turn run ∷ []) old new (TookTurns (before, count) (after, if was then count + 1 else count))
  pub none : was ≡ false → (new ≡ old) × HasNone old run
  pub starts_none : (n : ℕ) → HasNone old n → HasNone new n

-- no run has a number that is marked
abbrev pub AreFree : List Bool → State → Type 0
AreFree marks s = (n : ℕ) → get_or marks n false ≡ true → HasNone s n

-- bytes were added to an answer
abbrev pub HasGrown : List ℕ → List ℕ → Type 0
HasGrown before after = (bytes : List ℕ) × (after ≡ before ++ bytes)
