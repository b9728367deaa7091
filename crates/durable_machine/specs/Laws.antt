-- What is opened after a crash.
use Rattle.std.specs.Prelude.{◌≡◌, ◌⊎◌, ℕ, Bool, List}
use Rattle.stored_file.specs.File.{FileState, MayLeave}
use Rattle.durable_machine.specs.Files.{IsItsState, IsState, KeepsState}
use Rattle.durable_machine.specs.Refused.{IsDamaged}
use Rattle.durable_machine.specs.Restart.{MayBeLeft}
use Rattle.durable_machine.specs.Runs.{state_again}

module _ {S : Type 0} (loads : List ℕ → S → Type 0) (next : S → Bool → List ℕ → S) where
  -- of a file that a crash left while it was opened, the same machine is opened as before
  abbrev pub OpeningChangesNothing : Type 0
  OpeningChangesNothing =
      (file left : List ℕ) (first second : S)
      → IsItsState loads next file first → KeepsState loads next file left → IsItsState loads next left second → second ≡ first

  -- of one that an earlier program may have left, the same machine as of what was read of it, or that from before the last batch
  abbrev pub RestartsComeBack : Type 0
  RestartsComeBack =
      (file left : List ℕ) (first second : S)
      → IsItsState loads next file first → MayBeLeft loads next file left → IsItsState loads next left second
      → (second ≡ first) ⊎ ((batch : List (List ℕ)) × (first ≡ state_again next batch second))

  -- of each that a crash leaves now, this machine
  abbrev pub ComesBack : FileState → S → Type 0
  ComesBack file s = (left : List ℕ) (opened : S) → MayLeave file left → IsItsState loads next left opened → opened ≡ s

  -- what stands for a state, as all that a crash leaves, isn't damaged at any byte
  abbrev pub NoStateIsDamaged : Type 0
  NoStateIsDamaged = (file : List ℕ) (s : S) (n : ℕ) → IsState loads next file s → IsDamaged loads next n file → ⊥
