-- Which files aren't opened, and what a call leaves of them.
use Rattle.std.specs.Prelude.{◌≡◌, ◌<◌, ℕ, ◌+◌, Bool, List, ◌++◌, length}
use Rattle.stored_file.specs.File.{FileState, LeavesOnly}
use Rattle.stored_file.specs.declared.stored_file.FileError.TheVariants.{Memory, NoRoom, Failed}
use Rattle.durable_machine.specs.Journal.{IsDamagedAt}
use Rattle.durable_machine.specs.Files.{IsFront, IsState}
use Rattle.durable_machine.specs.Replay.{IsIdleAt}
use Rattle.durable_machine.specs.declared.fault.Fault.{Fault}
use Rattle.durable_machine.specs.declared.fault.Fault.TheVariants.{Unreadable, Damaged, Undone, OfFile}

-- all of it is as it was, at each moment
pub record IsUntouched (old new : FileState) : Type 0 where
  pub seen : new.seen ≡ old.seen
  pub any_moment : LeavesOnly old new (λ c. c ≡ old.seen)

module _ {S : Type 0} (loads : List ℕ → S → Type 0) (next : S → Bool → List ℕ → S) where
  -- the file stands for no state, so no crash leaves it of one that did
  abbrev pub HasNoState : List ℕ → Type 0
  HasNoState file = (s : S) → IsState loads next file s → ⊥

  -- a base, batches, and from this offset on what no crash leaves
  pub record IsDamaged (damaged : ℕ) (file : List ℕ) : Type 0 where
    pub front : List ℕ
    pub first : S
    pub begins : IsFront loads next front first
    pub batches : List (List (List ℕ))
    pub is : IsDamagedAt front batches damaged file

  -- a base, and after it batches with an event at this offset that changes nothing where memory is given
  pub record IsUndone (undone : ℕ) (file : List ℕ) : Type 0 where
    pub front : List ℕ
    pub first : S
    pub begins : IsFront loads next front first
    pub behind : List ℕ
    pub parts : file ≡ front ++ behind
    pub offset : ℕ
    pub idle : IsIdleAt next (length front) offset behind first
    pub place : undone ≡ length front + offset

  -- these bytes are refused for this, or memory was wanting
  abbrev pub IsRefused : List ℕ → Fault → Type 0
  IsRefused file Unreadable = HasNoState file
  IsRefused file (Damaged damaged) = IsDamaged damaged file × HasNoState file
  IsRefused file (Undone undone) = IsUndone undone file
  IsRefused file (OfFile error) = error ≡ Memory

  -- a file is refused for what it has, and nothing of it changes; or memory was wanting, or the disk has failed
  abbrev pub Refuses : FileState → FileState → Fault → Type 0
  Refuses old new Unreadable = HasNoState old.seen × IsUntouched old new
  Refuses old new (Damaged damaged) = IsDamaged damaged old.seen × HasNoState old.seen × IsUntouched old new
  Refuses old new (Undone undone) = IsUndone undone old.seen × (new.seen ≡ old.seen)
  Refuses old new (OfFile error) = (error ≡ Failed → old.faults < new.faults) × (error ≡ NoRoom → old.faults < new.faults)
