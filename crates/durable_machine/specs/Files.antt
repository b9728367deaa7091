-- What a file stands for.
use Rattle.std.specs.Prelude.{◌≡◌, ◌⊎◌, ℕ, ◌+◌, ◌*◌, ◌/◌, Bool, List, [], ◌∷◌, ◌++◌, length}
use Rattle.stored_file.specs.File.{FileState, MayLeave}
use Rattle.durable_machine.specs.Journal.{HasBatches, IsAt}
use Rattle.durable_machine.specs.Runs.{state_again}

-- so many bytes in whole sectors
abbrev pub whole_sectors : ℕ → ℕ
whole_sectors n = (n + 4095) / 4096 * 4096

-- the events of all batches, in order
abbrev pub joined : List (List (List ℕ)) → List (List ℕ)
joined [] = []
joined (batch ∷ batches) = batch ++ joined batches

module _ {S : Type 0} (loads : List ℕ → S → Type 0) (next : S → Bool → List ℕ → S) where
  -- a base that stands for a machine, in whole sectors
  pub record IsFront (front : List ℕ) (first : S) : Type 0 where
    pub base : List ℕ
    pub padding : List ℕ
    pub loaded : loads base first
    pub parts : front ≡ base ++ padding
    pub size : length front ≡ whole_sectors (length base)

  -- the file stands for this state: it is the one to which the base's is led by the events after it, up to this offset
  pub record IsStateAt (end : ℕ) (file : List ℕ) (s : S) : Type 0 where
    pub front : List ℕ
    pub first : S
    pub begins : IsFront front first
    pub batches : List (List (List ℕ))
    pub has : HasBatches front batches end file
    pub leads : s ≡ state_again next (joined batches) first

  -- the file stands for this state
  abbrev pub IsState : List ℕ → S → Type 0
  IsState file s = (end : ℕ) × IsStateAt end file s

  -- a file stands for this state, and for no other
  pub record IsItsState (file : List ℕ) (s : S) : Type 0 where
    pub is : IsState file s
    pub no_other : (t : S) → IsState file t → s ≡ t

  -- what a file stands for, this one does, too
  abbrev pub KeepsState : List ℕ → List ℕ → Type 0
  KeepsState old file = (s : S) → IsState old s → IsState file s

  -- what a crash might have left of a file, or a file that stands for this state
  abbrev pub IsOldOrStands : FileState → S → List ℕ → Type 0
  IsOldOrStands old s file = MayLeave old file ⊎ IsState file s

  -- the base alone stands for the machine: no batch stands after it, but a closed gate at this offset, and all of the file is on the disk
  pub record IsInBase (machine : S) (gate : ℕ) (file : FileState) : Type 0 where
    pub front : List ℕ
    pub begins : IsFront front machine
    pub rests : IsAt front [] gate file

  -- the machine is in the state that the file stands for, which is at rest, with its gate at this offset, and all of it on the disk
  pub record IsDurable (machine : S) (gate : ℕ) (file : FileState) : Type 0 where
    pub front : List ℕ
    pub first : S
    pub begins : IsFront front first
    pub batches : List (List (List ℕ))
    pub rests : IsAt front batches gate file
    pub leads : machine ≡ state_again next (joined batches) first
