-- What a crash leaves of the changes of a file since it was on the disk.
use Rattle.std.specs.Prelude.{◌≡◌, ◌⊎◌, ◌≤◌, ℕ, List, [], ◌∷◌, length, take}
use Rattle.std.proofs.Math.Nat.{le_trans}
use Rattle.stored_file.specs.File.{FileState, Torn, Cut, is_written}
use Rattle.stored_file.specs.declared.change.Change.{Change}
use Rattle.stored_file.specs.declared.change.Change.TheVariants.{Written, Shortened, Renewed, Settled}

-- what it may leave of one
abbrev pub IsLeftOf : Change → List ℕ → List ℕ → Type 0
IsLeftOf (Written «at» bytes) old new = Torn «at» (length bytes.items) old new
IsLeftOf (Shortened len) old new = Cut len old new
IsLeftOf (Renewed «at» bytes) old new = (new ≡ old) ⊎ (new ≡ is_written «at» bytes.items old)
IsLeftOf (Settled bytes) old new = new ≡ bytes.items

-- what it may leave of changes, where it may leave such files before them
abbrev pub Leaves : List Change → (List ℕ → Type 0) → List ℕ → Type 0
Leaves [] before c = before c
Leaves (change ∷ changes) before c = Leaves changes (λ file. (old : List ℕ) × before old × IsLeftOf change old file) c

-- what a crash might have left since the first n changes of a file that was on the disk
abbrev pub LeftSince : List ℕ → List Change → ℕ → List ℕ → Type 0
LeftSince first changes n c = (k : ℕ) × (n ≤ k) × (k ≤ length changes) × Leaves (take k changes) (λ file. file ≡ first) c

-- such a file, of which these bytes are read
abbrev pub state_of : List ℕ → List Change → List ℕ → FileState
state_of first changes seen = record { seen = seen; moment = length changes; left_since = LeftSince first changes; once_synced = λ c. c ≡ seen; faults = 0; made = [] }

-- the last change is one of those since each earlier one
pub counts_at : (first : List ℕ) (changes : List Change) (n : ℕ) (c : List ℕ) → n ≤ length changes → LeftSince first changes (length changes) c → LeftSince first changes n c
counts_at first changes n c early left = (left.0, from left.0 left.1, left.2, left.3)
  where
    from : (k : ℕ) → length changes ≤ k → n ≤ k
    from k late = le_trans early late
