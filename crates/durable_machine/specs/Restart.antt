-- What an earlier program may have left of a file, by what is read of it.
use Rattle.std.specs.Prelude.{◌≡◌, ◌⊎◌, ℕ, ◌+◌, Bool, List, length}
use Rattle.stored_file.specs.File.{FileState, IsOnDisk, LeavesNow, LeavesOnly}
use Rattle.durable_machine.specs.LastBatch.{IsLast, IsSameBut}
use Rattle.durable_machine.specs.Files.{IsState, IsStateAt, KeepsState}
use Rattle.durable_machine.specs.Runs.{state_again}

module _ {S : Type 0} (loads : List ℕ → S → Type 0) (next : S → Bool → List ℕ → S) where
  -- a file stands for this state, its batches end here, and the last one's gate is at this offset; where there is none, they end there
  pub record IsReplayed (end last : ℕ) (file : List ℕ) (s : S) : Type 0 where
    pub is : IsStateAt loads next end file s
    pub offset : ℕ
    pub gate : IsLast (length is.front) is.batches is.has.frames offset
    pub last_is : last ≡ length is.front + offset

  -- the file that is read stands for a state, and this one has its bytes, but for the sector of the last batch's gate, and for the end
  -- after the batches
  pub record LacksGate (file c : List ℕ) : Type 0 where
    pub end : ℕ
    pub last : ℕ
    pub s : S
    pub is : IsReplayed end last file s
    pub same : IsSameBut last 4096 end file c

  -- an earlier program may have left these bytes on the disk, of a file of which those are read: it did one thing after another, and
  -- ended where a sync failed
  abbrev pub MayBeLeft : List ℕ → List ℕ → Type 0
  MayBeLeft file c = (c ≡ file) ⊎ LacksGate file c

  -- so it is of a file that was opened
  abbrev pub IsRestarted : FileState → Type 0
  IsRestarted file = LeavesNow file (MayBeLeft file.seen)

  -- a file stands for the state from before a batch that leads to this one
  pub record LacksBatch (file : List ℕ) (s : S) : Type 0 where
    pub before : S
    pub is : IsState loads next file before
    pub batch : List (List ℕ)
    pub leads : s ≡ state_again next batch before

  -- a crash at any moment leaves what an earlier program may have left, or a file that has P; and where all of the file was on the
  -- disk, one that has P
  pub record LeavesFound (old new : FileState) (P : List ℕ → Type 0) : Type 0 where
    pub moments : LeavesOnly old new (λ c. MayBeLeft old.seen c ⊎ P c)
    pub kept : IsOnDisk old → LeavesOnly old new P

  -- so it is with a file that stands for the same
  abbrev pub KeepsRestarted : FileState → FileState → Type 0
  KeepsRestarted old new = LeavesFound old new (KeepsState loads next old.seen)
