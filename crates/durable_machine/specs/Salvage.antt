-- What is saved of a file, damaged or not.
use Rattle.std.specs.Prelude.{◌≡◌, ◌⊎◌, ◌<◌, ℕ, ◌+◌, ◌*◌, Bool, List, [], ◌∷◌, ◌++◌, length, drop}
use Rattle.durable_machine.specs.Journal.{AreFrames, BeginsBatch, BeginsNoBatch}
use Rattle.durable_machine.specs.LastBatch.{IsLast}
use Rattle.durable_machine.specs.Runs.{state_again}
use Rattle.durable_machine.specs.Files.{IsFront, joined}

-- at the front of bytes, which begin at an offset, this many batches begin, one or none, and the next one may begin here
abbrev pub IsSeen : ℕ → List ℕ → ℕ → List ℕ → Type 0
IsSeen at bytes n behind =
    ((n ≡ 1) × (batch : List (List ℕ)) × BeginsBatch at batch behind bytes)
    ⊎ ((n ≡ 0) × BeginsNoBatch at bytes × (4096 < length bytes) × (behind ≡ drop 4096 bytes))

-- at no sector of bytes, which begin at an offset, a batch stands whole
abbrev pub HasNone : ℕ → List ℕ → Type 0
HasNone at bytes = (k : ℕ) → BeginsNoBatch (at + 4096 * k) (drop (4096 * k) bytes)

-- at none of the first n of them
abbrev pub HasNoneBefore : ℕ → ℕ → List ℕ → Type 0
HasNoneBefore n at bytes = (k : ℕ) → k < n → BeginsNoBatch (at + 4096 * k) (drop (4096 * k) bytes)

-- these are all batches that stand whole in bytes, which begin at an offset: each at the first sector from where one before it ends
abbrev pub AreFound : ℕ → List (List (List ℕ)) → List ℕ → Type 0
AreFound at [] bytes = HasNone at bytes
AreFound at (batch ∷ batches) bytes =
    (n : ℕ) × (rest : List ℕ) × HasNoneBefore n at bytes
    × (begins : BeginsBatch (at + 4096 * n) batch rest (drop (4096 * n) bytes))
    × AreFound (at + 4096 * n + length begins.frame) batches rest

module _ {S : Type 0} (loads : List ℕ → S → Type 0) (next : S → Bool → List ℕ → S) where
  -- a base and so many batches, the last of which begins here; they end here, and no further batch follows; this is the state to which
  -- they lead, whatever stands after them
  pub record HasBegun (end last count : ℕ) (file : List ℕ) (s : S) : Type 0 where
    pub front : List ℕ
    pub first : S
    pub begins : IsFront loads next front first
    pub batches : List (List (List ℕ))
    pub counted : count ≡ length batches
    pub frames : List ℕ
    pub are : AreFrames (length front) batches frames
    pub rest : List ℕ
    pub parts : file ≡ front ++ frames ++ rest
    pub nothing : BeginsNoBatch end rest
    pub ends : end ≡ length (front ++ frames)
    pub offset : ℕ
    pub gate : IsLast (length front) batches frames offset
    pub last_is : last ≡ length front + offset
    pub leads : s ≡ state_again next (joined batches) first

  -- it has begun so, and so many whole batches stand after that
  pub record IsSalvaged (end whole readable : ℕ) (file : List ℕ) (s : S) : Type 0 where
    pub last : ℕ
    pub begun : HasBegun end last whole file s
    pub later : List (List (List ℕ))
    pub found : AreFound end later begun.rest
    pub counted : readable ≡ length later
