-- What an earlier program may have left of a file that has a journal.
use Rattle.std.specs.Prelude.{◌≡◌, ◌⊎◌, ◌≤◌, ℕ, ◌+◌, List, [], ◌∷◌, ◌++◌, length, take, drop}
use Rattle.durable_machine.specs.Journal.{IsFrame, AreFrames, IsEnd}

-- up to this end the file has the bytes of the other, but for n of them at an offset, and what stands after is an end
pub record IsSameBut (at n end : ℕ) (old new : List ℕ) : Type 0 where
  pub no_shorter : end ≤ length new
  pub before : take at new ≡ take at old
  pub after : drop (at + n) (take end new) ≡ drop (at + n) (take end old)
  pub last : IsEnd (drop end new)

-- the last of these batches, whose frames begin at an offset, and where its frame begins in theirs
pub record HasLast (begin : ℕ) (batches : List (List (List ℕ))) (frames : List ℕ) (at : ℕ) : Type 0 where
  pub before : List (List (List ℕ))
  pub batch : List (List ℕ)
  pub all : batches ≡ before ++ batch ∷ []
  pub first : List ℕ
  pub are : AreFrames begin before first
  pub frame : List ℕ
  pub is : IsFrame (begin + length first) batch frame
  pub parts : frames ≡ first ++ frame
  pub begins : at ≡ length first

-- the last batch's frame begins at this offset in the frames; where there is none, it is where they end
abbrev pub IsLast : ℕ → List (List (List ℕ)) → List ℕ → ℕ → Type 0
IsLast begin batches frames at = ((batches ≡ []) × (at ≡ length frames)) ⊎ HasLast begin batches frames at
