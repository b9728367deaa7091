-- What a crash leaves under the names of files.
use Rattle.std.specs.Prelude.{◌≡◌, ◌≢◌, ◌⊎◌, ℕ, List, Option, Some}
use Rattle.image_store.specs.Namespace.{ZonedNamespace}
use Rattle.image_text.specs.Text.{text}
use Rattle.placed_file.specs.Placing.{Attempt, LeftSoFar}

-- a crash at any moment from the one to the other leaves under each name what it might have left before, and under this one also a whole
-- file of such bytes
pub record LeavesOldOrNew (path : List ℕ) (New : List ℕ → Type 0) (before after : List Attempt) : Type 0 where
  pub any_moment : (name : List ℕ) (c : Option (List ℕ)) → LeftSoFar after name c
      → LeftSoFar before name c ⊎ ((name ≡ path) × ((bytes : List ℕ) × New bytes × (c ≡ Some bytes)))

-- it leaves under each other name what it might have left before
pub record LeavesOthers (path : List ℕ) (before after : List Attempt) : Type 0 where
  pub any_moment : (name : List ℕ) (c : Option (List ℕ)) → name ≢ path → LeftSoFar after name c → LeftSoFar before name c

-- these bytes are those, where what is written is told
abbrev pub AreWritten : Type 0 → List ℕ → List ℕ → Type 0
AreWritten writes written bytes = writes → bytes ≡ written

-- they are a whole image, where that is told
abbrev pub AreAnImage : Type 0 → List ℕ → Type 0
AreAnImage writes bytes = (namespace : ZonedNamespace) × AreWritten writes (text namespace) bytes
