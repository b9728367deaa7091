-- Bytes that go to C's memory, and what is answered.
use Rattle.std.specs.Prelude.{ℕ, ◌≡◌, ◌≤◌, ◌<◌, ◌⊎◌, List, ◌++◌, length, take, drop, min}

-- as many of these bytes as there is room for are put in front, and how many they are is answered
pub record IsFront (bytes before after : List ℕ) (answer : ℕ) : Type 0 where
  pub counted : answer ≡ min (length bytes) (length before)
  pub put : after ≡ take answer bytes ++ drop answer before

-- how many bytes a text has is answered, which are in front where there is room for all of them; nothing else changed
pub record IsPut (text before after : List ℕ) (answer : ℕ) : Type 0 where
  pub counted : answer ≡ length text
  pub whole : answer ≤ length before → after ≡ text ++ drop answer before
  pub short : length before < answer → after ≡ before

-- nothing was written, as memory is wanting
pub record IsNotSaved (before after : List ℕ) (answer : ℕ) : Type 0 where
  pub told : answer ≡ 0
  pub same : after ≡ before

-- a text is saved, or not
abbrev pub SavesText : List ℕ → List ℕ → List ℕ → ℕ → Type 0
SavesText text before after answer = IsPut text before after answer ⊎ IsNotSaved before after answer
