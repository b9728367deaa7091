-- What reading does to the bytes that are to come, and writing to those that were taken.
use Rattle.std.specs.Prelude.{ℕ, ◌≡◌, ◌≤◌, List, ◌++◌, length, take, drop, Result, Ok, Err}

-- the first n bytes that were to come are at the front of `to` now, at least one of them where there
-- is one and `to` has room
pub record IsRead (before after to : List ℕ) (n : ℕ) : Type 0 where
  pub bytes : before ≡ take n to ++ after
  pub some : 1 ≤ length before → 1 ≤ length to → 1 ≤ n

-- the first n bytes that were to come were passed over, at least one of them where there is one and one is asked for
pub record IsSkipped (before after : List ℕ) (most n : ℕ) : Type 0 where
  pub rest : after ≡ drop n before
  pub there : n ≤ length before
  pub some : 1 ≤ length before → 1 ≤ most → 1 ≤ n

-- the bytes that a sink has taken, and how many of its calls have failed
pub record Taken : Type 0 where
  pub bytes : List ℕ
  pub failures : ℕ

-- of a text, a first part was taken, and the rest wasn't
pub record IsBegun (before after text rest : List ℕ) : Type 0 where
  pub part : List ℕ
  pub whole : text ≡ part ++ rest
  pub taken : after ≡ before ++ part

-- the whole text was taken, or where that was refused a beginning of it
abbrev pub Takes : {E : Type 0} → List ℕ → List ℕ → List ℕ → Result Unit E → Type 0
Takes before after text (Ok done) = after ≡ before ++ text
Takes before after text (Err fault) = (rest : List ℕ) × IsBegun before after text rest
