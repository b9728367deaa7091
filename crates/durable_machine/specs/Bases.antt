-- The base at the front of a file.
use Rattle.std.specs.Prelude.{◌≡◌, ◌⊎◌, ℕ, ◌<◌, ◌≤◌, List, ◌++◌, length, take}

module _ {S : Type 0} (loads : List ℕ → S → Type 0) where
  -- the first so many bytes are a base, which stands for this machine
  pub record BeginsBase (s : S) (n : ℕ) (file : List ℕ) : Type 0 where
    pub within : n ≤ length file
    pub loaded : loads (take n file) s

  -- no base stands at the front
  abbrev pub BeginsNoBase : List ℕ → Type 0
  BeginsNoBase file = (base rest : List ℕ) (s : S) → loads base s → file ≡ base ++ rest → ⊥

  -- a base at the front of a file that begins with these bytes is among them, or it has at least this many bytes, which are more
  abbrev pub NeedsBytes : ℕ → List ℕ → Type 0
  NeedsBytes n front =
      (base rest more : List ℕ) (s : S) → loads base s → front ++ more ≡ base ++ rest
      → (length base ≤ length front) ⊎ ((length front < n) × (n ≤ length base))

  -- a base at the front of the file is among the bytes that were read
  abbrev pub HasReadBase : ℕ → List ℕ → Type 0
  HasReadBase size given =
      (base rest more : List ℕ) (s : S) → loads base s → length (given ++ more) ≡ size → given ++ more ≡ base ++ rest
      → length base ≤ length given
