-- Where an address must lie, as its distance from an area's first byte.
use Rattle.std.specs.Prelude.{ℕ, ℤ, List, Option, Some, None, option_and_then, if◌then◌else◌, ◌==◌, ◌≡◌, ◌<◌, ◌≤◌, ◌^◌, ◌+ℤ◌, ◌≤ℤ◌, pos}
use Rattle.instruction_set.specs.Instruction.{access_of}
use Rattle.instruction_set.specs.Program.{instruction_at}
use Rattle.instruction_set.specs.declared.access.Access.{Access}
use Rattle.instruction_set.specs.declared.instruction.Instruction.{Instruction}
use Rattle.ebpf_link.specs.declared.within.Within.{Within}

-- a distance is within bounds
pub record IsWithin (within : Within) (distance : ℤ) : Type 0 where
  pub low : within.low ≤ℤ distance
  pub high : distance ≤ℤ within.high

-- so many bytes at an offset from a distance lie in an area of so many
pub record LieInside (distance offset : ℤ) (size length : ℕ) : Type 0 where
  pub first : pos 0 ≤ℤ (distance +ℤ offset)
  pub last : (distance +ℤ offset +ℤ pos size) ≤ℤ pos length

-- the length of an area, which is small
pub record IsSmallLength (length : ℕ) (small : ℤ) : Type 0 where
  pub some : pos 0 ≤ℤ small
  pub few : small ≤ℤ pos (2 ^ 20)
  pub most : small ≤ℤ pos length
  pub same : length ≤ 2 ^ 20 → small ≡ pos length

-- bounds of the distances that were within others, from which an access lies in its area: of these alone, and of all of these
pub record Narrows (within : Within) (access : Access) (length : ℕ) (narrow : Within) : Type 0 where
  pub area : narrow.area ≡ within.area
  pub kept : (distance : ℤ) → IsWithin narrow distance → IsWithin within distance
  pub inside : (distance : ℤ) → IsWithin narrow distance → LieInside distance access.offset access.size length
  pub widest : (distance : ℤ) → IsWithin within distance → LieInside distance access.offset access.size length → length ≤ 2 ^ 20
      → IsWithin narrow distance

-- numbers with which a distance is compared, so that it passes where it is within bounds, and nowhere else
pub record Compares (within : Within) (low high : ℤ) : Type 0 where
  pub inside : pos 0 ≤ℤ within.high → within.low ≤ℤ pos 100000 → (distance : ℕ) → low ≤ℤ pos distance → pos distance ≤ℤ high
      → IsWithin within (pos distance)
  pub least : (distance : ℕ) → IsWithin within (pos distance) → distance ≤ 100000 → low ≤ℤ pos distance
  pub most : (distance : ℕ) → IsWithin within (pos distance) → distance ≤ 100000 → pos distance ≤ℤ high

-- an access, if it is by this register
abbrev pub by_register : ℕ → Access → Option Access
by_register base access = if access.base == base then Some access else None

-- the access by a register at a slot, if there is one
abbrev pub access_by : List (Option Instruction) → ℕ → ℕ → Option Access
access_by slots slot base = option_and_then (by_register base) (option_and_then access_of (instruction_at slots slot))

-- from each distance within bounds the access at a slot by a register, if there is one, lies in its area
abbrev pub AreInsideAt : List (Option Instruction) → ℕ → ℕ → ℕ → Within → Type 0
AreInsideAt slots slot base length narrow = (access : Access) → access_by slots slot base ≡ Some access → (distance : ℤ)
    → IsWithin narrow distance → LieInside distance access.offset access.size length

-- such bounds, of distances that were within others
pub record AreBoundsAt (slots : List (Option Instruction)) (slot base length : ℕ) (within narrow : Within) : Type 0 where
  pub area : narrow.area ≡ within.area
  pub kept : (distance : ℤ) → IsWithin narrow distance → IsWithin within distance
  pub inside : AreInsideAt slots slot base length narrow
