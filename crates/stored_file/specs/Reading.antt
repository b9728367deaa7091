-- What is read of a file before it is written.
use Rattle.std.specs.Prelude.{◌≡◌, ◌<◌, ◌≤◌, ℕ, List, Option, Some, ◌++◌, length, take, IfSome, Result, IsErrOf}
use Rattle.std.proofs.Common.{refl, sym, ap, arith, length-take}
use Rattle.stored_file.specs.declared.stored_file.FileError.{FileError}
use Rattle.stored_file.specs.declared.stored_file.FileError.TheVariants.{NoRoom, Failed}

-- so many bytes more were read, and put after those in a buffer
pub record HasRead (count : ℕ) (was given held holds : List ℕ) : Type 0 where
  pub bytes : List ℕ
  pub counted : length bytes ≡ count
  pub read : given ≡ was ++ bytes
  pub put : holds ≡ held ++ bytes

-- nothing was read, and nothing was put there
pub record HasNotRead (was given held holds : List ℕ) : Type 0 where
  pub read : given ≡ was
  pub put : holds ≡ held

-- that the disk failed is told only where it has; and room isn't wanting for a read
pub record HasReadCause {T : Type 0} (was faults : ℕ) (result : Result T FileError) : Type 0 where
  pub later : was ≤ faults
  pub failed : IsErrOf result Failed → was < faults
  pub no_room : IsErrOf result NoRoom → ⊥

-- what was read is the front of the file, of a file whose bytes are known
abbrev pub IsReadOf : List ℕ → ℕ → Option (List ℕ) → Type 0
IsReadOf given size known = IfSome known (λ file. (length file ≡ size) × (given ≡ take (length given) file))

-- so is a part of it that is taken
pub front_read : (n : ℕ) (file : List ℕ) → n ≤ length file → IsReadOf (take n file) (length file) (Some file)
front_read n file within = (refl, sym (ap (λ (k : ℕ). take k file) taken))
  where
    taken : length (take n file) ≡ n
    taken = omega (arith, length-take n file, within)

pub part_read : (n : ℕ) (file : List ℕ) → length (take n file) ≤ length file
part_read n file = omega (arith, length-take n file)
