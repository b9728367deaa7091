-- The first relocation that changes what begins at a byte.
use Rattle.std.proofs.Common.{◌≡◌, ℕ, List, None, Some}
use Rattle.ebpf_gather.specs.First.{first_of}
use Rattle.ebpf_gather.specs.References.{change_of}
use Rattle.ebpf_gather.proofs.First.{is_first, none_first}
use Rattle.ebpf_object.specs.declared.relocation.Relocation.{Relocation}
use Rattle.ebpf_object.specs.Functions.{IsFirstChange, NoChange, change_at, changes_in}
use Rattle.ebpf_object.specs.Objects.{section_count}

module _ (bytes : List ℕ) (section byte : ℕ) where
  -- where no relocation changes it, there is none
  pub none_changes : NoChange bytes section byte (section_count bytes) → change_of bytes section byte ≡ None
  none_changes none =
      none_first (λ (of : ℕ). first_of (change_at bytes byte of) (changes_in bytes section of)) (section_count bytes)
      (λ of below. none_first (change_at bytes byte of) (changes_in bytes section of) (none of below))

  -- and the first that does is it
  pub first_changes : (of number : ℕ) (relocation : Relocation) → IsFirstChange bytes section byte of number relocation
      → change_of bytes section byte ≡ Some relocation
  first_changes of number relocation first =
      is_first (λ (k : ℕ). first_of (change_at bytes byte k) (changes_in bytes section k)) (section_count bytes) of relocation
      (record {
        within = first.within;
        has = is_first (change_at bytes byte of) (changes_in bytes section of) number relocation first.here;
        before = λ k below. none_first (change_at bytes byte k) (changes_in bytes section k) (first.before k below);
      })
