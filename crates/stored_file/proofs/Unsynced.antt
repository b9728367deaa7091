-- What unsynced changes leave, where all or nothing of them has come to the disk.
use Rattle.std.proofs.Common.{◌≡◌, ◌≤◌, ◌+◌, ◌⊎◌, inl, inr, ⊎_elim, ℕ, List, ◌++◌, length, max, take, drop, refl, sym, ◌∙◌, ap, subst, arith, append_assoc, length-append, length-take, length-drop}
use Rattle.std.proofs.lemmas.List.{take_all, take_at, drop_at}
use Rattle.stored_file.specs.File.{FileState, MayLeave, IsOnDisk, Follows, Elapses, LeavesOnly, is_written, Torn, Cut}
use Rattle.stored_file.proofs.Moments.{started, goes_on}

pub torn_nothing : (at n : ℕ) (file : List ℕ) → Torn at n file file
torn_nothing at n file = record { before = refl; after = refl; no_shorter = omega arith; no_longer = omega arith }

pub cut_nothing : (n : ℕ) (file : List ℕ) → Cut n file file
cut_nothing n file = record { no_shorter = omega arith; front = sym (take_all (length file) file (omega arith)) }
