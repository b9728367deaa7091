-- Lists of bytes by recursion, as lemmas go over them from the first byte on.
use Rattle.std.proofs.Common.{ℕ, zero, suc, ◌^◌, ◌<◌, List, [], ◌∷◌, lit<}
use Rattle.std.specs.List.{AllByRecursion}
use Rattle.common_definitions.specs.Bytes.{AreBytes}
use Rattle.common_definitions.proofs.Proved.{all_at}
use Rattle.emit_append.specs.OutputBlocks.{AreAllBytes}

-- a number fits a byte
abbrev pub FitsByte : ℕ → Type 0
FitsByte number = number < 2 ^ 8

-- each number of a list fits a byte, by recursion
abbrev pub AllBytes : List ℕ → Type 0
AllBytes bytes = AllByRecursion FitsByte bytes

-- where each fits by recursion, each does at its place
pub by_place : (bytes : List ℕ) → AllBytes bytes → AreBytes bytes
by_place bytes all k = all_at FitsByte bytes k 0 all (lit< tt)

-- where each fits at its place, each does by recursion
pub by_recursion : (bytes : List ℕ) → AreBytes bytes → AllBytes bytes
by_recursion [] are = tt
by_recursion (x ∷ xs) are = (are zero, by_recursion xs (λ k. are (suc k)))

-- the same of lists of them
pub lists_by_place : (lists : List (List ℕ)) → AllByRecursion AllBytes lists → AreAllBytes lists
lists_by_place [] all = tt
lists_by_place (bytes ∷ lists) all = (by_place bytes all.0, lists_by_place lists all.1)

pub lists_by_recursion : (lists : List (List ℕ)) → AreAllBytes lists → AllByRecursion AllBytes lists
lists_by_recursion [] are = tt
lists_by_recursion (bytes ∷ lists) are = (by_recursion bytes are.0, lists_by_recursion lists are.1)
