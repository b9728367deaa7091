-- The guards of lines, one after another.
use Rattle.std.proofs.Common.{◌≡◌, ℕ, ◌+◌, List, [], ◌∷◌, ◌++◌, map, Option, Some, None, Result, Ok, Err, refl, sym, ap, ◌∙◌, append-nil}
use Rattle.std.proofs.lemmas.List.{map-append}
use Rattle.common_definitions.specs.Readings.{with_front}
use Rattle.common_definitions.proofs.Proved.{with_front-more}
use Rattle.link_notes.specs.Notes.{ToldGuard, told_guard}
use Rattle.link_notes.specs.Unread.{first_of, past}
use Rattle.link_notes.specs.Reading.{guard_before, guard_of, guards_from}
use Rattle.link_notes.specs.declared.notes.GuardNote.{GuardNote}
use Rattle.link_notes.specs.declared.reading.Wanted.{Wanted}
use Rattle.link_notes.specs.declared.reading.Wanted.TheVariants as wanted

-- the guards that were read, and those of the lines that are left
abbrev pub guards_so_far : List GuardNote → ℕ × List (List ℕ) → Result (List ToldGuard) (ℕ × Wanted)
guards_so_far guards left = with_front (map told_guard guards) (guards_from left.0 left.1)

of_first : (guards : List GuardNote) (number : ℕ) (ls : List (List ℕ)) (line : List ℕ) (guard : Option ToldGuard) → Some line ≡ first_of ls → guard ≡ guard_of line
    → guards_so_far guards (number, ls) ≡ with_front (map told_guard guards) (guard_before number guard (guards_from (past (number, ls)).0 (past (number, ls)).1))
of_first guards number [] line guard first is = absurd cc
of_first guards number (l ∷ ls) line guard first is =
    let same : line ≡ l = cc in
    ap (λ (o : Option ToldGuard). with_front (map told_guard guards) (guard_before number o (guards_from (number + 1) ls))) (sym (is ∙ ap guard_of same))

-- one more guard
pub guard_read : (all : Result (List ToldGuard) (ℕ × Wanted)) (guards : List GuardNote) (guard : GuardNote) (left behind : ℕ × List (List ℕ)) (line : List ℕ)
    → all ≡ guards_so_far guards left → Some line ≡ first_of left.1 → behind ≡ past left → Some (told_guard guard) ≡ guard_of line
    → all ≡ guards_so_far (guards ++ guard ∷ []) behind
guard_read all guards guard left behind line so_far first rest is =
    so_far ∙ of_first guards left.0 left.1 line (Some (told_guard guard)) first is
    ∙ with_front-more (map told_guard guards) (told_guard guard ∷ []) (guards_from (past left).0 (past left).1)
    ∙ ap (λ (ts : List ToldGuard). with_front ts (guards_from (past left).0 (past left).1)) (sym (map-append told_guard guards (guard ∷ [])))
    ∙ ap (guards_so_far (guards ++ guard ∷ [])) (sym rest)

-- a line that is wrong
pub guard_refused : (all : Result (List ToldGuard) (ℕ × Wanted)) (guards : List GuardNote) (left : ℕ × List (List ℕ)) (line : List ℕ)
    → all ≡ guards_so_far guards left → Some line ≡ first_of left.1 → None ≡ guard_of line → all ≡ Err (left.0, wanted.Guard)
guard_refused all guards left line so_far first is = so_far ∙ of_first guards left.0 left.1 line None first is

none_left : (guards : List GuardNote) (number : ℕ) (ls : List (List ℕ)) → None ≡ first_of ls → guards_so_far guards (number, ls) ≡ Ok (map told_guard guards)
none_left guards number [] first = ap Ok (append-nil (map told_guard guards))
none_left guards number (l ∷ ls) first = absurd cc

-- no line is left
pub guards_read : (all : Result (List ToldGuard) (ℕ × Wanted)) (guards : List GuardNote) (left : ℕ × List (List ℕ))
    → all ≡ guards_so_far guards left → None ≡ first_of left.1 → all ≡ Ok (map told_guard guards)
guards_read all guards left so_far first = so_far ∙ none_left guards left.0 left.1 first

behind_nothing : (later : Result (List ToldGuard) (ℕ × Wanted)) → later ≡ with_front [] later
behind_nothing (Ok later) = refl
behind_nothing (Err fault) = refl

-- nothing is read yet
pub guards_begin : (left : ℕ × List (List ℕ)) → guards_from left.0 left.1 ≡ guards_so_far [] left
guards_begin left = behind_nothing (guards_from left.0 left.1)
