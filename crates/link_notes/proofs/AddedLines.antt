-- Lines that are added one after another.
use Rattle.std.proofs.Common.{◌≡◌, ℕ, ◌+◌, ◌<◌, List, [], ◌∷◌, ◌++◌, length, take, get_or, map, codes, ◌≤◌, refl, sym, ap, ◌∙◌, append_assoc}
use Rattle.std.proofs.lemmas.List.{map-append, take_all, take_more}
use Rattle.link_notes.specs.Notes.{ToldNotes, told_guard}
use Rattle.link_notes.specs.Text.{guard_line, notes_text, number_line, optional_lines, unlines}
use Rattle.link_notes.specs.declared.notes.GuardNote.{GuardNote}

pub unlines-append : (first later : List (List ℕ)) → unlines (first ++ later) ≡ unlines first ++ unlines later
unlines-append [] later = refl
unlines-append (line ∷ first) later =
    ap (λ (text : List ℕ). line ++ 10 ∷ text) (unlines-append first later) ∙ sym (append_assoc line (10 ∷ unlines first) (unlines later))

-- the lines of notes, one part after another
pub unlines-parts : (a b c d e f g : List (List ℕ))
    → unlines (a ++ (b ++ (c ++ (d ++ (e ++ (f ++ g))))))
    ≡ (((((unlines a ++ unlines b) ++ unlines c) ++ unlines d) ++ unlines e) ++ unlines f) ++ unlines g
unlines-parts a b c d e f g = simp (unlines-append, append_assoc) refl

abbrev pub guards_text : List GuardNote → List ℕ
guards_text notes = unlines (map guard_line (map told_guard notes))

one_more : (notes : List GuardNote) (note : GuardNote) → guards_text (notes ++ note ∷ []) ≡ guards_text notes ++ unlines (guard_line (told_guard note) ∷ [])
one_more notes note =
    ap (λ ls. unlines (map guard_line ls)) (map-append told_guard notes (note ∷ []))
    ∙ ap unlines (map-append guard_line (map told_guard notes) (told_guard note ∷ []))
    ∙ unlines-append (map guard_line (map told_guard notes)) (guard_line (told_guard note) ∷ [])

-- the line of one more guard is added
pub guard_added : (before text after : List ℕ) (notes : List GuardNote) (i : ℕ) (d : GuardNote) → i < length notes
    → text ≡ before ++ guards_text (take i notes) → after ≡ text ++ unlines (guard_line (told_guard (get_or notes i d)) ∷ [])
    → after ≡ before ++ guards_text (take (i + 1) notes)
guard_added before text after notes i d h so_far added =
    added ∙ ap (λ (t : List ℕ). t ++ unlines (guard_line (told_guard (get_or notes i d)) ∷ [])) so_far
    ∙ append_assoc before (guards_text (take i notes)) (unlines (guard_line (told_guard (get_or notes i d)) ∷ []))
    ∙ ap (λ (t : List ℕ). before ++ t) (sym (one_more (take i notes) (get_or notes i d)))
    ∙ ap (λ ns. before ++ guards_text ns) (sym (take_more notes i d h))

-- the lines of all guards are added
pub guards_added : (before text : List ℕ) (notes : List GuardNote) (i : ℕ) → length notes ≤ i → text ≡ before ++ guards_text (take i notes)
    → text ≡ before ++ guards_text notes
guards_added before text notes i h so_far = so_far ∙ ap (λ ns. before ++ guards_text ns) (take_all i notes h)

-- the lines of notes are added, in order
pub notes_added : (notes : ToldNotes) (heading sum block emit profile guard_at all : List ℕ) → heading ≡ unlines (codes "linked 1" ∷ [])
    → sum ≡ heading ++ unlines (optional_lines (codes "sum ") notes.sum)
    → block ≡ sum ++ unlines (number_line (codes "block ") notes.block ∷ []) → emit ≡ block ++ unlines (optional_lines (codes "emit ") notes.emit)
    → profile ≡ emit ++ unlines (number_line (codes "profile ") notes.profile ∷ [])
    → guard_at ≡ profile ++ unlines (optional_lines (codes "guard-at ") notes.guard_at)
    → all ≡ guard_at ++ unlines (map guard_line notes.guards) → all ≡ notes_text notes
notes_added notes heading sum block emit profile guard_at all one summed two three four five six =
    six ∙ ap (λ (t : List ℕ). t ++ unlines (map guard_line notes.guards))
    (five ∙ ap (λ (t : List ℕ). t ++ unlines (optional_lines (codes "guard-at ") notes.guard_at))
    (four ∙ ap (λ (t : List ℕ). t ++ unlines (number_line (codes "profile ") notes.profile ∷ []))
    (three ∙ ap (λ (t : List ℕ). t ++ unlines (optional_lines (codes "emit ") notes.emit))
    (two ∙ ap (λ (t : List ℕ). t ++ unlines (number_line (codes "block ") notes.block ∷ []))
    (summed ∙ ap (λ (t : List ℕ). t ++ unlines (optional_lines (codes "sum ") notes.sum)) one)))))
    ∙ sym (unlines-parts (codes "linked 1" ∷ []) (optional_lines (codes "sum ") notes.sum) (number_line (codes "block ") notes.block ∷ []) (optional_lines (codes "emit ") notes.emit)
    (number_line (codes "profile ") notes.profile ∷ []) (optional_lines (codes "guard-at ") notes.guard_at) (map guard_line notes.guards))
