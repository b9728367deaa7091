-- Notes are read back from what they are printed as.
use Rattle.std.proofs.Common.{◌≡◌, ℕ, ◌+◌, ◌^◌, ◌&&◌, nat_lt, Bool, true, cond, List, [], ◌∷◌, ◌++◌, map, Option, Some, None, Result, Ok, codes, refl, ap, ◌∙◌, arith}
use Rattle.std.specs.Fmt.{decimal}
use Rattle.std.specs.Option.{option_and_then, option_map, is_some, ok_or, IfSome}
use Rattle.std.specs.List.{All, list_all}
use Rattle.std.specs.Char.{is_ascii}
use Rattle.std.specs.Str.Parse.{AllDigits}
use Rattle.std.proofs.lemmas.Bool.Decides.{nat_tests}
use Rattle.std.proofs.lemmas.Fmt.{decimal_is_IsNumeral}
use Rattle.std.proofs.lemmas.List.Elements.{All-append, All-cons, All-head, All-map, All-nil, All-tail, All-weaker}
use Rattle.std.proofs.lemmas.List.Sums.{AllPass-from_list_all, list_all-from_AllPass}
use Rattle.std.proofs.lemmas.Str.Parse.{digit_from_value}
use Rattle.common_definitions.specs.Readings.{◌>>=◌, with_front}
use Rattle.text_lines.specs.Cut.{cut_at}
use Rattle.text_lines.specs.Number.{decimal_of}
use Rattle.text_lines.proofs.Proved.{number_again}
use Rattle.link_notes.specs.Notes.{ToldGuard, ToldNotes}
use Rattle.link_notes.specs.Text.{guard_line, notes_lines, number_line, optional_lines}
use Rattle.link_notes.specs.Unread.{first_number, past}
use Rattle.link_notes.specs.Reading.{ascii_of, guard_before, guard_of, guard_told, guards_from, heading_of, number_before, with_block, with_guards, with_profile, with_sum}
use Rattle.link_notes.specs.Laws.{AreSpelled, IsPrintable, IsSpelledGuard, IsVisible, IsWord, PrintedNotesReadBack}
use Rattle.link_notes.specs.declared.reading.Wanted.{Wanted}
use Rattle.link_notes.specs.declared.reading.Wanted.TheVariants as wanted
use Rattle.link_notes.proofs.SpelledLines.{cut_front, lines-unlines, one_word}

-- ---- numbers

digits_visible : (ds : List ℕ) → AllDigits 10 ds → All IsVisible ds
digits_visible [] h = All-nil IsVisible
digits_visible (c ∷ cs) h =
    let range = digit_from_value c h.0 in
    All-cons IsVisible c cs (omega arith, omega arith) (digits_visible cs h.1)

decimal_visible : (n : ℕ) → IsWord n → All IsVisible (decimal n)
decimal_visible n small = digits_visible (decimal n) (decimal_is_IsNumeral n (omega (arith, small))).0.1

decimal_again : (n : ℕ) → IsWord n → decimal_of (decimal n) ≡ Some n
decimal_again n small =
    let numeral = decimal_is_IsNumeral n (omega (arith, small)) in
    number_again (2 ^ 32) 10 (decimal n) n numeral.0 numeral.1 small

-- ---- printable lines

weaker : (byte : ℕ) → IsVisible byte → IsPrintable byte
weaker byte h = (omega (arith, h.0), h.1)

printable : (text : List ℕ) → All IsVisible text → All IsPrintable text
printable text h = All-weaker IsVisible IsPrintable weaker text h

abbrev is_printable : ℕ → Bool
is_printable byte = nat_lt 31 byte && nat_lt byte 127

printable_byte : (byte : ℕ) → is_printable byte ≡ true → IsPrintable byte
printable_byte byte e = grind (arith, nat_tests)

spelled_out : (text : List ℕ) → list_all is_printable text ≡ true → All IsPrintable text
spelled_out text e = All-weaker (λ b. is_printable b ≡ true) IsPrintable printable_byte text (AllPass-from_list_all is_printable text e)

space_before : (text : List ℕ) → All IsPrintable text → All IsPrintable (32 ∷ text)
space_before text h = All-cons IsPrintable 32 text (omega arith, omega arith) h

number_printable : (key : List ℕ) (n : ℕ) → list_all is_printable key ≡ true → IsWord n → All IsPrintable (number_line key n)
number_printable key n e small = All-append IsPrintable key (decimal n) (spelled_out key e) (printable (decimal n) (decimal_visible n small))

optional_printable : (key : List ℕ) (o : Option ℕ) → list_all is_printable key ≡ true → IfSome o IsWord → All (All IsPrintable) (optional_lines key o)
optional_printable key None e h = All-nil (All IsPrintable)
optional_printable key (Some n) e h = All-cons (All IsPrintable) (number_line key n) [] (number_printable key n e h) (All-nil (All IsPrintable))

guard_printable : (guard : ToldGuard) → IsSpelledGuard guard → All IsPrintable (guard_line guard)
guard_printable guard h =
    let told = guard.place ++ 32 ∷ guard.text in
    let slot = decimal guard.slot ++ 32 ∷ told in
    let number = decimal guard.number ++ 32 ∷ (codes "slot " ++ slot) in
    let placed = All-append IsPrintable guard.place (32 ∷ guard.text) (printable guard.place h.place) (space_before guard.text h.text) in
    let slotted = All-append IsPrintable (decimal guard.slot) (32 ∷ told) (printable (decimal guard.slot) (decimal_visible guard.slot h.slot)) (space_before told placed) in
    let named = All-append IsPrintable (codes "slot ") slot (spelled_out (codes "slot ") refl) slotted in
    let numbered = All-append IsPrintable (decimal guard.number) (32 ∷ (codes "slot " ++ slot)) (printable (decimal guard.number) (decimal_visible guard.number h.number)) (space_before (codes "slot " ++ slot) named) in
    All-append IsPrintable (codes "guard ") number (spelled_out (codes "guard ") refl) numbered

notes_printable : (notes : ToldNotes) → AreSpelled notes → All (All IsPrintable) (notes_lines notes)
notes_printable notes h =
    let P = All IsPrintable in
    let guards = All-map P guard_line notes.guards (All-weaker IsSpelledGuard (λ g. All IsPrintable (guard_line g)) guard_printable notes.guards h.guards) in
    let guard_at = optional_lines (codes "guard-at ") notes.guard_at in
    let behind = All-append P guard_at (map guard_line notes.guards) (optional_printable (codes "guard-at ") notes.guard_at refl h.guard_at) guards in
    let profile = All-cons P (number_line (codes "profile ") notes.profile) (guard_at ++ map guard_line notes.guards) (number_printable (codes "profile ") notes.profile refl h.profile) behind in
    let emit = optional_lines (codes "emit ") notes.emit in
    let limited = All-append P emit (number_line (codes "profile ") notes.profile ∷ (guard_at ++ map guard_line notes.guards)) (optional_printable (codes "emit ") notes.emit refl h.emit) profile in
    let limit_lines = emit ++ number_line (codes "profile ") notes.profile ∷ (guard_at ++ map guard_line notes.guards) in
    let block = All-cons P (number_line (codes "block ") notes.block) limit_lines (number_printable (codes "block ") notes.block refl h.block) limited in
    let block_lines = number_line (codes "block ") notes.block ∷ limit_lines in
    let sum = optional_lines (codes "sum ") notes.sum in
    let summed = All-append P sum block_lines (optional_printable (codes "sum ") notes.sum refl h.sum) block in
    All-cons P (codes "linked 1") (sum ++ block_lines) (spelled_out (codes "linked 1") refl) summed

-- ---- guards

ascii : (byte : ℕ) → IsPrintable byte → is_ascii byte ≡ true
ascii byte h = grind (arith, nat_tests)

ascii_again : (text : List ℕ) → All IsPrintable text → ascii_of text ≡ Some text
ascii_again text h = ap (λ (b : Bool). cond b (Some text) None) (list_all-from_AllPass is_ascii text (All-weaker IsPrintable (λ b. is_ascii b ≡ true) ascii text h))

-- the number of a text that is cut into a word and what stands after it
abbrev number_cut : Option (List ℕ × List ℕ) → Option (ℕ × List ℕ)
number_cut cut = option_and_then (λ parts. option_map (λ number. (number, parts.1)) (decimal_of parts.0)) cut

number_again_before : (n : ℕ) (rest : List ℕ) → IsWord n → number_cut (cut_at 32 (decimal n ++ 32 ∷ rest)) ≡ Some (n, rest)
number_again_before n rest small =
    ap number_cut (cut_front 32 (decimal n) rest (one_word (decimal n) (decimal_visible n small)))
    ∙ ap (option_map (λ number. (number, rest))) (decimal_again n small)

-- what follows the number of a guard
abbrev after_number : Option (ℕ × List ℕ) → Option ToldGuard
after_number found = option_and_then
    (λ first. option_and_then
    (λ second. option_and_then (λ parts. guard_told first.0 second.0 (ascii_of parts.0) (ascii_of parts.1)) (cut_at 32 second.1))
    (number_before (codes "slot ") first.1))
    found

abbrev after_slot : ℕ → Option (ℕ × List ℕ) → Option ToldGuard
after_slot number found =
    option_and_then (λ second. option_and_then (λ parts. guard_told number second.0 (ascii_of parts.0) (ascii_of parts.1)) (cut_at 32 second.1)) found

abbrev after_place : ℕ → ℕ → Option (List ℕ × List ℕ) → Option ToldGuard
after_place number slot found = option_and_then (λ parts. guard_told number slot (ascii_of parts.0) (ascii_of parts.1)) found

guard_again : (guard : ToldGuard) → IsSpelledGuard guard → guard_of (guard_line guard) ≡ Some guard
guard_again guard h =
    let told = guard.place ++ 32 ∷ guard.text in
    ap after_number (number_again_before guard.number (codes "slot " ++ (decimal guard.slot ++ 32 ∷ told)) h.number)
    ∙ ap (after_slot guard.number) (number_again_before guard.slot told h.slot)
    ∙ ap (after_place guard.number guard.slot) (cut_front 32 guard.place guard.text (one_word guard.place h.place))
    ∙ ap (λ place. guard_told guard.number guard.slot place (ascii_of guard.text)) (ascii_again guard.place (printable guard.place h.place))
    ∙ ap (guard_told guard.number guard.slot (Some guard.place)) (ascii_again guard.text h.text)

guards_again : (number : ℕ) (guards : List ToldGuard) → All IsSpelledGuard guards → guards_from number (map guard_line guards) ≡ Ok guards
guards_again number [] h = refl
guards_again number (guard ∷ guards) h =
    ap (λ o. guard_before number o (guards_from (number + 1) (map guard_line guards))) (guard_again guard (All-head IsSpelledGuard guard guards h))
    ∙ ap (with_front (guard ∷ [])) (guards_again (number + 1) guards (All-tail IsSpelledGuard guard guards h))

-- ---- the lines before those of guards

all_again : (sum : Option ℕ) (block : ℕ) (emit : Option ℕ) (profile : ℕ) (guard_at : Option ℕ) (number : ℕ) (guards : List ToldGuard) → All IsSpelledGuard guards
    → with_guards sum block emit profile guard_at (number, map guard_line guards)
    ≡ Ok (record { sum = sum; block = block; emit = emit; profile = profile; guard_at = guard_at; guards = guards })
all_again sum block emit profile guard_at number guards h =
    ap (λ (read : Result (List ToldGuard) (ℕ × Wanted)). read >>= λ gs.
    Ok (record { sum = sum; block = block; emit = emit; profile = profile; guard_at = guard_at; guards = gs })) (guards_again number guards h)

-- no guard's line has the key of where guards write
no_guard_at : (number : ℕ) (guards : List ToldGuard) → first_number (codes "guard-at ") (number, map guard_line guards) ≡ None
no_guard_at number [] = refl
no_guard_at number (guard ∷ guards) = refl

-- what is read once it is known whether the first line says where guards write
abbrev guards_by : Option ℕ → ℕ → Option ℕ → ℕ → ℕ × List (List ℕ) → Option ℕ → Result ToldNotes (ℕ × Wanted)
guards_by sum block emit profile left found = with_guards sum block emit profile found (cond (is_some found) (past left) left)

after_profile : (sum : Option ℕ) (block : ℕ) (emit : Option ℕ) (profile : ℕ) (guard_at : Option ℕ) (number : ℕ) (guards : List ToldGuard) → IfSome guard_at IsWord → All IsSpelledGuard guards
    → guards_by sum block emit profile (number, optional_lines (codes "guard-at ") guard_at ++ map guard_line guards) (first_number (codes "guard-at ") (number, optional_lines (codes "guard-at ") guard_at ++ map guard_line guards))
    ≡ Ok (record { sum = sum; block = block; emit = emit; profile = profile; guard_at = guard_at; guards = guards })
after_profile sum block emit profile None number guards small h =
    ap (guards_by sum block emit profile (number, map guard_line guards)) (no_guard_at number guards)
    ∙ all_again sum block emit profile None number guards h
after_profile sum block emit profile (Some at) number guards small h =
    ap (guards_by sum block emit profile (number, number_line (codes "guard-at ") at ∷ map guard_line guards)) (decimal_again at small)
    ∙ all_again sum block emit profile (Some at) (number + 1) guards h

-- what is read after the profile
abbrev profile_by : Option ℕ → ℕ → Option ℕ → ℕ × List (List ℕ) → Option ℕ → Result ToldNotes (ℕ × Wanted)
profile_by sum block emit left found = ok_or found (left.0, wanted.Profile) >>= λ profile.
    guards_by sum block emit profile (past left) (first_number (codes "guard-at ") (past left))

profile_again : (sum : Option ℕ) (block : ℕ) (emit : Option ℕ) (notes : ToldNotes) (number : ℕ) → AreSpelled notes
    → with_profile sum block emit (number, number_line (codes "profile ") notes.profile ∷ (optional_lines (codes "guard-at ") notes.guard_at ++ map guard_line notes.guards))
    ≡ Ok (record { sum = sum; block = block; emit = emit; profile = notes.profile; guard_at = notes.guard_at; guards = notes.guards })
profile_again sum block emit notes number h =
    ap (profile_by sum block emit (number, number_line (codes "profile ") notes.profile ∷ (optional_lines (codes "guard-at ") notes.guard_at ++ map guard_line notes.guards))) (decimal_again notes.profile h.profile)
    ∙ after_profile sum block emit notes.profile notes.guard_at (number + 1) notes.guards h.guard_at h.guards

-- the lines from the profile on
abbrev profile_lines : ToldNotes → List (List ℕ)
profile_lines notes = number_line (codes "profile ") notes.profile ∷ (optional_lines (codes "guard-at ") notes.guard_at ++ map guard_line notes.guards)

abbrev limit_by : Option ℕ → ℕ → ℕ × List (List ℕ) → Option ℕ → Result ToldNotes (ℕ × Wanted)
limit_by sum block left found = with_profile sum block found (cond (is_some found) (past left) left)

after_block : (sum : Option ℕ) (block : ℕ) (emit : Option ℕ) (notes : ToldNotes) (number : ℕ) → IfSome emit IsWord → AreSpelled notes
    → limit_by sum block (number, optional_lines (codes "emit ") emit ++ profile_lines notes) (first_number (codes "emit ") (number, optional_lines (codes "emit ") emit ++ profile_lines notes))
    ≡ Ok (record { sum = sum; block = block; emit = emit; profile = notes.profile; guard_at = notes.guard_at; guards = notes.guards })
after_block sum block None notes number small h = profile_again sum block None notes number h
after_block sum block (Some limit) notes number small h =
    ap (limit_by sum block (number, number_line (codes "emit ") limit ∷ profile_lines notes)) (decimal_again limit small)
    ∙ profile_again sum block (Some limit) notes (number + 1) h

abbrev block_by : Option ℕ → ℕ × List (List ℕ) → Option ℕ → Result ToldNotes (ℕ × Wanted)
block_by sum left found = ok_or found (left.0, wanted.Block) >>= λ block. limit_by sum block (past left) (first_number (codes "emit ") (past left))

-- the lines from the block's size on
abbrev pub block_lines : ToldNotes → List (List ℕ)
block_lines notes = number_line (codes "block ") notes.block ∷ (optional_lines (codes "emit ") notes.emit ++ profile_lines notes)

block_again : (sum : Option ℕ) (notes : ToldNotes) (number : ℕ) → AreSpelled notes → with_block sum (number, block_lines notes)
    ≡ Ok (record { sum = sum; block = notes.block; emit = notes.emit; profile = notes.profile; guard_at = notes.guard_at; guards = notes.guards })
block_again sum notes number h =
    ap (block_by sum (number, block_lines notes)) (decimal_again notes.block h.block)
    ∙ after_block sum notes.block notes.emit notes (number + 1) h.emit h

abbrev sum_by : ℕ × List (List ℕ) → Option ℕ → Result ToldNotes (ℕ × Wanted)
sum_by left found = with_block found (cond (is_some found) (past left) left)

after_heading : (sum : Option ℕ) (notes : ToldNotes) (number : ℕ) → IfSome sum IsWord → AreSpelled notes
    → sum_by (number, optional_lines (codes "sum ") sum ++ block_lines notes) (first_number (codes "sum ") (number, optional_lines (codes "sum ") sum ++ block_lines notes))
    ≡ Ok (record { sum = sum; block = notes.block; emit = notes.emit; profile = notes.profile; guard_at = notes.guard_at; guards = notes.guards })
after_heading None notes number small h = block_again None notes number h
after_heading (Some sum) notes number small h =
    ap (sum_by (number, number_line (codes "sum ") sum ∷ block_lines notes)) (decimal_again sum small)
    ∙ block_again (Some sum) notes (number + 1) h

pub printed_notes_read_back : PrintedNotesReadBack
printed_notes_read_back notes h =
    ap (λ (ls : List (List ℕ)). heading_of (1, ls) >>= with_sum) (lines-unlines (notes_lines notes) (notes_printable notes h))
    ∙ after_heading notes.sum notes 2 h.sum h
