-- The lines of files that are joined, and the events that they tell.
use Rattle.std.proofs.Common.{◌≡◌, ℕ, ◌+◌, ◌<◌, Bool, true, false, cond, List, [], ◌∷◌, ◌++◌, length, map, Option, Some, None, Result, Ok, Err, refl, sym, ap, ◌∙◌, append_assoc, append-nil, arith}
use Rattle.std.specs.Char.{is_newline}
use Rattle.std.specs.List.{slice_split, onto_first}
use Rattle.std.specs.Str.Lines.{lines, lines_of_parts, strip_carriage_return}
use Rattle.std.proofs.lemmas.List.Splits.{length-slice_split}
use Rattle.common_definitions.specs.Readings.{with_front}
use Rattle.device_events.specs.ToldEvents.{ToldEvent}
use Rattle.event_text.specs.CommandFile.{line_told, line_before, events_from}
use Rattle.event_text.specs.Laws.{EventsAreByLine, ended, told_by_both}

-- ---- lines

onto_first-append : (x : ℕ) (parts behind : List (List ℕ)) → 0 < length parts → onto_first x (parts ++ behind) ≡ onto_first x parts ++ behind
onto_first-append x [] behind some = absurd (omega arith)
onto_first-append x (part ∷ parts) behind some = refl

joined_if : (x : ℕ) (all parts behind : List (List ℕ)) (test : Bool) → all ≡ parts ++ behind → 0 < length parts → cond test ([] ∷ all) (onto_first x all) ≡ cond test ([] ∷ parts) (onto_first x parts) ++ behind
joined_if x all parts behind true e some = ap (λ (ps : List (List ℕ)). [] ∷ ps) e
joined_if x all parts behind false e some = ap (onto_first x) e ∙ onto_first-append x parts behind some

slice_split-joined : (front behind : List ℕ) → slice_split is_newline (front ++ 10 ∷ behind) ≡ slice_split is_newline front ++ slice_split is_newline behind
slice_split-joined [] behind = refl
slice_split-joined (x ∷ front) behind =
    joined_if x (slice_split is_newline (front ++ 10 ∷ behind)) (slice_split is_newline front) (slice_split is_newline behind) (is_newline x) (slice_split-joined front behind)
    (omega (arith, length-slice_split is_newline front))

lines_of_parts-append : (parts behind : List (List ℕ)) → 0 < length behind → lines_of_parts (parts ++ behind) ≡ map strip_carriage_return parts ++ lines_of_parts behind
lines_of_parts-append [] behind some = refl
lines_of_parts-append (x ∷ parts) [] some = absurd (omega arith)
lines_of_parts-append (x ∷ []) (y ∷ behind) some = refl
lines_of_parts-append (x ∷ next ∷ parts) (y ∷ behind) some = ap (λ (ls : List (List ℕ)). strip_carriage_return x ∷ ls) (lines_of_parts-append (next ∷ parts) (y ∷ behind) some)

lines-joined : (front behind : List ℕ) → lines (front ++ 10 ∷ behind) ≡ map strip_carriage_return (slice_split is_newline front) ++ lines behind
lines-joined front behind =
    ap lines_of_parts (slice_split-joined front behind)
    ∙ lines_of_parts-append (slice_split is_newline front) (slice_split is_newline behind) (omega (arith, length-slice_split is_newline behind))

lines-ended : (front : List ℕ) → lines (ended front) ≡ map strip_carriage_return (slice_split is_newline front)
lines-ended front = lines-joined front [] ∙ append-nil (map strip_carriage_return (slice_split is_newline front))

-- a file and what stands behind its last line's end
pub lines-behind : (front behind : List ℕ) → lines (ended front ++ behind) ≡ lines (ended front) ++ lines behind
lines-behind front behind =
    ap lines (append_assoc front (10 ∷ []) behind) ∙ lines-joined front behind ∙ ap (λ (ls : List (List ℕ)). ls ++ lines behind) (sym (lines-ended front))

-- ---- events

one_more : (event : ToldEvent) (count : ℕ) (first later : Result (List ToldEvent) ℕ) → with_front (event ∷ []) (told_by_both count first later) ≡ told_by_both count (with_front (event ∷ []) first) later
one_more event count (Err line) later = refl
one_more event count (Ok events) (Ok later) = refl
one_more event count (Ok events) (Err line) = refl

line_joined : (number count : ℕ) (told : Option (Option ToldEvent)) (first later : Result (List ToldEvent) ℕ) → line_before number told (told_by_both count first later) ≡ told_by_both count (line_before number told first) later
line_joined number count None first later = refl
line_joined number count (Some None) first later = refl
line_joined number count (Some (Some event)) first later = one_more event count first later

moved : (number count : ℕ) (told : Option (Option ToldEvent)) (later : Result (List ToldEvent) ℕ) → line_before (count + number) told (told_by_both count (Ok []) later) ≡ told_by_both count (Ok []) (line_before number told later)
moved number count None later = refl
moved number count (Some None) later = refl
moved number count (Some (Some event)) (Ok later) = refl
moved number count (Some (Some event)) (Err line) = refl

-- lines that are counted so many further on
counted_on : (number count : ℕ) (ls : List (List ℕ)) → events_from (count + number) ls ≡ told_by_both count (Ok []) (events_from number ls)
counted_on number count [] = refl
counted_on number count (line ∷ rest) =
    let on : count + number + 1 ≡ count + (number + 1) = omega arith in
    ap (λ (n : ℕ). line_before (count + number) (line_told line) (events_from n rest)) on
    ∙ ap (line_before (count + number) (line_told line)) (counted_on (number + 1) count rest)
    ∙ moved number count (line_told line) (events_from (number + 1) rest)

-- the events of lines that follow others
events_from-append : (number count : ℕ) (ls behind : List (List ℕ)) → number + length ls ≡ count + 1 → events_from number (ls ++ behind) ≡ told_by_both count (events_from number ls) (events_from 1 behind)
events_from-append number count [] behind e = ap (λ (n : ℕ). events_from n behind) (let same : number ≡ count + 1 = omega (arith, e) in same) ∙ counted_on 1 count behind
events_from-append number count (line ∷ rest) behind e =
    ap (line_before number (line_told line)) (events_from-append (number + 1) count rest behind (omega (arith, e)))
    ∙ line_joined number count (line_told line) (events_from (number + 1) rest) (events_from 1 behind)

-- the events of lines, counted from 1 on, that follow others
pub events_joined : (ls behind : List (List ℕ)) → events_from 1 (ls ++ behind) ≡ told_by_both (length ls) (events_from 1 ls) (events_from 1 behind)
events_joined ls behind = events_from-append 1 (length ls) ls behind (omega arith)

pub events_are_by_line : EventsAreByLine
events_are_by_line first second = ap (events_from 1) (lines-behind first second) ∙ events_joined (lines (ended first)) (lines second)
