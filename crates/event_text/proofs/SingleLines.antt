-- Files of one line, and what it tells.
use Rattle.std.proofs.Common.{◌≡◌, ℕ, ◌-◌, ◌==◌, not, Bool, true, false, cond, List, [], ◌∷◌, ◌++◌, length, take, get_or, Option, Some, Ok, refl, sym, ap, ◌∙◌, append_assoc, append-nil, arith, length-append}
use Rattle.std.specs.Char.{is_newline}
use Rattle.std.specs.List.{All, AllPass}
use Rattle.std.specs.Str.Lines.{lines, lines_of_parts, strip_carriage_return}
use Rattle.std.proofs.Math.Dec.{eqb-suc-zero}
use Rattle.std.proofs.Math.Seq.{take-append_seam, get_or-append_seam}
use Rattle.std.proofs.lemmas.Bool.{not-true}
use Rattle.std.proofs.lemmas.List.Elements.{All-push, All-weaker}
use Rattle.std.proofs.lemmas.List.Splits.{slice_split_at, slice_split_none}
use Rattle.device_events.specs.ToldEvents.{ToldEvent}
use Rattle.event_text.specs.CommandFile.{line_told, line_before, events_from, events_in}
use Rattle.event_text.specs.Laws.{LineEnd, EndOfFile, Newline, ReturnNewline, ReadsBack, end_text}
use Rattle.event_text.proofs.PlainLines.{InLine, IsSpelled, in_one_line, no_return}

unended : (line : List ℕ) → AllPass (λ b. not (b == 10)) line → All (λ b. is_newline b ≡ false) line
unended line h = All-weaker (λ b. not (b == 10) ≡ true) (λ b. is_newline b ≡ false) (λ b e. not-true (b == 10) e) line h

-- a line in front of its newline, which is the last
lines-one : (line : List ℕ) → AllPass (λ b. not (b == 10)) line → lines (line ++ 10 ∷ []) ≡ strip_carriage_return line ∷ []
lines-one line whole = ap lines_of_parts (slice_split_at is_newline line 10 [] (unended line whole) refl)

-- a carriage return there is none of the line
stripped : (line : List ℕ) → strip_carriage_return (line ++ 13 ∷ []) ≡ line
stripped line =
    let all = line ++ 13 ∷ [] in
    let last : length all - 1 ≡ length line = omega (arith, length-append line (13 ∷ [])) in
    ap (λ (n : ℕ). cond (get_or all n 0 == 13) (take n all) all) last
    ∙ ap (λ (b : ℕ). cond (b == 13) (take (length line) all) all) (get_or-append_seam line 13 [] 0)
    ∙ take-append_seam line (13 ∷ [])

at_end : (line : List ℕ) → AllPass (λ b. not (b == 10)) line → events_in line ≡ line_before 1 (line_told line) (Ok [])
at_end [] whole = refl
at_end (b ∷ line) whole =
    ap (λ (parts : List (List ℕ)). events_from 1 (lines_of_parts parts)) (slice_split_none is_newline (b ∷ line) (unended (b ∷ line) whole))
    ∙ ap (λ (empty : Bool). events_from 1 (cond empty [] ((b ∷ line) ∷ []))) (eqb-suc-zero (length line))

-- what a line tells, whatever ends it, where it tells the same without a carriage return at its end
pub told_alone : (line : List ℕ) (told : Option (Option ToldEvent)) → AllPass (λ b. not (b == 10)) line → line_told line ≡ told → line_told (strip_carriage_return line) ≡ told → (end : LineEnd)
    → events_in (line ++ end_text end) ≡ line_before 1 told (Ok [])
told_alone line told whole is stripped_is EndOfFile =
    ap events_in (append-nil line) ∙ at_end line whole ∙ ap (λ (o : Option (Option ToldEvent)). line_before 1 o (Ok [])) is
told_alone line told whole is stripped_is Newline =
    ap (events_from 1) (lines-one line whole) ∙ ap (λ (o : Option (Option ToldEvent)). line_before 1 o (Ok [])) stripped_is
told_alone line told whole is stripped_is ReturnNewline =
    let return = line ++ 13 ∷ [] in
    let alone : AllPass (λ b. not (b == 10)) return = All-push (λ b. not (b == 10) ≡ true) line 13 whole refl in
    ap events_in (sym (append_assoc line (13 ∷ []) (10 ∷ [])))
    ∙ ap (events_from 1) (lines-one return alone)
    ∙ ap (λ (l : List ℕ). line_before 1 (line_told l) (Ok [])) (stripped line)
    ∙ ap (λ (o : Option (Option ToldEvent)). line_before 1 o (Ok [])) is

-- a line without a carriage return at its end
last_plain : (line : List ℕ) → All InLine line → (get_or line (length line - 1) 0 == 13) ≡ false
last_plain [] plain = refl
last_plain (b ∷ line) plain = no_return (get_or (b ∷ line) (length (b ∷ line) - 1) 0) (plain (length (b ∷ line) - 1) 0 (omega arith))

pub spelled_reads_back : (line : List ℕ) (event : ToldEvent) → IsSpelled line event → ReadsBack line event
spelled_reads_back line event spelled =
    let same : strip_carriage_return line ≡ line = ap (λ (b : Bool). cond b (take (length line - 1) line) line) (last_plain line spelled.plain) in
    told_alone line (Some (Some event)) (in_one_line line spelled.plain) spelled.told (ap line_told same ∙ spelled.told)
