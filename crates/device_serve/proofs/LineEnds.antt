-- How many lines of a text have their end.
use Rattle.std.proofs.Common.{◌≡◌, ℕ, ◌+◌, ◌<◌, Bool, true, false, cond, eqb, List, [], ◌∷◌, ◌++◌, None, length, length-append, refl, ap, sym, ◌∙◌, arith}
use Rattle.std.specs.List.{onto_first, slice_split}
use Rattle.std.specs.Str.Lines.{lines, lines_of_parts}
use Rattle.std.proofs.lemmas.List.Splits.{length-slice_split}
use Rattle.std.proofs.lemmas.List.Sums.{sum_by-append, sum_by-cons}
use Rattle.text_lines.specs.Cut.{cut_at}
use Rattle.text_lines.proofs.Proved.{uncut_is_one_part}
use Rattle.device_serve.specs.LineStream.{IsEnded, ends_in}

-- what a byte counts for
abbrev weight : ℕ → ℕ
weight byte = cond (eqb byte 10) 1 0

abbrev parts : List ℕ → List (List ℕ)
parts text = slice_split (λ b. eqb b 10) text

pub ends-append : (first second : List ℕ) → ends_in (first ++ second) ≡ ends_in first + ends_in second
ends-append first second = sum_by-append weight first second

-- the lines in parts of which the first is one more
more_lines : (part : List ℕ) (ps : List (List ℕ)) → 0 < length ps → length (lines_of_parts (part ∷ ps)) ≡ length (lines_of_parts ps) + 1
more_lines part [] some = absurd (omega (arith, some))
more_lines part (next ∷ ps) some = omega arith

-- the lines in parts of which the first is longer
same_lines : (byte : ℕ) (ps : List (List ℕ)) → 1 < length ps → length (lines_of_parts (onto_first byte ps)) ≡ length (lines_of_parts ps)
same_lines byte [] some = absurd (omega (arith, some))
same_lines byte (part ∷ []) some = absurd (omega (arith, some))
same_lines byte (part ∷ next ∷ ps) some = refl

lines_with : (byte : ℕ) (ps : List (List ℕ)) (n : ℕ) (is_end : Bool) → 1 < length ps → length (lines_of_parts ps) ≡ n + 1
    → length (lines_of_parts (cond is_end ([] ∷ ps) (onto_first byte ps))) ≡ cond is_end 1 0 + n + 1
lines_with byte ps n true some count = omega (arith, more_lines [] ps (omega (arith, some)), count)
lines_with byte ps n false some count = omega (arith, same_lines byte ps some, count)

-- a text with a line's end after it
ended_lines : (text : List ℕ) → length (lines (text ++ 10 ∷ [])) ≡ ends_in text + 1
ended_lines [] = refl
ended_lines (byte ∷ text) =
    let one : ends_in (10 ∷ []) ≡ 1 = refl in
    lines_with byte (parts (text ++ 10 ∷ [])) (ends_in text) (eqb byte 10)
    (omega (arith, length-slice_split (λ b. eqb b 10) (text ++ 10 ∷ []), ends-append text (10 ∷ []), one)) (ended_lines text)
    ∙ ap (λ n. n + 1) (sym (sum_by-cons weight byte text))

-- a text that ends at a line's end, and one after it in which no line ends
pub ends_before : (text unended : List ℕ) → IsEnded text → ends_in unended ≡ 0 → length (lines text) ≡ ends_in (text ++ unended)
ends_before text unended is_ended none =
    let one : length (lines (10 ∷ [])) ≡ 1 = refl in
    omega (arith, ap length (is_ended (10 ∷ [])), length-append (lines text) (lines (10 ∷ [])), one, ended_lines text, ends-append text unended, none)

-- no line ends in what isn't cut
pub uncut_ends : (rest : List ℕ) → None ≡ cut_at 10 rest → ends_in rest ≡ 0
uncut_ends rest uncut = omega (arith, ap length (uncut_is_one_part 10 rest (sym uncut)), length-slice_split (λ b. eqb b 10) rest)
