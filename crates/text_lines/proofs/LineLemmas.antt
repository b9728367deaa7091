-- The lines of a text, one after the other.
use Rattle.std.proofs.Common.{◌≡◌, ℕ, ◌<◌, cond, eqb, List, [], ◌∷◌, length, Some, None, sym, ap, ◌∙◌, arith}
use Rattle.std.specs.List.{slice_split}
use Rattle.std.specs.Str.Lines.{lines, lines_of_parts, strip_carriage_return}
use Rattle.std.proofs.Math.Dec.{eqb-suc-zero}
use Rattle.text_lines.specs.Cut.{cut_at}
use Rattle.text_lines.specs.Laws.{HasFirst, LinesAreCut}
use Rattle.text_lines.proofs.PartLemmas.{split_some, split_whole, split_more}

behind_first : (line : List ℕ) (parts : List (List ℕ)) → HasFirst parts → lines_of_parts (line ∷ parts) ≡ strip_carriage_return line ∷ lines_of_parts parts
behind_first line parts h = ap (λ ps. lines_of_parts (line ∷ ps)) h.2 ∙ ap (λ ps. strip_carriage_return line ∷ lines_of_parts ps) (sym h.2)

pub cut_line : LinesAreCut
cut_line text line behind e =
    ap lines_of_parts (split_more 10 text line behind e) ∙ behind_first line (slice_split (λ b. eqb b 10) behind) (split_some 10 behind)

pub lines-cut : (text line behind shown : List ℕ) → Some (line, behind) ≡ cut_at 10 text → shown ≡ strip_carriage_return line → lines text ≡ shown ∷ lines behind
lines-cut text line behind shown e f = cut_line text line behind (sym e) ∙ ap (λ l. l ∷ lines behind) (sym f)

last_line : (text : List ℕ) → 0 < length text → lines_of_parts (text ∷ []) ≡ text ∷ []
last_line [] h = absurd (omega arith)
last_line (b ∷ text) h = ap (λ c. cond c [] ((b ∷ text) ∷ [])) (eqb-suc-zero (length text))

pub lines-last : (text first rest : List ℕ) → 0 < length text → None ≡ cut_at 10 text → first ≡ text → rest ≡ [] → lines text ≡ first ∷ lines rest
lines-last text first rest some e f g = rw (f, g) (ap lines_of_parts (split_whole 10 text (sym e)) ∙ last_line text some)
