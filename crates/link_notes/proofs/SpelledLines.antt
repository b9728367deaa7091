-- The lines of a text that is made of lines.
use Rattle.std.proofs.Common.{◌≡◌, ℕ, suc, ◌+◌, ◌-◌, ◌==◌, Bool, true, false, cond, ltb, List, [], ◌∷◌, ◌++◌, length, take, drop, get_or, Some, None, refl, ap, ◌∙◌, arith, length-append}
use Rattle.std.specs.List.{All, position_or_len}
use Rattle.std.specs.Str.Lines.{lines, strip_carriage_return}
use Rattle.std.proofs.lemmas.Bool.{lt-ltb}
use Rattle.std.proofs.lemmas.Bool.Decides.{nat_tests}
use Rattle.std.proofs.lemmas.List.{get_or_append_left, get_or_at}
use Rattle.std.proofs.lemmas.List.Elements.{All-head, All-tail, All-weaker}
use Rattle.std.proofs.lemmas.List.Sums.{position_or_len_is}
use Rattle.std.proofs.Math.Seq.{take-append_seam}
use Rattle.text_lines.specs.Cut.{cut_at}
use Rattle.text_lines.proofs.Proved.{lines_are_cut}
use Rattle.link_notes.specs.Laws.{IsPrintable, IsVisible}
use Rattle.link_notes.specs.Text.{unlines}

-- no byte of a text is this one
abbrev pub Lacks : ℕ → List ℕ → Type 0
Lacks byte text = All (λ b. (b == byte) ≡ false) text

same_byte : (byte : ℕ) → (byte == byte) ≡ true
same_byte byte = grind (arith, nat_tests)

-- behind the text, a byte that it lacks is the first
position : (byte : ℕ) (front rest : List ℕ) → Lacks byte front → position_or_len (λ b. b == byte) (front ++ byte ∷ rest) ≡ length front
position byte front rest none =
    position_or_len_is (λ b. b == byte) (front ++ byte ∷ rest) (length front) 0 (omega (arith, length-append front (byte ∷ rest)))
    (λ k inside. rw get_or_append_left (none k 0 inside))
    (λ inside. rw (get_or_at front byte rest 0 (length front) refl) (same_byte byte))

drop_behind : (byte : ℕ) (front rest : List ℕ) → drop (length front + 1) (front ++ byte ∷ rest) ≡ rest
drop_behind byte [] rest = refl
drop_behind byte (x ∷ front) rest =
    let on : length (x ∷ front) + 1 ≡ suc (length front + 1) = omega arith in
    ap (λ (n : ℕ). drop n (x ∷ (front ++ byte ∷ rest))) on ∙ drop_behind byte front rest

-- a text is cut at a byte that its front lacks
pub cut_front : (byte : ℕ) (front rest : List ℕ) → Lacks byte front → cut_at byte (front ++ byte ∷ rest) ≡ Some (front, rest)
cut_front byte front rest none =
    let text = front ++ byte ∷ rest in
    ap (λ (n : ℕ). cond (ltb n (length text)) (Some (take n text, drop (n + 1) text)) None) (position byte front rest none)
    ∙ ap (λ (b : Bool). cond b (Some (take (length front) text, drop (length front + 1) text)) None) (lt-ltb (length front) (length text) (omega (arith, length-append front (byte ∷ rest))))
    ∙ ap (λ (xs : List ℕ). Some (xs, drop (length front + 1) text)) (take-append_seam front (byte ∷ rest))
    ∙ ap (λ (xs : List ℕ). Some (front, xs)) (drop_behind byte front rest)

-- ---- lines of printable bytes

no_newline : (byte : ℕ) → IsPrintable byte → (byte == 10) ≡ false
no_newline byte h = grind (arith, nat_tests)

no_return : (byte : ℕ) → IsPrintable byte → (byte == 13) ≡ false
no_return byte h = grind (arith, nat_tests)

no_space : (byte : ℕ) → IsVisible byte → (byte == 32) ≡ false
no_space byte h = grind (arith, nat_tests)

pub one_word : (text : List ℕ) → All IsVisible text → Lacks 32 text
one_word text h = All-weaker IsVisible (λ b. (b == 32) ≡ false) no_space text h

one_line : (text : List ℕ) → All IsPrintable text → Lacks 10 text
one_line text h = All-weaker IsPrintable (λ b. (b == 10) ≡ false) no_newline text h

last_plain : (line : List ℕ) → All IsPrintable line → (get_or line (length line - 1) 0 == 13) ≡ false
last_plain [] plain = refl
last_plain (b ∷ line) plain = no_return (get_or (b ∷ line) (length (b ∷ line) - 1) 0) (plain (length (b ∷ line) - 1) 0 (omega arith))

stays : (line : List ℕ) → All IsPrintable line → strip_carriage_return line ≡ line
stays line plain = ap (λ (b : Bool). cond b (take (length line - 1) line) line) (last_plain line plain)

-- the lines of such lines, each with its end, are these
pub lines-unlines : (ls : List (List ℕ)) → All (All IsPrintable) ls → lines (unlines ls) ≡ ls
lines-unlines [] plain = refl
lines-unlines (line ∷ ls) plain =
    let first = All-head (All IsPrintable) line ls plain in
    lines_are_cut (unlines (line ∷ ls)) line (unlines ls) (cut_front 10 line (unlines ls) (one_line line first))
    ∙ ap (λ (l : List ℕ). l ∷ lines (unlines ls)) (stays line first)
    ∙ ap (λ (rest : List (List ℕ)). line ∷ rest) (lines-unlines ls (All-tail (All IsPrintable) line ls plain))
