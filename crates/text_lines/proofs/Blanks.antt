-- Blanks as bytes, and at the end of a text; ASCII behind a text.
use Rattle.std.proofs.Common.{◌≡◌, ℕ, zero, suc, ◌-◌, ◌+◌, ◌<◌, ◌≤◌, Bool, true, false, ◌&&◌, ◌==◌, eqb, cond, List, [], ◌∷◌, ◌++◌, length, take, get_or, refl, sym, ap, ◌∙◌, arith}
use Rattle.std.specs.Bool.{MatchBool}
use Rattle.std.specs.Char.{is_ascii}
use Rattle.std.specs.List.{list_all, slice_index}
use Rattle.std.specs.Str.{IsAscii, IsNotAscii}
use Rattle.std.proofs.Math.Bool.{and-false, and-true}
use Rattle.std.proofs.Math.Dec.{eqb-suc-zero}
use Rattle.std.proofs.lemmas.Bool.{le-ltb, lt-ltb}
use Rattle.std.proofs.lemmas.Bool.Decides.{nat_tests}
use Rattle.std.proofs.lemmas.List.{length-append, take_more, take_all}
use Rattle.std.proofs.lemmas.List.Folds.{list_all-append}
use Rattle.text_lines.specs.Cut.{is_blank_byte, without_end_blanks}

-- ---- a blank byte

-- a blank byte is ASCII
pub blank_is_ascii : (byte : ℕ) → is_blank_byte byte ≡ true → is_ascii byte ≡ true
blank_is_ascii byte e = grind (arith, nat_tests)

-- it begins no comment
pub blank_is_code : (byte : ℕ) → is_blank_byte byte ≡ true → (byte == 59) ≡ false
blank_is_code byte e = grind (arith, nat_tests)

-- ---- ASCII

ascii_each : (text : List ℕ) → IsAscii text → list_all is_ascii text ≡ true
ascii_each [] each = refl
ascii_each (byte ∷ text) each = rw (lt-ltb byte 128 (each 0), ascii_each text (λ i. each (suc i))) refl

other_byte : (text : List ℕ) (at : ℕ) → 128 ≤ slice_index text at → list_all is_ascii text ≡ false
other_byte [] at other = absurd (omega (arith, other))
other_byte (byte ∷ text) zero other = rw (le-ltb byte 128 other) refl
other_byte (byte ∷ text) (suc at) other = rw (other_byte text at other) (and-false (is_ascii byte))

-- what the library's test tells is whether each byte passes
pub ascii_tested : (text : List ℕ) (test : Bool) → MatchBool test (IsAscii text) (IsNotAscii text) → test ≡ list_all is_ascii text
ascii_tested text true each = sym (ascii_each text each)
ascii_tested text false other = sym (other_byte text other.0 other.1)

-- a text is ASCII, where ASCII stands behind it, if it was without that
pub ascii_behind : (text rest : List ℕ) → list_all is_ascii rest ≡ true → list_all is_ascii (text ++ rest) ≡ list_all is_ascii text
ascii_behind text rest e = list_all-append is_ascii text rest ∙ ap (λ (b : Bool). list_all is_ascii text && b) e ∙ and-true (list_all is_ascii text)

-- ---- blanks at the end

-- a blank at the end goes
without_end_blanks-push_blank : (text : List ℕ) (byte : ℕ) → is_blank_byte byte ≡ true → without_end_blanks (text ++ byte ∷ []) ≡ without_end_blanks text
without_end_blanks-push_blank [] byte e = rw e refl
without_end_blanks-push_blank (b ∷ text) byte e = rw (without_end_blanks-push_blank text byte e) refl

not_empty : (blank : Bool) (count : ℕ) (xs ys : List ℕ) → 0 < count → cond (blank && eqb count 0) xs ys ≡ ys
not_empty true zero xs ys some = absurd (omega arith)
not_empty true (suc count) xs ys some = ap (λ c. cond c xs ys) (eqb-suc-zero count)
not_empty false count xs ys some = refl

-- nothing goes where nothing goes of what stands at the end
pub end_stays : (xs ys : List ℕ) → 0 < length ys → without_end_blanks ys ≡ ys → without_end_blanks (xs ++ ys) ≡ xs ++ ys
end_stays [] ys some stays = stays
end_stays (x ∷ xs) ys some stays =
    let more = end_stays xs ys some stays in
    ap (λ (text : List ℕ). cond (is_blank_byte x && eqb (length text) 0) [] (x ∷ text)) more
    ∙ not_empty (is_blank_byte x) (length (xs ++ ys)) [] (x ∷ (xs ++ ys)) (omega (arith, some, length-append xs ys))

-- with another byte there nothing goes
without_end_blanks-push : (text : List ℕ) (byte : ℕ) → is_blank_byte byte ≡ false → without_end_blanks (text ++ byte ∷ []) ≡ text ++ byte ∷ []
without_end_blanks-push text byte e = end_stays text (byte ∷ []) (omega arith) (rw e refl)

-- the last byte behind the others
last : (text : List ℕ) → 1 ≤ length text → text ≡ take (length text - 1) text ++ get_or text (length text - 1) 0 ∷ []
last text some =
    let all : take (length text - 1 + 1) text ≡ text = take_all _ text (omega arith) in
    sym all ∙ take_more text (length text - 1) 0 (omega arith)

pub blank_last : (text : List ℕ) → 1 ≤ length text → is_blank_byte (get_or text (length text - 1) 0) ≡ true → without_end_blanks (take (length text - 1) text) ≡ without_end_blanks text
blank_last text some e = sym (ap without_end_blanks (last text some) ∙ without_end_blanks-push_blank (take (length text - 1) text) _ e)

pub other_last : (text : List ℕ) → 1 ≤ length text → is_blank_byte (get_or text (length text - 1) 0) ≡ false → text ≡ without_end_blanks text
other_last text some e = last text some ∙ sym (ap without_end_blanks (last text some) ∙ without_end_blanks-push (take (length text - 1) text) _ e)
