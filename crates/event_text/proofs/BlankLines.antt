-- Blanks and comments tell nothing.
use Rattle.std.proofs.Common.{◌≡◌, ℕ, ◌-◌, ◌+◌, ◌==◌, suc, zero, not, Bool, true, false, cond, List, [], ◌∷◌, ◌++◌, length, take, get_or, Some, None, refl, ap, ◌∙◌, append-nil, arith, inl, inr}
use Rattle.std.specs.List.{AllPass, list_all}
use Rattle.std.specs.Char.{is_ascii}
use Rattle.std.proofs.Math.Seq.{take-append-le, take-append-add}
use Rattle.std.proofs.lemmas.Bool.Decides.{leb_tells, nat_tests}
use Rattle.std.proofs.lemmas.List.Elements.{All-append, All-cons, All-from_recursion, All-head, All-nil, All-tail, All-take, All-weaker}
use Rattle.std.proofs.lemmas.List.Sums.{list_all-from_AllPass}
use Rattle.text_lines.specs.Cut.{is_blank_byte, uncommented}
use Rattle.text_lines.proofs.Proved.{ascii_behind, blank_is_ascii, blank_is_code, uncommented-comment, uncommented-same}
use Rattle.event_text.specs.CommandFile.{line_told, words_told}
use Rattle.event_text.specs.Laws.{BlankLinesMakeNoEvent, CommentsDontCount, IsComment}
use Rattle.event_text.specs.Words.{words_of}
use Rattle.event_text.proofs.SingleLines.{told_alone}
use Rattle.event_text.proofs.WordLemmas.{words_of-blank}

-- ---- comments

pub comments_dont_count : CommentsDontCount
comments_dont_count line [] is = ap line_told (append-nil line)
comments_dont_count line (first ∷ rest) is =
    let comment : list_all is_ascii (59 ∷ rest) ≡ true = list_all-from_AllPass is_ascii rest is.1 in
    ap (λ (b : ℕ). line_told (line ++ b ∷ rest)) is.0
    ∙ ap (λ (b : Bool). cond b (words_told (words_of (uncommented (line ++ 59 ∷ rest)))) None) (ascii_behind line (59 ∷ rest) comment)
    ∙ ap (λ (text : List ℕ). cond (list_all is_ascii line) (words_told (words_of text)) None) (uncommented-comment line rest)

-- ---- blanks

blank_in_line : (b : ℕ) → is_blank_byte b ≡ true → not (b == 10) ≡ true
blank_in_line b e = grind (arith, nat_tests)

words_of-blanks : (blanks : List ℕ) → AllPass is_blank_byte blanks → words_of blanks ≡ []
words_of-blanks [] h = refl
words_of-blanks (b ∷ blanks) h =
    words_of-blank b blanks (All-head (λ b. is_blank_byte b ≡ true) b blanks h) ∙ words_of-blanks blanks (All-tail (λ b. is_blank_byte b ≡ true) b blanks h)

blanks_tell : (blanks : List ℕ) → AllPass is_blank_byte blanks → line_told blanks ≡ Some None
blanks_tell blanks h =
    let none = All-weaker (λ b. is_blank_byte b ≡ true) (λ b. (b == 59) ≡ false) blank_is_code blanks h in
    ap (λ (b : Bool). cond b (words_told (words_of (uncommented blanks))) None)
    (list_all-from_AllPass is_ascii blanks (All-weaker (λ b. is_blank_byte b ≡ true) (λ b. is_ascii b ≡ true) blank_is_ascii blanks h))
    ∙ ap (λ (text : List ℕ). words_told (words_of text)) (uncommented-same blanks none)
    ∙ ap words_told (words_of-blanks blanks h)

both_tell : (blanks comment : List ℕ) → AllPass is_blank_byte blanks → IsComment comment → line_told (blanks ++ comment) ≡ Some None
both_tell blanks comment h is = comments_dont_count blanks comment is ∙ blanks_tell blanks h

-- ---- without a last byte

comment_front : (n : ℕ) (comment : List ℕ) → IsComment comment → IsComment (take n comment)
comment_front zero comment is = tt
comment_front (suc n) [] is = tt
comment_front (suc n) (first ∷ rest) is =
    (is.0, All-take (λ b. is_ascii b ≡ true) n rest is.1, All-take (λ b. not (b == 10) ≡ true) n rest is.2)

front_tells : (n : ℕ) (blanks comment : List ℕ) → AllPass is_blank_byte blanks → IsComment comment → line_told (take n (blanks ++ comment)) ≡ Some None
front_tells n blanks comment h is =
    elim (leb_tells n (length blanks)) [
      | inl within ↦ ap line_told (take-append-le n blanks comment within.1) ∙ blanks_tell (take n blanks) (All-take (λ b. is_blank_byte b ≡ true) n blanks h)
      | inr behind ↦
          let left = n - length blanks in
          let parts : n ≡ length blanks + left = omega (arith, behind.1) in
          ap (λ (k : ℕ). line_told (take k (blanks ++ comment))) parts
          ∙ ap line_told (take-append-add blanks comment left)
          ∙ both_tell blanks (take left comment) h (comment_front left comment is)
    ]

stripped_tells : (blanks comment : List ℕ) (test : Bool) → AllPass is_blank_byte blanks → IsComment comment
    → line_told (cond test (take (length (blanks ++ comment) - 1) (blanks ++ comment)) (blanks ++ comment)) ≡ Some None
stripped_tells blanks comment true h is = front_tells (length (blanks ++ comment) - 1) blanks comment h is
stripped_tells blanks comment false h is = both_tell blanks comment h is

comment_in_line : (comment : List ℕ) → IsComment comment → AllPass (λ b. not (b == 10)) comment
comment_in_line [] is = All-nil (λ b. not (b == 10) ≡ true)
comment_in_line (first ∷ rest) is = All-cons (λ b. not (b == 10) ≡ true) first rest (ap (λ (b : ℕ). not (b == 10)) is.0) is.2

pub blank_lines_make_no_event : BlankLinesMakeNoEvent
blank_lines_make_no_event blanks comment end are is =
    let h = All-from_recursion (λ b. is_blank_byte b ≡ true) blanks are in
    let line = blanks ++ comment in
    let whole : AllPass (λ b. not (b == 10)) line =
    All-append (λ b. not (b == 10) ≡ true) blanks comment (All-weaker (λ b. is_blank_byte b ≡ true) (λ b. not (b == 10) ≡ true) blank_in_line blanks h) (comment_in_line comment is) in
    told_alone line (Some None) whole (both_tell blanks comment h is) (stripped_tells blanks comment (get_or line (length line - 1) 0 == 13) h is) end
