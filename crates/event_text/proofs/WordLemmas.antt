-- The words of a line, one after the other.
use Rattle.std.proofs.Common.{◌≡◌, ℕ, ◌+◌, ◌<◌, ◌≤◌, zero, suc, Bool, true, false, cond, ltb, List, [], ◌∷◌, ◌++◌, length, take, drop, get_or, filter, refl, sym, ap, ◌∙◌, subst, ◌⊎◌, inl, inr, arith}
use Rattle.std.specs.List.{All, slice_split, position_or_len, before_first}
use Rattle.std.proofs.lemmas.Bool.{lt-ltb, cases_lt}
use Rattle.std.proofs.lemmas.List.{drop_more, length-take-le, take_all, drop_all}
use Rattle.std.proofs.lemmas.List.Splits.{slice_split_at, slice_split_first, slice_split_none, slice_split-cons_yes}
use Rattle.std.proofs.lemmas.List.Sums.{fails_before_first, passes_at_first}
use Rattle.text_lines.specs.Cut.{is_blank_byte, without_first_blanks}
use Rattle.text_lines.specs.Laws.{NoBlankFirst}
use Rattle.text_lines.proofs.Proved.{no_blank_first}
use Rattle.event_text.specs.Words.{words_of}

abbrev is_word : List ℕ → Bool
is_word word = ltb 0 (length word)

-- a blank in front belongs to no word
pub words_of-blank : (b : ℕ) (text : List ℕ) → is_blank_byte b ≡ true → words_of (b ∷ text) ≡ words_of text
words_of-blank b text e = ap (filter is_word) (slice_split-cons_yes is_blank_byte b text e)

kept : (word : List ℕ) (parts : List (List ℕ)) → 0 < length word → filter is_word (word ∷ parts) ≡ word ∷ filter is_word parts
kept word parts h = ap (λ c. cond c (word ∷ filter is_word parts) (filter is_word parts)) (lt-ltb 0 (length word) h)

-- a word with no blank in it, at the end of a text
pub word_last : (word : List ℕ) → 0 < length word → All (λ b. is_blank_byte b ≡ false) word → words_of word ≡ word ∷ []
word_last word some plain = ap (filter is_word) (slice_split_none is_blank_byte word plain) ∙ kept word [] some

-- and in front of a space
pub word_first : (word behind : List ℕ) → 0 < length word → All (λ b. is_blank_byte b ≡ false) word → words_of (word ++ 32 ∷ behind) ≡ word ∷ words_of behind
word_first word behind some plain = ap (filter is_word) (slice_split_at is_blank_byte word 32 behind plain refl) ∙ kept word (slice_split is_blank_byte behind) some

-- a word ends at the first blank behind it
word_before : (text : List ℕ) (k : ℕ) → 0 < k → k < length text → position_or_len is_blank_byte text ≡ k → is_blank_byte (get_or text k 0) ≡ true → words_of text ≡ take k text ∷ words_of (drop k text)
word_before text k some h e blank =
    ap (filter is_word) (slice_split_first is_blank_byte text 0 (omega (arith, e)))
    ∙ ap (λ (n : ℕ). filter is_word (take n text ∷ slice_split is_blank_byte (drop (n + 1) text))) e
    ∙ kept (take k text) (slice_split is_blank_byte (drop (k + 1) text)) (omega (arith, some, h, length-take-le k text (omega (arith, h))))
    ∙ ap (λ ws. take k text ∷ ws) (sym (ap words_of (drop_more text k 0 h) ∙ words_of-blank (get_or text k 0) (drop (k + 1) text) blank))

behind_zero : (text : List ℕ) (k : ℕ) → is_blank_byte (get_or text 0 0) ≡ false → is_blank_byte (get_or text k 0) ≡ true → 0 < k
behind_zero text zero starts blank = absurd cc
behind_zero text (suc k) starts blank = omega arith

-- a text that begins with a word begins with what stands before its first blank
first_at : (text : List ℕ) (k : ℕ) → 0 < length text → is_blank_byte (get_or text 0 0) ≡ false → position_or_len is_blank_byte text ≡ k → k < length text ⊎ length text ≤ k
    → words_of text ≡ take k text ∷ words_of (drop k text)
first_at text k some starts e (inl h) =
    let blank : is_blank_byte (get_or text k 0) ≡ true = subst (λ (n : ℕ). is_blank_byte (get_or text n 0) ≡ true) e (passes_at_first is_blank_byte text 0 (omega (arith, e, h))) in
    word_before text k (behind_zero text k starts blank) h e blank
first_at text k some starts e (inr h) =
    rw (take_all k text h, drop_all k text h) (word_last text some (λ n d inside. fails_before_first is_blank_byte text n d (omega (arith, e, h, inside))))

-- the byte at 0 is no blank where no blank is first
begins_word : (text : List ℕ) → NoBlankFirst text → 0 < length text → is_blank_byte (get_or text 0 0) ≡ false
begins_word [] none some = absurd (omega (arith, some))
begins_word (byte ∷ rest) none some = none byte rest refl

trimmed_if : (b : ℕ) (text : List ℕ) (blank : Bool) → is_blank_byte b ≡ blank → words_of (without_first_blanks text) ≡ words_of text
    → words_of (cond blank (without_first_blanks text) (b ∷ text)) ≡ words_of (b ∷ text)
trimmed_if b text true e more = more ∙ sym (words_of-blank b text e)
trimmed_if b text false e more = refl

-- blanks in front belong to no word
words_of-trimmed : (text : List ℕ) → words_of (without_first_blanks text) ≡ words_of text
words_of-trimmed [] = refl
words_of-trimmed (b ∷ text) = trimmed_if b text (is_blank_byte b) refl (words_of-trimmed text)

-- a line with nothing but blanks has no words
pub no_word : (line text : List ℕ) → text ≡ without_first_blanks line → length text ≡ 0 → words_of line ≡ []
no_word line [] e none = sym (words_of-trimmed line) ∙ sym (ap words_of e)
no_word line (b ∷ text) e none = absurd (omega (arith, none))

-- else its first word stands behind the blanks in front, up to the next blank
pub next_word : (line text word behind : List ℕ) → text ≡ without_first_blanks line → 0 < length text → word ≡ before_first is_blank_byte text → behind ≡ drop (position_or_len is_blank_byte text) text
    → words_of line ≡ word ∷ words_of behind
next_word line text word behind e some front rest =
    let k = position_or_len is_blank_byte text in
    let begins = begins_word text (subst NoBlankFirst (sym e) (no_blank_first line)) some in
    sym (words_of-trimmed line) ∙ sym (ap words_of e) ∙ first_at text k some begins refl (cases_lt k (length text)) ∙ rw (front, rest) refl
