-- Lines of ASCII from the space on without a comment, and the words in them.
use Rattle.std.proofs.Common.{◌≡◌, ◌≢◌, ℕ, ◌^◌, ◌<◌, ◌==◌, nat_lt, not, Bool, true, false, ◌&&◌, cond, List, [], ◌∷◌, ◌++◌, length, Some, None, ap, ◌∙◌, arith}
use Rattle.std.specs.Fmt.{decimal}
use Rattle.std.specs.List.{All, AllPass, list_all}
use Rattle.std.specs.Char.{is_ascii}
use Rattle.std.specs.Option.{option_and_then}
use Rattle.std.specs.Str.Parse.{AllDigits}
use Rattle.std.proofs.lemmas.Bool.{lt-ltb}
use Rattle.std.proofs.lemmas.Bool.Decides.{nat_tests}
use Rattle.std.proofs.lemmas.Fmt.{decimal_is_IsNumeral, decimal_nonempty}
use Rattle.std.proofs.lemmas.List.Elements.{All-cons, All-nil, All-weaker}
use Rattle.std.proofs.lemmas.List.Sums.{AllPass-from_list_all, list_all-from_AllPass}
use Rattle.std.proofs.lemmas.Str.Parse.{digit_from_value}
use Rattle.text_lines.specs.Cut.{is_blank_byte, uncommented}
use Rattle.text_lines.specs.Number.{decimal_of}
use Rattle.common_definitions.specs.Below.{below}
use Rattle.device_events.specs.ToldEvents.{ToldEvent}
use Rattle.event_text.specs.CommandFile.{line_told, words_told}
use Rattle.event_text.specs.Words.{words_of}
use Rattle.event_text.proofs.WordLemmas.{word_first, word_last}
use Rattle.text_lines.proofs.Proved.{number_again, uncommented-same}

-- a byte of a word: ASCII behind the space, and no `;`
abbrev pub InWord : ℕ → Type 0
InWord byte = (32 < byte) × (byte < 128) × (byte ≢ 59)

-- a byte of a line: a space, too
abbrev pub InLine : ℕ → Type 0
InLine byte = (31 < byte) × (byte < 128) × (byte ≢ 59)

in_line : (byte : ℕ) → InWord byte → InLine byte
in_line byte h = (omega arith, h.1, h.2)

pub no_blank : (byte : ℕ) → InWord byte → is_blank_byte byte ≡ false
no_blank byte h = grind (arith, nat_tests)

no_end : (byte : ℕ) → InLine byte → not (byte == 10) ≡ true
no_end byte h = grind (arith, nat_tests)

ascii : (byte : ℕ) → InLine byte → is_ascii byte ≡ true
ascii byte h = grind (arith, nat_tests)

no_comment : (byte : ℕ) → InLine byte → (byte == 59) ≡ false
no_comment byte h = grind (arith, nat_tests)

pub no_return : (byte : ℕ) → InLine byte → (byte == 13) ≡ false
no_return byte h = grind (arith, nat_tests)

pub unblank : (word : List ℕ) → All InWord word → All (λ b. is_blank_byte b ≡ false) word
unblank word h = All-weaker InWord (λ b. is_blank_byte b ≡ false) no_blank word h

pub as_line : (word : List ℕ) → All InWord word → All InLine word
as_line word h = All-weaker InWord InLine in_line word h

pub space_before : (text : List ℕ) → All InLine text → All InLine (32 ∷ text)
space_before text h = All-cons InLine 32 text (omega arith, omega arith, λ e. omega arith) h

-- a word that is spelled out, whose bytes can be tested
abbrev pub is_word_byte : ℕ → Bool
is_word_byte byte = nat_lt 32 byte && (nat_lt byte 128 && not (byte == 59))

word_byte : (byte : ℕ) → is_word_byte byte ≡ true → InWord byte
word_byte byte e = grind (arith, nat_tests)

pub spelled_in_word : (word : List ℕ) → list_all is_word_byte word ≡ true → All InWord word
spelled_in_word word e = All-weaker (λ b. is_word_byte b ≡ true) InWord word_byte word (AllPass-from_list_all is_word_byte word e)

-- ---- the line's words are what it tells

pub line_told-words : (line : List ℕ) → All InLine line → line_told line ≡ words_told (words_of line)
line_told-words line h =
    ap (λ (b : Bool). cond b (words_told (words_of (uncommented line))) None) (list_all-from_AllPass is_ascii line (All-weaker InLine (λ b. is_ascii b ≡ true) ascii line h))
    ∙ ap (λ (text : List ℕ). words_told (words_of text)) (uncommented-same line (All-weaker InLine (λ b. (b == 59) ≡ false) no_comment line h))

-- a line of such bytes, which tells an event
pub record IsSpelled (line : List ℕ) (event : ToldEvent) : Type 0 where
  pub plain : All InLine line
  pub told : line_told line ≡ Some (Some event)

pub in_one_line : (line : List ℕ) → All InLine line → AllPass (λ b. not (b == 10)) line
in_one_line line h = All-weaker InLine (λ b. not (b == 10) ≡ true) no_end line h

-- ---- numbers

digits_in_word : (ds : List ℕ) → AllDigits 10 ds → All InWord ds
digits_in_word [] h = All-nil InWord
digits_in_word (c ∷ cs) h =
    let range = digit_from_value c h.0 in
    All-cons InWord c cs (omega arith, omega arith, λ e. omega arith) (digits_in_word cs h.1)

pub decimal_in_word : (n : ℕ) → n < 2 ^ 64 → All InWord (decimal n)
decimal_in_word n small = digits_in_word (decimal n) (decimal_is_IsNumeral n small).0.1

-- the words of a line with a name and a number
pub words_of-numbered : (name : List ℕ) (n : ℕ) → 0 < length name → list_all is_word_byte name ≡ true → n < 2 ^ 64 → words_of (name ++ 32 ∷ decimal n) ≡ name ∷ decimal n ∷ []
words_of-numbered name n some plain small =
    word_first name (decimal n) some (unblank name (spelled_in_word name plain))
    ∙ ap (λ (ws : List (List ℕ)). name ∷ ws) (word_last (decimal n) (decimal_nonempty n small) (unblank (decimal n) (decimal_in_word n small)))

-- what a number is printed as spells it
pub decimal_again : (n : ℕ) → n < 2 ^ 32 → decimal_of (decimal n) ≡ Some n
decimal_again n small =
    let numeral = decimal_is_IsNumeral n (omega arith) in
    number_again (2 ^ 32) 10 (decimal n) n numeral.0 numeral.1 small

pub decimal_below : (bound n : ℕ) → n < bound → n < 2 ^ 32 → option_and_then (below bound) (decimal_of (decimal n)) ≡ Some n
decimal_below bound n within small =
    ap (option_and_then (below bound)) (decimal_again n small) ∙ ap (λ (b : Bool). cond b (Some n) None) (lt-ltb n bound within)
