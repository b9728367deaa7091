-- A submission's line is read back.
use Rattle.std.proofs.Common.{◌≡◌, ◌≢◌, ℕ, ◌/◌, ◌%◌, ◌^◌, suc, ◌<◌, Bool, cond, List, [], ◌∷◌, ◌++◌, length, slice_index, Some, None, Ok, refl, sym, ap, subst, ◌∙◌, codes, append_assoc, append-nil, arith}
use Rattle.std.specs.Fmt.{decimal}
use Rattle.std.specs.List.{All}
use Rattle.std.specs.Option.{option_and_then, option_map}
use Rattle.std.specs.Result.{result_ok}
use Rattle.std.proofs.Math.Dec.{eqb-suc-zero}
use Rattle.std.proofs.lemmas.Fmt.{decimal_nonempty}
use Rattle.std.proofs.lemmas.List.Elements.{All-append, All-cons, All-nil}
use Rattle.common_definitions.specs.Below.{below}
use Rattle.common_definitions.specs.Bytes.{AreBytes}
use Rattle.hex.specs.Hex.{decode_of, decode_pairs, decode_sized, encode_lower, encode_with, hex_digit_value, lower_digits}
use Rattle.hex.proofs.HexLemmas.{IsDigits-lower_digits, decode_of-encode_lower, decode_sized-encode_lower, length-encode_with}
use Rattle.text_lines.specs.Number.{decimal_of}
use Rattle.device_events.specs.ToldEvents.{Submitted}
use Rattle.event_text.specs.CommandFile.{line_told, submission, words_told}
use Rattle.event_text.specs.Lines.{data_text}
use Rattle.event_text.specs.Submission.{Tells, submission_text}
use Rattle.event_text.specs.Words.{words_of}
use Rattle.event_text.proofs.PlainLines.{InLine, InWord, IsSpelled, as_line, decimal_below, decimal_in_word, in_one_line, line_told-words, space_before, spelled_in_word, unblank}
use Rattle.event_text.proofs.WordLemmas.{word_first, word_last}

digit_in_word : (byte value : ℕ) → hex_digit_value byte ≡ Some value → InWord byte
digit_in_word byte value h =
    let other : byte ≢ 59 = λ e. let bad : None ≡ Some value = sym (ap hex_digit_value e) ∙ h in cc in
    let low : 32 < byte = grind (arith) in
    let high : byte < 128 = grind (arith) in
    (low, high, other)

pub hex_in_word : (bytes : List ℕ) → AreBytes bytes → All InWord (encode_lower bytes)
unfolding encode_with
hex_in_word [] small = All-nil InWord
hex_in_word (b ∷ rest) small =
    let fits : b < 256 = small 0 in
    let high : b / 16 < 16 = omega arith in
    let low : b % 16 < 16 = omega arith in
    All-cons InWord (slice_index lower_digits (b / 16)) (slice_index lower_digits (b % 16) ∷ encode_lower rest) (digit_in_word _ _ (IsDigits-lower_digits (b / 16) high))
    (All-cons InWord (slice_index lower_digits (b % 16)) (encode_lower rest) (digit_in_word _ _ (IsDigits-lower_digits (b % 16) low)) (hex_in_word rest (λ k. small (suc k))))

-- ---- the words

-- the words of the data, of which there is one or none
abbrev pub data_words : List ℕ → List (List ℕ)
data_words [] = []
data_words (b ∷ rest) = encode_lower (b ∷ rest) ∷ []

pub not_empty : (bytes : List ℕ) → 0 < length bytes → 0 < length (encode_lower bytes)
not_empty bytes some = let size = length-encode_with lower_digits bytes in omega (arith, size)

data_text-cons : (b : ℕ) (rest : List ℕ) → data_text (b ∷ rest) ≡ 32 ∷ encode_lower (b ∷ rest)
data_text-cons b rest = ap (λ (empty : Bool). cond empty [] (32 ∷ encode_lower (b ∷ rest))) (eqb-suc-zero (length rest))

words_of-data : (word input : List ℕ) → 0 < length word → All InWord word → AreBytes input → words_of (word ++ data_text input) ≡ word ∷ data_words input
words_of-data word [] some h small = ap words_of (append-nil word) ∙ word_last word some (unblank word h)
words_of-data word (b ∷ rest) some h small =
    let input = b ∷ rest in
    ap (λ (text : List ℕ). words_of (word ++ text)) (data_text-cons b rest)
    ∙ word_first word (encode_lower input) some (unblank word h)
    ∙ ap (λ (ws : List (List ℕ)). word ∷ ws) (word_last (encode_lower input) (not_empty input (omega arith)) (unblank (encode_lower input) (hex_in_word input small)))

-- the words of a line, one behind the other
abbrev pub spaced : List ℕ → List ℕ → List ℕ → List ℕ → List ℕ
spaced name number digits behind = name ++ 32 ∷ (number ++ 32 ∷ (digits ++ behind))

-- what stands behind the name, as the text has it
pub number_spaced : (number digits behind : List ℕ) → number ++ codes " " ++ digits ++ behind ≡ number ++ 32 ∷ (digits ++ behind)
number_spaced number digits behind = append_assoc (number ++ codes " ") digits behind ∙ append_assoc number (codes " ") (digits ++ behind)

submission_text-spaced : (queue : ℕ) (entry input : List ℕ) → submission_text queue entry input ≡ spaced (codes "submit") (decimal queue) (encode_lower entry) (data_text input)
submission_text-spaced queue entry input = ap (λ (ys : List ℕ). codes "submit " ++ ys) (number_spaced (decimal queue) (encode_lower entry) (data_text input))

pub words_of-spaced : (name number digits input : List ℕ) → 0 < length name → All InWord name → 0 < length number → All InWord number → 0 < length digits → All InWord digits → AreBytes input
    → words_of (spaced name number digits (data_text input)) ≡ name ∷ number ∷ digits ∷ data_words input
words_of-spaced name number digits input named is_name some is_number any is_digits small =
    word_first name (number ++ 32 ∷ (digits ++ data_text input)) named (unblank name is_name)
    ∙ ap (λ (ws : List (List ℕ)). name ∷ ws)
    (word_first number (digits ++ data_text input) some (unblank number is_number) ∙ ap (λ (ws : List (List ℕ)). number ∷ ws) (words_of-data digits input any is_digits small))

-- ---- the bytes of the line

data_in_line : (input : List ℕ) → AreBytes input → All InLine (data_text input)
data_in_line [] small = All-nil InLine
data_in_line (b ∷ rest) small =
    subst (λ (text : List ℕ). All InLine text) (sym (data_text-cons b rest)) (space_before (encode_lower (b ∷ rest)) (as_line (encode_lower (b ∷ rest)) (hex_in_word (b ∷ rest) small)))

pub spaced_in_line : (name number digits behind : List ℕ) → All InWord name → All InWord number → All InWord digits → All InLine behind → All InLine (spaced name number digits behind)
spaced_in_line name number digits behind is_name is_number is_digits is_behind =
    let tail = space_before (digits ++ behind) (All-append InLine digits behind (as_line digits is_digits) is_behind) in
    let middle = space_before (number ++ 32 ∷ (digits ++ behind)) (All-append InLine number (32 ∷ (digits ++ behind)) (as_line number is_number) tail) in
    All-append InLine name (32 ∷ (number ++ 32 ∷ (digits ++ behind))) (as_line name is_name) middle

-- ---- the event

event_again : (number digits behind entry input : List ℕ) (queue : ℕ) → option_and_then (below (2 ^ 16)) (decimal_of number) ≡ Some queue → decode_sized digits 64 ≡ Ok entry → decode_of behind ≡ Ok input
    → option_map Some (submission (option_and_then (below (2 ^ 16)) (decimal_of number)) (result_ok (decode_sized digits 64)) (result_ok (decode_of behind))) ≡ Some (Some (Submitted queue entry input))
event_again number digits behind entry input queue is_queue is_entry is_input = rw (is_queue, is_entry, is_input) refl

words_again : (number digits entry input : List ℕ) (queue : ℕ) → option_and_then (below (2 ^ 16)) (decimal_of number) ≡ Some queue → decode_sized digits 64 ≡ Ok entry → AreBytes input
    → words_told (codes "submit" ∷ number ∷ digits ∷ data_words input) ≡ Some (Some (Submitted queue entry input))
unfolding decode_pairs
words_again number digits entry [] queue is_queue is_entry small = event_again number digits [] entry [] queue is_queue is_entry refl
words_again number digits entry (b ∷ rest) queue is_queue is_entry small =
    event_again number digits (encode_lower (b ∷ rest)) entry (b ∷ rest) queue is_queue is_entry (decode_of-encode_lower (b ∷ rest) small)

pub submission_spelled : (queue : ℕ) (entry input : List ℕ) → queue < 2 ^ 16 → length entry ≡ 64 → AreBytes entry → AreBytes input → IsSpelled (submission_text queue entry input) (Submitted queue entry input)
submission_spelled queue entry input small size entry_bytes input_bytes =
    let number = decimal_nonempty queue (omega arith) in
    let is_name = spelled_in_word (codes "submit") refl in
    let is_number = decimal_in_word queue (omega arith) in
    let is_digits = hex_in_word entry entry_bytes in
    let line = spaced (codes "submit") (decimal queue) (encode_lower entry) (data_text input) in
    let in_a_line = spaced_in_line (codes "submit") (decimal queue) (encode_lower entry) (data_text input) is_name is_number is_digits (data_in_line input input_bytes) in
    let found = decimal_below (2 ^ 16) queue small (omega arith) in
    let told : line_told line ≡ Some (Some (Submitted queue entry input)) =
    line_told-words line in_a_line
    ∙ (ap words_told (words_of-spaced (codes "submit") (decimal queue) (encode_lower entry) input (omega arith) is_name number is_number (not_empty entry (omega arith)) is_digits input_bytes)
    ∙ words_again (decimal queue) (encode_lower entry) entry input queue found (decode_sized-encode_lower entry 64 size entry_bytes) input_bytes) in
    let whole : IsSpelled line (Submitted queue entry input) = record { plain = in_a_line; told = told } in
    subst (λ (text : List ℕ). IsSpelled text (Submitted queue entry input)) (sym (submission_text-spaced queue entry input)) whole

pub submission_tells : (queue : ℕ) (entry input : List ℕ) → queue < 2 ^ 16 → length entry ≡ 64 → AreBytes entry → AreBytes input → Tells (submission_text queue entry input) (Submitted queue entry input)
submission_tells queue entry input small size entry_bytes input_bytes =
    let line = submission_spelled queue entry input small size entry_bytes input_bytes in
    record { single = in_one_line (submission_text queue entry input) line.plain; told = line.told }
