-- Fields, numbers and bytes that are printed are read again.
use Rattle.std.proofs.Common.{◌≡◌, ℕ, ℤ, pos, negsuc, neg_ℤ, suc, ◌+◌, ◌/◌, ◌%◌, ◌<◌, ◌^◌, Bool, true, false, not, ◌&&◌, ◌||◌, cond, ltb, eqb, List, [], ◌∷◌, ◌++◌, length, get_or, drop, Option, Some, None, Result, Ok, Err, refl, sym, ap, ◌∙◌, codes, append_assoc, arith}
use Rattle.std.specs.Prelude.{int_le, ok_or, slice_index}
use Rattle.std.specs.List.{list_all, before_first, after_first, position_or_len}
use Rattle.std.specs.Char.{is_digit, digit_value, is_ascii_alphanumeric, is_ascii_digit}
use Rattle.std.specs.Str.{bytes_eq}
use Rattle.std.specs.Str.Parse.{AllDigits, IsNumeral, digits_value}
use Rattle.std.specs.Fmt.{decimal, signed_decimal}
use Rattle.std.proofs.Math.Bool.{and-false}
use Rattle.std.proofs.lemmas.Bool.{and_parts, eqb-true, false_from_ne_true, le-ltb, leb-true, lt-ltb, ne_eqb, not-true, or_from, or_parts, true_from_ne_false}
use Rattle.std.proofs.lemmas.Bool.Decides.{nat_tests}
use Rattle.std.proofs.lemmas.Fmt.{decimal_is_IsNumeral}
use Rattle.std.proofs.lemmas.Str.Parse.{digit_from_value}
use Rattle.std.proofs.lemmas.List.{take_at, drop_at, length-append}
use Rattle.std.proofs.lemmas.List.Folds.{list_all-append}
use Rattle.std.proofs.Math.Seq.{get_or-append_seam}
use Rattle.std.proofs.Math.ListN.{get_or-append}
use Rattle.std.proofs.lemmas.List.Sums.{AllPass-from_list_all, position_or_len_is}
use Rattle.hex.specs.Hex.{IsBytes, encode_lower, encode_with, hex_digit_value, lower_digits}
use Rattle.hex.proofs.HexLemmas.{IsDigits-lower_digits}
use Rattle.instruction_set.specs.declared.operation.Size.{Size}
use Rattle.instruction_set.specs.declared.operation.Size.TheVariants.{Byte, HalfWord, Word, DoubleWord}
use Rattle.record_questions.specs.declared.question.Field.{Field}
use Rattle.record_questions.specs.declared.question.Sign.{Sign}
use Rattle.record_questions.specs.declared.question.Sign.TheVariants.{Unsigned, Signed}
use Rattle.record_questions.specs.declared.question.ByteOrder.{ByteOrder}
use Rattle.record_questions.specs.declared.question.ByteOrder.TheVariants.{Little, Big}
use Rattle.record_questions.specs.declared.question.Operand.{Operand}
use Rattle.record_questions.specs.declared.question.Operand.TheVariants as operands
use Rattle.common_definitions.specs.Readings.{◌>>=◌}
use Rattle.text_lines.specs.Cut.{cut_at}
use Rattle.text_lines.proofs.Proved.{all_digits, number_again}
use Rattle.question_words.specs.declared.fault.FaultKind.{FaultKind}
use Rattle.question_words.specs.declared.fault.FaultKind.TheVariants as kinds
use Rattle.question_words.specs.Cutting.{is_word_byte}
use Rattle.question_words.specs.Field.{field_in, field_of, field_text, offset_in, offset_of, shape_of, shape_text, sign_letter, sign_of, typed_of}
use Rattle.question_words.specs.Laws.{IsField, IsOperand}
use Rattle.question_words.specs.Layout.{field_named}
use Rattle.question_words.specs.LayoutText.{begins_name, is_field_name, is_name_byte, is_taken_word}
use Rattle.question_words.specs.Number.{literal_of, magnitude_of, numeral_of}
use Rattle.question_words.specs.Operand.{begins_number, field_for, greatest_of, least_of, number_for, operand_of, operand_word}
use Rattle.question_words.specs.Reading.{is_blank}

-- ---- bytes of words

-- a word of what names, numbers and fields are made of
pub record IsWord (w : List ℕ) : Type 0 where
  pub all : list_all is_word_byte w ≡ true
  pub some : 0 < length w

-- a byte of words is no other byte
pub not_byte : (b c : ℕ) → is_word_byte b ≡ true → is_word_byte c ≡ false → eqb b c ≡ false
not_byte b c h e = false_from_ne_true (eqb b c) (λ t. let same : is_word_byte b ≡ is_word_byte c = ap is_word_byte (eqb-true b c t) in absurd cc)

word_digit : (d : ℕ) → digit_value d < 10 → is_word_byte d ≡ true
word_digit d h = let range = digit_from_value d h in grind (arith, nat_tests)

digit_digit : (d : ℕ) → digit_value d < 10 → is_ascii_digit d ≡ true
digit_digit d h = let range = digit_from_value d h in grind (arith, nat_tests)

no_at_digit : (d : ℕ) → digit_value d < 10 → not (eqb d 64) ≡ true
no_at_digit d h = let range = digit_from_value d h in grind (arith, nat_tests)

word_digits : (ds : List ℕ) → AllDigits 10 ds → list_all is_word_byte ds ≡ true
word_digits [] h = refl
word_digits (d ∷ ds) h = rw (word_digit d h.0, word_digits ds h.1) refl

pub word_decimal : (n : ℕ) → n < 2 ^ 64 → list_all is_word_byte (decimal n) ≡ true
word_decimal n small = word_digits (decimal n) (decimal_is_IsNumeral n small).0.1

word_letter : (sign : Sign) → is_word_byte (sign_letter sign) ≡ true
word_letter Unsigned = refl
word_letter Signed = refl

word_shape : (size : Size) (order : ByteOrder) → list_all is_word_byte (shape_text size order) ≡ true
word_shape Byte Little = refl
word_shape HalfWord Little = refl
word_shape Word Little = refl
word_shape DoubleWord Little = refl
word_shape Byte Big = refl
word_shape HalfWord Big = refl
word_shape Word Big = refl
word_shape DoubleWord Big = refl

both : (a b : Bool) → a ≡ true → b ≡ true → (a && b) ≡ true
both a b h e = rw (h, e) refl

either_more : (a b c : Bool) → (a || b) ≡ true → (a || (b || c)) ≡ true
either_more true b c h = refl
either_more false true c h = refl
either_more false false c h = let bad : false ≡ true = h in absurd cc

three_parts : (a b c : Bool) → (a && b && c) ≡ true → (a ≡ true) × ((b ≡ true) × (c ≡ true))
three_parts true true true h = (refl, (refl, refl))
three_parts true true false h = let bad : false ≡ true = h in absurd cc
three_parts true false c h = let bad : false ≡ true = h in absurd cc
three_parts false b c h = let bad : false ≡ true = h in absurd cc

pub word_field : (field : Field) → IsField field → list_all is_word_byte (field_text field) ≡ true
word_field field small =
    both (is_word_byte (sign_letter field.sign)) (list_all is_word_byte (shape_text field.size field.order ++ 64 ∷ decimal field.offset)) (word_letter field.sign)
    (list_all-append is_word_byte (shape_text field.size field.order) (64 ∷ decimal field.offset)
    ∙ both (list_all is_word_byte (shape_text field.size field.order)) (list_all is_word_byte (decimal field.offset)) (word_shape field.size field.order) (word_decimal field.offset (omega (arith, small))))

-- the digits of bytes
word_hex_digit : (d value : ℕ) → hex_digit_value d ≡ Some value → is_word_byte d ≡ true
word_hex_digit d value h = true_from_ne_false (is_word_byte d) (λ none. let bad : hex_digit_value d ≡ None = grind (arith, nat_tests) in absurd cc)

word_hex_digits : (bs : List ℕ) → IsBytes bs → list_all is_word_byte (encode_lower bs) ≡ true
unfolding encode_with
word_hex_digits [] small = refl
word_hex_digits (b ∷ bs) small =
    let fits : b < 256 = small 0 in
    let high : b / 16 < 16 = omega arith in
    let low : b % 16 < 16 = omega arith in
    both (is_word_byte (slice_index lower_digits (b / 16))) _ (word_hex_digit (slice_index lower_digits (b / 16)) (b / 16) (IsDigits-lower_digits (b / 16) high))
    (both (is_word_byte (slice_index lower_digits (b % 16))) _ (word_hex_digit (slice_index lower_digits (b % 16)) (b % 16) (IsDigits-lower_digits (b % 16) low)) (word_hex_digits bs (λ k. small (suc k))))

-- the bytes of a name
name_word : (b : ℕ) → is_name_byte b ≡ true → is_word_byte b ≡ true
name_word b h = either_more (is_ascii_alphanumeric b) (eqb b 95) (eqb b 64 || eqb b 45) h

not_in_name : (b c : ℕ) → is_name_byte b ≡ true → is_name_byte c ≡ false → eqb b c ≡ false
not_in_name b c h e = false_from_ne_true (eqb b c) (λ t. let same : is_name_byte b ≡ is_name_byte c = ap is_name_byte (eqb-true b c t) in absurd cc)

name_no_at : (b : ℕ) → is_name_byte b ≡ true → not (eqb b 64) ≡ true
name_no_at b h = ap not (not_in_name b 64 h refl)

pub word_name : (w : List ℕ) → list_all is_name_byte w ≡ true → list_all is_word_byte w ≡ true
word_name [] h = refl
word_name (b ∷ bs) h =
    let parts = and_parts (is_name_byte b) (list_all is_name_byte bs) h in
    both (is_word_byte b) (list_all is_word_byte bs) (name_word b parts.0) (word_name bs parts.1)

no_at_name : (w : List ℕ) → list_all is_name_byte w ≡ true → list_all (λ b. not (eqb b 64)) w ≡ true
no_at_name [] h = refl
no_at_name (b ∷ bs) h =
    let parts = and_parts (is_name_byte b) (list_all is_name_byte bs) h in
    both (not (eqb b 64)) (list_all (λ b. not (eqb b 64)) bs) (name_no_at b parts.0) (no_at_name bs parts.1)

pub word_hex : (bs : List ℕ) → IsBytes bs → list_all is_word_byte (codes "0x" ++ encode_lower bs) ≡ true
word_hex bs small = word_hex_digits bs small

-- a word is no blank
pub no_blank : (w : List ℕ) → list_all is_word_byte w ≡ true → 0 < length w → is_blank w ≡ false
no_blank [] all some = absurd (omega arith)
no_blank (b ∷ bs) all some =
    let first : is_word_byte b ≡ true = (and_parts (is_word_byte b) (list_all is_word_byte bs) all).0 in
    rw (not_byte b 32 first refl, not_byte b 9 first refl, not_byte b 10 first refl, not_byte b 13 first refl) refl

-- nor a word of one byte that no word has
pub no_symbol : (c : ℕ) (w : List ℕ) → is_word_byte c ≡ false → list_all is_word_byte w ≡ true → bytes_eq w (c ∷ []) ≡ false
no_symbol c [] e all = refl
no_symbol c (b ∷ bs) e all =
    let first : is_word_byte b ≡ true = (and_parts (is_word_byte b) (list_all is_word_byte bs) all).0 in
    rw (not_byte b c first e) refl

-- ---- fields

pub place_before : (front : List ℕ) (y : ℕ) (rest : List ℕ) → list_all (λ b. not (eqb b y)) front ≡ true → eqb y y ≡ true → position_or_len (λ b. eqb b y) (front ++ y ∷ rest) ≡ length front
place_before front y rest h e =
    position_or_len_is (λ b. eqb b y) (front ++ y ∷ rest) (length front) 0 (omega (arith, length-append front (y ∷ rest)))
    (λ k inside. ap (λ b. eqb b y) (get_or-append front (y ∷ rest) 0 k inside) ∙ not-true _ (AllPass-from_list_all (λ b. not (eqb b y)) front h k 0 inside))
    (λ _. ap (λ b. eqb b y) (get_or-append_seam front y rest 0) ∙ e)

pub cut_there : (front : List ℕ) (y : ℕ) (rest : List ℕ) → list_all (λ b. not (eqb b y)) front ≡ true → eqb y y ≡ true → cut_at y (front ++ y ∷ rest) ≡ Some (front, rest)
cut_there front y rest h e =
    let text = front ++ y ∷ rest in
    let p = λ (b : ℕ). eqb b y in
    let place = place_before front y rest h e in
    let found : ltb (position_or_len p text) (length text) ≡ true = lt-ltb _ _ (omega (arith, place, length-append front (y ∷ rest))) in
    let before : before_first p text ≡ front = take_at front (y ∷ rest) (position_or_len p text) (sym place) in
    let split : text ≡ (front ++ y ∷ []) ++ rest = sym (append_assoc front (y ∷ []) rest) in
    let after : after_first p text ≡ rest = ap (drop (position_or_len p text + 1)) split ∙ drop_at (front ++ y ∷ []) rest (position_or_len p text + 1) (omega (arith, place, length-append front (y ∷ []))) in
    ap (λ b. cond b (Some (before_first p text, after_first p text)) None) found ∙ ap (λ (t : List ℕ). Some (t, after_first p text)) before ∙ ap (λ (t : List ℕ). Some (front, t)) after

no_at : (sign : Sign) (size : Size) (order : ByteOrder) → list_all (λ b. not (eqb b 64)) (sign_letter sign ∷ shape_text size order) ≡ true
no_at Unsigned Byte Little = refl
no_at Unsigned HalfWord Little = refl
no_at Unsigned Word Little = refl
no_at Unsigned DoubleWord Little = refl
no_at Unsigned Byte Big = refl
no_at Unsigned HalfWord Big = refl
no_at Unsigned Word Big = refl
no_at Unsigned DoubleWord Big = refl
no_at Signed Byte Little = refl
no_at Signed HalfWord Little = refl
no_at Signed Word Little = refl
no_at Signed DoubleWord Little = refl
no_at Signed Byte Big = refl
no_at Signed HalfWord Big = refl
no_at Signed Word Big = refl
no_at Signed DoubleWord Big = refl

pub cut_field : (field : Field) → cut_at 64 (field_text field) ≡ Some (sign_letter field.sign ∷ shape_text field.size field.order, decimal field.offset)
cut_field field = cut_there (sign_letter field.sign ∷ shape_text field.size field.order) 64 (decimal field.offset) (no_at field.sign field.size field.order) refl

sign_again : (sign : Sign) → sign_of (sign_letter sign) ≡ Ok sign
sign_again Unsigned = refl
sign_again Signed = refl

shape_again : (size : Size) (order : ByteOrder) → shape_of (shape_text size order) ≡ Ok (size, order)
shape_again Byte Little = refl
shape_again HalfWord Little = refl
shape_again Word Little = refl
shape_again DoubleWord Little = refl
shape_again Byte Big = refl
shape_again HalfWord Big = refl
shape_again Word Big = refl
shape_again DoubleWord Big = refl

pub offset_again : (n : ℕ) → n < 2 ^ 16 → offset_of (decimal n) ≡ Ok n
offset_again n small =
    let d = decimal_is_IsNumeral n (omega arith) in
    ap offset_in (number_again (2 ^ 32) 10 (decimal n) n d.0 d.1 (omega arith)) ∙ rw (lt-ltb n 65536 (omega arith)) refl

typed_again : (field : Field) → IsField field → typed_of (sign_letter field.sign ∷ shape_text field.size field.order) (decimal field.offset) ≡ Ok field
typed_again field small =
    ap (λ (r : Result Sign FaultKind). r >>= λ sign. shape_of (shape_text field.size field.order) >>= λ shape. offset_of (decimal field.offset) >>= λ offset. Ok (record { size = shape.0; offset = offset; sign = sign; order = shape.1 })) (sign_again field.sign)
    ∙ ap (λ (r : Result (Size × ByteOrder) FaultKind). r >>= λ shape. offset_of (decimal field.offset) >>= λ offset. Ok (record { size = shape.0; offset = offset; sign = field.sign; order = shape.1 })) (shape_again field.size field.order)
    ∙ ap (λ (r : Result ℕ FaultKind). r >>= λ offset. Ok (record { size = field.size; offset = offset; sign = field.sign; order = field.order })) (offset_again field.offset small)

pub field_again : (layout : List (List ℕ × Field)) (field : Field) → IsField field → field_of layout (field_text field) ≡ Ok field
field_again layout field small = ap (field_in layout (field_text field)) (cut_field field) ∙ typed_again field small

-- a name of the layout

cut_nowhere : (w : List ℕ) → list_all (λ b. not (eqb b 64)) w ≡ true → cut_at 64 w ≡ None
cut_nowhere w h =
    let p = λ (b : ℕ). eqb b 64 in
    let place : position_or_len p w ≡ length w =
    position_or_len_is p w (length w) 0 (omega arith) (λ k inside. not-true _ (AllPass-from_list_all (λ b. not (eqb b 64)) w h k 0 inside)) (λ inside. absurd (omega (arith, inside))) in
    ap (λ b. cond b (Some (before_first p w, after_first p w)) None) (le-ltb (position_or_len p w) (length w) (omega (arith, place)))

begins_some : (w : List ℕ) → begins_name (slice_index w 0) ≡ true → 0 < length w
begins_some [] h = let bad : false ≡ true = h in absurd cc
begins_some (b ∷ bs) h = omega arith

pub name_is_word : (name : List ℕ) → is_field_name name ≡ true → IsWord name
name_is_word name h =
    let parts = three_parts (begins_name (slice_index name 0)) (list_all is_name_byte name) (not (is_taken_word name)) h in
    record { all = word_name name parts.1.0; some = begins_some name parts.0 }

no_number : (b : ℕ) → begins_name b ≡ true → (is_ascii_digit b || eqb b 45) ≡ false
no_number b h = grind (arith, nat_tests)

-- a name is neither a number nor the argument
pub name_begins_comparison : (name : List ℕ) → is_field_name name ≡ true → (begins_number name || bytes_eq name (codes "arg")) ≡ false
name_begins_comparison name h =
    let parts = three_parts (begins_name (slice_index name 0)) (list_all is_name_byte name) (not (is_taken_word name)) h in
    or_from (begins_number name) (bytes_eq name (codes "arg")) (no_number (slice_index name 0) parts.0)
    (or_parts (bytes_eq name (codes "arg")) (bytes_eq name (codes "bytes") || bytes_eq name (codes "in")) (not-true (is_taken_word name) parts.1.1)).0

pub cut_name : (name : List ℕ) → is_field_name name ≡ true → cut_at 64 name ≡ None
cut_name name h =
    cut_nowhere name (no_at_name name (three_parts (begins_name (slice_index name 0)) (list_all is_name_byte name) (not (is_taken_word name)) h).1.0)

pub name_again : (layout : List (List ℕ × Field)) (name : List ℕ) (field : Field) → is_field_name name ≡ true → field_named layout name ≡ Some field → field_of layout name ≡ Ok field
name_again layout name field h found = ap (field_in layout name) (cut_name name h) ∙ ap (λ (o : Option Field). ok_or o kinds.Name) found

-- ---- numbers

numeral_again : (ds : List ℕ) (n : ℕ) → IsNumeral 10 ds → digits_value 10 ds ≡ n → n < 2 ^ 64 → numeral_of 10 ds ≡ Ok n
numeral_again ds n numeral value small =
    ap (λ b. cond b (Err kinds.Number) (cond (list_all (λ byte. is_digit byte 10) ds) (cond (ltb (digits_value 10 ds) (2 ^ 64)) (Ok (digits_value 10 ds)) (Err kinds.Range)) (Err kinds.Number))) (ne_eqb (length ds) 0 (omega (arith, numeral.0)))
    ∙ rw (all_digits 10 ds numeral.1, value, lt-ltb n (2 ^ 64) small) refl

no_digit : (d c : ℕ) → digit_value d < 10 → 57 < c → eqb d c ≡ false
no_digit d c h over = let range = digit_from_value d h in grind (arith, nat_tests)

no_sign : (d : ℕ) → digit_value d < 10 → eqb d 45 ≡ false
no_sign d h = let range = digit_from_value d h in grind (arith, nat_tests)

no_x_second : (ds : List ℕ) → AllDigits 10 ds → eqb (get_or ds 1 0) 120 ≡ false
no_x_second [] h = refl
no_x_second (d ∷ []) h = refl
no_x_second (d ∷ e ∷ ds) h = no_digit e 120 h.1.0 (omega arith)

no_sign_first : (ds : List ℕ) → AllDigits 10 ds → eqb (get_or ds 0 0) 45 ≡ false
no_sign_first [] h = refl
no_sign_first (d ∷ ds) h = no_sign d h.0

magnitude_again : (n : ℕ) → n < 2 ^ 64 → magnitude_of (decimal n) ≡ Ok n
magnitude_again n small =
    let d = decimal_is_IsNumeral n small in
    ap (λ b. cond b (numeral_of 16 (drop 2 (decimal n))) (numeral_of 10 (decimal n))) (ap (λ b. eqb (get_or (decimal n) 0 0) 48 && b) (no_x_second (decimal n) d.0.1) ∙ and-false (eqb (get_or (decimal n) 0 0) 48))
    ∙ numeral_again (decimal n) n d.0 d.1 small

-- how far a number is from 0
abbrev IsNear : ℤ → Type 0
IsNear (pos n) = n < 2 ^ 64
IsNear (negsuc n) = suc n < 2 ^ 64

literal_again : (z : ℤ) → IsNear z → literal_of (signed_decimal z) ≡ Ok z
literal_again (pos n) small =
    let d = decimal_is_IsNumeral n small in
    ap (λ b. cond b (numeral_of 10 (drop 1 (decimal n)) >>= λ m. Ok (neg_ℤ (pos m))) (magnitude_of (decimal n) >>= λ m. Ok (pos m))) (no_sign_first (decimal n) d.0.1)
    ∙ ap (λ r. r >>= λ m. Ok (pos m)) (magnitude_again n small)
literal_again (negsuc n) small =
    let d = decimal_is_IsNumeral (suc n) small in
    ap (λ r. r >>= λ m. Ok (neg_ℤ (pos m))) (numeral_again (decimal (suc n)) (suc n) d.0 d.1 small)

-- a number of a type isn't far from 0
near_of : (sign : Sign) (size : Size) (z : ℤ) → (int_le (least_of sign size) z && int_le z (greatest_of sign size)) ≡ true → IsNear z
near_of Unsigned Byte (pos n) h = let small = leb-true n 255 (and_parts (int_le (least_of Unsigned Byte) (pos n)) (int_le (pos n) (greatest_of Unsigned Byte)) h).1 in omega arith
near_of Unsigned Byte (negsuc n) h = let bad : false ≡ true = (and_parts (int_le (least_of Unsigned Byte) (negsuc n)) (int_le (negsuc n) (greatest_of Unsigned Byte)) h).0 in absurd cc
near_of Unsigned HalfWord (pos n) h = let small = leb-true n 65535 (and_parts (int_le (least_of Unsigned HalfWord) (pos n)) (int_le (pos n) (greatest_of Unsigned HalfWord)) h).1 in omega arith
near_of Unsigned HalfWord (negsuc n) h = let bad : false ≡ true = (and_parts (int_le (least_of Unsigned HalfWord) (negsuc n)) (int_le (negsuc n) (greatest_of Unsigned HalfWord)) h).0 in absurd cc
near_of Unsigned Word (pos n) h = let small = leb-true n 4294967295 (and_parts (int_le (least_of Unsigned Word) (pos n)) (int_le (pos n) (greatest_of Unsigned Word)) h).1 in omega arith
near_of Unsigned Word (negsuc n) h = let bad : false ≡ true = (and_parts (int_le (least_of Unsigned Word) (negsuc n)) (int_le (negsuc n) (greatest_of Unsigned Word)) h).0 in absurd cc
near_of Unsigned DoubleWord (pos n) h = let small = leb-true n 18446744073709551615 (and_parts (int_le (least_of Unsigned DoubleWord) (pos n)) (int_le (pos n) (greatest_of Unsigned DoubleWord)) h).1 in omega arith
near_of Unsigned DoubleWord (negsuc n) h = let bad : false ≡ true = (and_parts (int_le (least_of Unsigned DoubleWord) (negsuc n)) (int_le (negsuc n) (greatest_of Unsigned DoubleWord)) h).0 in absurd cc
near_of Signed Byte (pos n) h = let small = leb-true n 127 (and_parts (int_le (least_of Signed Byte) (pos n)) (int_le (pos n) (greatest_of Signed Byte)) h).1 in omega arith
near_of Signed Byte (negsuc n) h = let small = leb-true n 127 (and_parts (int_le (least_of Signed Byte) (negsuc n)) (int_le (negsuc n) (greatest_of Signed Byte)) h).0 in omega arith
near_of Signed HalfWord (pos n) h = let small = leb-true n 32767 (and_parts (int_le (least_of Signed HalfWord) (pos n)) (int_le (pos n) (greatest_of Signed HalfWord)) h).1 in omega arith
near_of Signed HalfWord (negsuc n) h = let small = leb-true n 32767 (and_parts (int_le (least_of Signed HalfWord) (negsuc n)) (int_le (negsuc n) (greatest_of Signed HalfWord)) h).0 in omega arith
near_of Signed Word (pos n) h = let small = leb-true n 2147483647 (and_parts (int_le (least_of Signed Word) (pos n)) (int_le (pos n) (greatest_of Signed Word)) h).1 in omega arith
near_of Signed Word (negsuc n) h = let small = leb-true n 2147483647 (and_parts (int_le (least_of Signed Word) (negsuc n)) (int_le (negsuc n) (greatest_of Signed Word)) h).0 in omega arith
near_of Signed DoubleWord (pos n) h = let small = leb-true n 9223372036854775807 (and_parts (int_le (least_of Signed DoubleWord) (pos n)) (int_le (pos n) (greatest_of Signed DoubleWord)) h).1 in omega arith
near_of Signed DoubleWord (negsuc n) h = let small = leb-true n 9223372036854775807 (and_parts (int_le (least_of Signed DoubleWord) (negsuc n)) (int_le (negsuc n) (greatest_of Signed DoubleWord)) h).0 in omega arith

-- ---- operands

begins_digits : (ds : List ℕ) → AllDigits 10 ds → 0 < length ds → begins_number ds ≡ true
begins_digits [] h some = absurd (omega arith)
begins_digits (d ∷ ds) h some = rw (digit_digit d h.0) refl

begins_again : (z : ℤ) → IsNear z → begins_number (signed_decimal z) ≡ true
begins_again (pos n) small = let d = decimal_is_IsNumeral n small in begins_digits (decimal n) d.0.1 d.0.0
begins_again (negsuc n) small = refl

field_operand : (layout : List (List ℕ × Field)) (against : Field) (sign : Sign) (rest : List ℕ) → operand_of layout against (sign_letter sign ∷ rest) ≡ (field_of layout (sign_letter sign ∷ rest) >>= field_for against)
field_operand layout against Unsigned rest = refl
field_operand layout against Signed rest = refl

pub operand_again : (layout : List (List ℕ × Field)) (against : Field) (operand : Operand) → IsOperand against operand → operand_of layout against (operand_word operand) ≡ Ok operand
operand_again layout against (operands.Number z) fits =
    let near = near_of against.sign against.size z fits in
    ap (λ b. cond b (literal_of (signed_decimal z) >>= number_for against) (cond (bytes_eq (signed_decimal z) (codes "arg")) (Ok operands.Argument) (cond (is_word_byte (get_or (signed_decimal z) 0 0)) (field_of layout (signed_decimal z) >>= field_for against) (Err kinds.Operand)))) (begins_again z near)
    ∙ ap (λ r. r >>= number_for against) (literal_again z near)
    ∙ ap (λ b. cond b (Ok (operands.Number z)) (Err kinds.Range)) fits
operand_again layout against operands.Argument fits = refl
operand_again layout against (operands.Field field) fits =
    field_operand layout against field.sign (shape_text field.size field.order ++ 64 ∷ decimal field.offset)
    ∙ ap (λ (r : Result Field FaultKind). r >>= field_for against) (field_again layout field fits.0)
    ∙ ap (λ (b : Bool). cond b (Ok (operands.Field field)) (Err kinds.Sign)) fits.1

pub field_is_word : (field : Field) → IsField field → IsWord (field_text field)
field_is_word field small = record { all = word_field field small; some = omega arith }

number_is_word : (z : ℤ) → IsNear z → IsWord (signed_decimal z)
number_is_word (pos n) small = record { all = word_decimal n small; some = (decimal_is_IsNumeral n small).0.0 }
number_is_word (negsuc n) small = record { all = word_decimal (suc n) small; some = omega arith }

pub operand_is_word : (against : Field) (operand : Operand) → IsOperand against operand → IsWord (operand_word operand)
operand_is_word against (operands.Number z) fits = number_is_word z (near_of against.sign against.size z fits)
operand_is_word against operands.Argument fits = record { all = refl; some = omega arith }
operand_is_word against (operands.Field field) fits = field_is_word field fits.0
