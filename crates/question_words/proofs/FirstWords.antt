-- A text as its first word and the words after that.
use Rattle.std.proofs.Common.{◌≡◌, ℕ, zero, suc, ◌-◌, ◌<◌, Bool, true, false, not, cond, eqb, ltb, List, [], ◌∷◌, ◌++◌, length, get_or, take, drop, Some, None, refl, sym, ap, ◌∙◌, arith}
use Rattle.std.specs.List.{list_all, position, position_or_len}
use Rattle.std.specs.Option.{unwrap_or}
use Rattle.std.proofs.Math.Seq.{get_or-append_seam}
use Rattle.std.proofs.Math.ListN.{get_or-append}
use Rattle.std.proofs.lemmas.Bool.{and_parts, ltb-false}
use Rattle.std.proofs.lemmas.List.{take_at, drop_at, length-append}
use Rattle.std.proofs.lemmas.List.Sums.{AllPass-from_list_all, position_or_len_is, prefix_len-le-length}
use Rattle.question_words.specs.Cutting.{Cut, cuts, cuts_after, is_word_byte, quoted_width, symbol_width, width}

cuts_skip : (k : ℕ) (t : List ℕ) → cuts_after k t ≡ cuts_after 0 (drop k t)
cuts_skip zero [] = refl
cuts_skip zero (b ∷ bs) = refl
cuts_skip (suc k) [] = refl
cuts_skip (suc k) (b ∷ bs) = cuts_skip k bs

drop_one : (n b : ℕ) (bs : List ℕ) → 0 < n → drop (n - 1) bs ≡ drop n (b ∷ bs)
drop_one zero b bs some = absurd (omega arith)
drop_one (suc n) b bs some = let same : suc n - 1 ≡ n = omega arith in ap (λ (m : ℕ). drop m bs) same

-- the words of a text that has a byte
pub cuts_first : (t : List ℕ) → 0 < length t → 0 < width t → cuts t ≡ record { left = length t; word = take (width t) t } ∷ cuts (drop (width t) t)
unfolding cuts
cuts_first [] some wide = absurd (omega arith)
cuts_first (b ∷ bs) some wide =
    let t = b ∷ bs in
    let front : Cut = record { left = length t; word = take (width t) t } in
    ap (λ (cs : List Cut). front ∷ cs) (cuts_skip (width t - 1) bs ∙ ap (cuts_after 0) (drop_one (width t) b bs wide))

-- a word in front of a text
pub cuts_word : (w r : List ℕ) → 0 < length w → width (w ++ r) ≡ length w → cuts (w ++ r) ≡ record { left = length (w ++ r); word = w } ∷ cuts r
cuts_word w r some wide =
    cuts_first (w ++ r) (omega (arith, length-append w r)) (omega (arith, wide))
    ∙ ap (λ (t : List ℕ). record { left = length (w ++ r); word = t } ∷ cuts (drop (width (w ++ r)) (w ++ r))) (take_at w r (width (w ++ r)) (sym wide))
    ∙ ap (λ (t : List ℕ). record { left = length (w ++ r); word = w } ∷ cuts t) (drop_at w r (width (w ++ r)) (sym wide))

pub cuts_none : cuts [] ≡ []
unfolding cuts
cuts_none = refl

-- the bytes of a word that names are made of, where none is after it
not_of : (b : Bool) → b ≡ true → not b ≡ false
not_of true h = refl
not_of false h = absurd cc

not_no : (b : Bool) → b ≡ false → not b ≡ true
not_no false h = refl
not_no true h = absurd cc

boundary : (w r : List ℕ) → is_word_byte (get_or r 0 0) ≡ false → length w < length (w ++ r) → not (is_word_byte (get_or (w ++ r) (length w) 0)) ≡ true
boundary w [] end more = absurd (omega (arith, length-append w []))
boundary w (y ∷ r) end more = ap (λ (b : ℕ). not (is_word_byte b)) (get_or-append_seam w y r 0) ∙ not_no (is_word_byte y) end

pub word_width : (w r : List ℕ) → list_all is_word_byte w ≡ true → 0 < length w → is_word_byte (get_or r 0 0) ≡ false → width (w ++ r) ≡ length w
word_width [] r all some end = absurd (omega arith)
word_width (b ∷ bs) r all some end =
    let w = b ∷ bs in
    let first : is_word_byte b ≡ true = (and_parts (is_word_byte b) (list_all is_word_byte bs) all).0 in
    ap (λ (named : Bool). cond named (position_or_len (λ byte. not (is_word_byte byte)) (w ++ r)) (cond (eqb b 34) (quoted_width (w ++ r)) (symbol_width b (get_or (bs ++ r) 0 0) (get_or (bs ++ r) 1 0)))) first
    ∙ position_or_len_is (λ byte. not (is_word_byte byte)) (w ++ r) (length w) 0 (omega (arith, length-append w r))
    (λ k inside. ap (λ (byte : ℕ). not (is_word_byte byte)) (get_or-append w r 0 k inside) ∙ not_of _ (AllPass-from_list_all is_word_byte w all k 0 inside))
    (boundary w r end)

-- where a name's byte is first, one byte or more is
pub name_some : (t : List ℕ) → is_word_byte (get_or t 0 0) ≡ true → 0 < position_or_len (λ byte. not (is_word_byte byte)) t
name_some [] h = absurd cc
name_some (b ∷ bs) h = rw h (omega arith)

-- the first place, or after all
chosen : (b : Bool) (n m : ℕ) → (b ≡ false → m ≡ n) → unwrap_or (cond b (Some n) None) m ≡ n
chosen true n m h = refl
chosen false n m h = h refl

pub or_all : (p : ℕ → Bool) (t : List ℕ) → unwrap_or (position p t) (length t) ≡ position_or_len p t
or_all p t =
    let most = prefix_len-le-length (λ x. not (p x)) t in
    chosen (ltb (position_or_len p t) (length t)) (position_or_len p t) (length t) (λ h. let past = ltb-false _ _ h in omega (arith, past, most))
