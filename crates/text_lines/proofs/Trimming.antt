-- That the trimmed text is what stands between blanks, and nothing else is.
use Rattle.std.proofs.Common.{◌≡◌, ℕ, Bool, true, false, ◌&&◌, eqb, cond, List, [], ◌∷◌, ◌++◌, length, refl, sym, ap, subst, ◌∙◌, arith}
use Rattle.std.proofs.lemmas.List.{append-nil, nil_from_length}
use Rattle.std.proofs.lemmas.Bool.{and_parts, eqb-true}
use Rattle.text_lines.specs.Cut.{is_blank_byte, trimmed, without_end_blanks, without_first_blanks}
use Rattle.text_lines.specs.Laws.{AreBlanks, IsBetweenBlanks, NoBlankFirst, NoBlankLast, TrimmedTextsAreBetweenBlanks}
use Rattle.text_lines.proofs.Blanks.{end_stays}

-- ---- the blanks in front

record BlanksInFront (text rest : List ℕ) : Type 0 where
  front : List ℕ
  is : text ≡ front ++ rest
  blanks : AreBlanks front

one_more_in_front : (byte : ℕ) (text : List ℕ) (blank : Bool) → is_blank_byte byte ≡ blank → BlanksInFront text (without_first_blanks text)
    → BlanksInFront (byte ∷ text) (cond blank (without_first_blanks text) (byte ∷ text))
one_more_in_front byte text true is more = record {
  front = byte ∷ more.front;
  is = ap (λ (bytes : List ℕ). byte ∷ bytes) more.is;
  blanks = (is, more.blanks);
}
one_more_in_front byte text false is more = record { front = []; is = refl; blanks = tt }

blanks_in_front : (text : List ℕ) → BlanksInFront text (without_first_blanks text)
blanks_in_front [] = record { front = []; is = refl; blanks = tt }
blanks_in_front (byte ∷ text) = one_more_in_front byte text (is_blank_byte byte) refl (blanks_in_front text)

no_blank_by : (byte : ℕ) (text : List ℕ) (blank : Bool) → is_blank_byte byte ≡ blank → NoBlankFirst (without_first_blanks text)
    → NoBlankFirst (cond blank (without_first_blanks text) (byte ∷ text))
no_blank_by byte text true is more = more
no_blank_by byte text false is more = λ other rest e.
    let same : byte ≡ other = cc in
    subst (λ (b : ℕ). is_blank_byte b ≡ false) same is

-- a text without its first blanks begins with no blank
pub no_blank_first : (text : List ℕ) → NoBlankFirst (without_first_blanks text)
no_blank_first [] = λ byte rest e. cc
no_blank_first (byte ∷ text) = no_blank_by byte text (is_blank_byte byte) refl (no_blank_first text)

-- ---- the blanks behind

record BlanksBehind (text rest : List ℕ) : Type 0 where
  back : List ℕ
  is : text ≡ rest ++ back
  blanks : AreBlanks back

not_both : (a b : Bool) → (a && b) ≡ false → b ≡ true → a ≡ false
not_both true b e is = cc
not_both false b e is = refl

one_more_behind : (byte : ℕ) (text : List ℕ) (end : Bool) → (is_blank_byte byte && eqb (length (without_end_blanks text)) 0) ≡ end
    → BlanksBehind text (without_end_blanks text) → BlanksBehind (byte ∷ text) (cond end [] (byte ∷ without_end_blanks text))
one_more_behind byte text true is more =
    let two = and_parts (is_blank_byte byte) (eqb (length (without_end_blanks text)) 0) is in
    let none_left = nil_from_length (without_end_blanks text) (eqb-true _ _ two.1) in
    let all : text ≡ more.back = more.is ∙ ap (λ (bytes : List ℕ). bytes ++ more.back) none_left in
    record { back = byte ∷ text; is = refl; blanks = (two.0, subst AreBlanks (sym all) more.blanks) }
one_more_behind byte text false is more = record { back = more.back; is = ap (λ (bytes : List ℕ). byte ∷ bytes) more.is; blanks = more.blanks }

blanks_behind : (text : List ℕ) → BlanksBehind text (without_end_blanks text)
blanks_behind [] = record { back = []; is = refl; blanks = tt }
blanks_behind (byte ∷ text) =
    one_more_behind byte text (is_blank_byte byte && eqb (length (without_end_blanks text)) 0) refl (blanks_behind text)

some_stands : (rest : List ℕ) (byte : ℕ) → [] ≡ rest ++ byte ∷ [] → ⊥
some_stands [] byte e = cc
some_stands (x ∷ rest) byte e = cc

last_behind : (byte : ℕ) (more : List ℕ) → (is_blank_byte byte && eqb (length more) 0) ≡ false → NoBlankLast more → NoBlankLast (byte ∷ more)
last_behind byte more is none [] other e =
    let same : byte ≡ other = cc in
    let empty : more ≡ [] = cc in
    let no_more : eqb (length more) 0 ≡ true = rw empty refl in
    subst (λ (b : ℕ). is_blank_byte b ≡ false) same (not_both (is_blank_byte byte) (eqb (length more) 0) is no_more)
last_behind byte more is none (x ∷ rest) other e =
    let same : more ≡ rest ++ other ∷ [] = cc in none rest other same

no_blank_last_by : (byte : ℕ) (more : List ℕ) (end : Bool) → (is_blank_byte byte && eqb (length more) 0) ≡ end → NoBlankLast more
    → NoBlankLast (cond end [] (byte ∷ more))
no_blank_last_by byte more true is none = λ rest other e. absurd (some_stands rest other e)
no_blank_last_by byte more false is none = last_behind byte more is none

no_blank_last : (text : List ℕ) → NoBlankLast (without_end_blanks text)
no_blank_last [] = λ rest byte e. absurd (some_stands rest byte e)
no_blank_last (byte ∷ text) =
    no_blank_last_by byte (without_end_blanks text) (is_blank_byte byte && eqb (length (without_end_blanks text)) 0) refl (no_blank_last text)

-- the first byte stays, where it is no blank
pub without_end_blanks-cons : (byte : ℕ) (bytes : List ℕ) → is_blank_byte byte ≡ false → without_end_blanks (byte ∷ bytes) ≡ byte ∷ without_end_blanks bytes
without_end_blanks-cons byte bytes is = rw is refl

first_stays : (bytes : List ℕ) → NoBlankFirst bytes → NoBlankFirst (without_end_blanks bytes)
first_stays [] none = none
first_stays (byte ∷ bytes) none =
    let no_blank : is_blank_byte byte ≡ false = none byte bytes refl in
    subst NoBlankFirst (sym (without_end_blanks-cons byte bytes no_blank)) (λ other rest e.
    let same : byte ≡ other = cc in
    subst (λ (b : ℕ). is_blank_byte b ≡ false) same no_blank)

trimmed_between : (text : List ℕ) → IsBetweenBlanks text (trimmed text)
trimmed_between text =
    let inside = without_first_blanks text in
    let before = blanks_in_front text in
    let after = blanks_behind inside in
    record {
      front = before.front;
      back = after.back;
      parts = before.is ∙ ap (λ (bytes : List ℕ). before.front ++ bytes) after.is;
      front_blanks = before.blanks;
      back_blanks = after.blanks;
      first = first_stays inside (no_blank_first text);
      last = no_blank_last inside;
    }

-- ---- nothing else stands so

-- blanks in front of bytes go with the first blanks of these
pub front_goes : (front bytes : List ℕ) → AreBlanks front → without_first_blanks (front ++ bytes) ≡ without_first_blanks bytes
front_goes [] bytes blanks = refl
front_goes (byte ∷ front) bytes blanks = rw blanks.0 (front_goes front bytes blanks.1)

-- blanks behind bytes go with the last blanks of these
pub back_goes : (bytes back : List ℕ) → AreBlanks back → without_end_blanks (bytes ++ back) ≡ without_end_blanks bytes
back_goes [] [] blanks = refl
back_goes [] (byte ∷ back) blanks = rw (blanks.0, back_goes [] back blanks.1) refl
back_goes (byte ∷ bytes) back blanks = rw (back_goes bytes back blanks) refl

-- in front nothing goes where no blank is first
pub without_first_blanks-cons : (byte : ℕ) (bytes : List ℕ) → is_blank_byte byte ≡ false → without_first_blanks (byte ∷ bytes) ≡ byte ∷ bytes
without_first_blanks-cons byte bytes is = rw is refl

stays_whole : (bytes : List ℕ) → NoBlankLast bytes → without_end_blanks bytes ≡ bytes
stays_whole [] none = refl
stays_whole (byte ∷ []) none = without_end_blanks-cons byte [] (none [] byte refl)
stays_whole (byte ∷ x ∷ xs) none =
    end_stays (byte ∷ []) (x ∷ xs) (omega arith)
    (stays_whole (x ∷ xs) (λ rest other e. none (byte ∷ rest) other (ap (λ (bytes : List ℕ). byte ∷ bytes) e)))

trimmed_by : (bytes back : List ℕ) → NoBlankFirst bytes → NoBlankLast bytes → AreBlanks back → without_end_blanks (without_first_blanks (bytes ++ back)) ≡ bytes
trimmed_by [] back first last blanks =
    ap (λ (all : List ℕ). without_end_blanks (without_first_blanks all)) (sym (append-nil back)) ∙ ap without_end_blanks (front_goes back [] blanks)
trimmed_by (byte ∷ bytes) back first last blanks =
    ap without_end_blanks (without_first_blanks-cons byte (bytes ++ back) (first byte bytes refl))
    ∙ (back_goes (byte ∷ bytes) back blanks ∙ stays_whole (byte ∷ bytes) last)

pub trimmed_texts_are_between_blanks : TrimmedTextsAreBetweenBlanks
trimmed_texts_are_between_blanks text bytes = (
  λ h. sym (ap trimmed h.parts
      ∙ (ap without_end_blanks (front_goes h.front (bytes ++ h.back) h.front_blanks)
      ∙ trimmed_by bytes h.back h.first h.last h.back_blanks)),
  λ e. subst (IsBetweenBlanks text) (sym e) (trimmed_between text),
)
