-- Blanks around a line, and a comment behind it, change nothing.
use Rattle.std.proofs.Common.{◌≡◌, ℕ, ◌==◌, Bool, true, false, ◌&&◌, cond, List, [], ◌∷◌, ◌++◌, None, Err, refl, sym, ap, ◌∙◌, subst}
use Rattle.std.specs.Char.{is_ascii}
use Rattle.std.specs.List.{list_all}
use Rattle.std.proofs.lemmas.List.{append-nil}
use Rattle.std.proofs.lemmas.List.Folds.{list_all-append}
use Rattle.std.proofs.lemmas.List.Sums.{list_all-from_AllPass}
use Rattle.text_lines.specs.Cut.{is_blank_byte, trimmed, uncommented, without_end_blanks, without_first_blanks}
use Rattle.text_lines.specs.Laws.{AreBlanks}
use Rattle.text_lines.proofs.Proved.{ascii_behind, back_goes, blank_is_ascii, blank_is_code, front_goes, uncommented-comment, uncommented-cons}
use Rattle.ebpf_asm.specs.declared.fault.FaultKind.TheVariants.{NotAscii}
use Rattle.ebpf_asm.specs.Laws.{BlanksDontCount, CommentsDontCount}
use Rattle.ebpf_asm.specs.Line.{Line, line_in, line_of}

-- ---- ASCII

blanks_ascii : (blanks : List ℕ) → AreBlanks blanks → list_all is_ascii blanks ≡ true
blanks_ascii [] h = refl
blanks_ascii (b ∷ blanks) h = rw (blank_is_ascii b h.0, blanks_ascii blanks h.1) refl

ascii_before : (xs ys : List ℕ) → list_all is_ascii xs ≡ true → list_all is_ascii (xs ++ ys) ≡ list_all is_ascii ys
ascii_before xs ys e = list_all-append is_ascii xs ys ∙ ap (λ (b : Bool). b && list_all is_ascii ys) e

-- ---- comments

abbrev refused : Line
refused = record { label = None; instruction = Err NotAscii; target = None }

-- a line is what its bytes without comment and blanks are, where all its bytes are ASCII
same_line : (xs ys : List ℕ) → list_all is_ascii xs ≡ list_all is_ascii ys → trimmed (uncommented xs) ≡ trimmed (uncommented ys) → line_of xs ≡ line_of ys
unfolding line_of
same_line xs ys ascii text =
    ap (λ (t : Bool). cond t (line_in (trimmed (uncommented xs))) refused) ascii
    ∙ ap (λ (code : List ℕ). cond (list_all is_ascii ys) (line_in code) refused) text

pub comments_dont_count : CommentsDontCount
comments_dont_count line rest h =
    same_line (line ++ 59 ∷ rest) line (ascii_behind line (59 ∷ rest) (list_all-from_AllPass is_ascii rest h)) (ap trimmed (uncommented-comment line rest))

-- ---- blanks in front

uncommented-front : (front xs : List ℕ) → AreBlanks front → uncommented (front ++ xs) ≡ front ++ uncommented xs
uncommented-front [] xs h = refl
uncommented-front (b ∷ front) xs h = uncommented-cons b (front ++ xs) false (blank_is_code b h.0) ∙ ap (λ (ys : List ℕ). b ∷ ys) (uncommented-front front xs h.1)

-- ---- blanks behind

-- what of the blanks behind a line is no comment
record AreBehind (line back : List ℕ) : Type 0 where
  blanks : List ℕ
  are : AreBlanks blanks
  stand : uncommented (line ++ back) ≡ uncommented line ++ blanks

behind : (line back : List ℕ) → AreBlanks back → AreBehind line back
behind [] back h = record { blanks = back; are = h; stand = subst (λ (xs : List ℕ). uncommented xs ≡ xs) (append-nil back) (uncommented-front back [] h) }
behind (b ∷ line) back h = by (b == 59) refl (behind line back h)
  where
    by : (test : Bool) → (b == 59) ≡ test → AreBehind line back → AreBehind (b ∷ line) back
    by true e later = record {
      blanks = [];
      are = tt;
      stand = uncommented-cons b (line ++ back) true e ∙ sym (ap (λ (ys : List ℕ). ys ++ []) (uncommented-cons b line true e));
    }
    by false e later = record {
      blanks = later.blanks;
      are = later.are;
      stand =
          uncommented-cons b (line ++ back) false e
          ∙ ap (λ (ys : List ℕ). b ∷ ys) later.stand
          ∙ sym (ap (λ (ys : List ℕ). ys ++ later.blanks) (uncommented-cons b line false e));
    }

trimmed-back : (text back : List ℕ) → AreBlanks back → trimmed (text ++ back) ≡ trimmed text
trimmed-back [] back h = ap trimmed (sym (append-nil back)) ∙ ap without_end_blanks (front_goes back [] h)
trimmed-back (b ∷ text) back h = by (is_blank_byte b) refl (trimmed-back text back h)
  where
    trimmed_if : List ℕ → Bool → List ℕ
    trimmed_if xs t = without_end_blanks (cond t (without_first_blanks xs) (b ∷ xs))

    by : (test : Bool) → is_blank_byte b ≡ test → trimmed (text ++ back) ≡ trimmed text → trimmed ((b ∷ text) ++ back) ≡ trimmed (b ∷ text)
    by true e later = ap (trimmed_if (text ++ back)) e ∙ later ∙ sym (ap (trimmed_if text) e)
    by false e later = ap (trimmed_if (text ++ back)) e ∙ back_goes (b ∷ text) back h ∙ sym (ap (trimmed_if text) e)

pub blanks_dont_count : BlanksDontCount
blanks_dont_count front line back in_front at_end =
    let rest = behind line back at_end in
    let code : trimmed (uncommented (front ++ (line ++ back))) ≡ trimmed (uncommented line) =
    ap trimmed (uncommented-front front (line ++ back) in_front)
    ∙ ap without_end_blanks (front_goes front (uncommented (line ++ back)) in_front)
    ∙ ap trimmed rest.stand
    ∙ trimmed-back (uncommented line) rest.blanks rest.are in
    same_line (front ++ (line ++ back)) line (ascii_before front (line ++ back) (blanks_ascii front in_front) ∙ ascii_behind line back (blanks_ascii back at_end)) code
