-- What comes from a source beside a text that is compared with it in parts.
use Rattle.std.proofs.Common.{◌≡◌, ◌+◌, ℕ, ◌≤◌, min, Bool, true, false, not, List, [], ◌++◌, length, take, Result, Ok, Err, refl, ap, sym, ◌∙◌, append_assoc, arith, length-append}
use Rattle.std.specs.Prelude.{◌≢◌, bytes_eq}
use Rattle.std.proofs.lemmas.List.{append-nil, append_cancel_left, length-take, length-take-le, take-append-le, take_at}
use Rattle.std.proofs.lemmas.Slice.Eq.{bytes_eq-Decides}
use Rattle.image_text.specs.SameText.{Compares, ComparesAll, ComparesPiece, IsSameSoFar}
use Rattle.image_text.specs.Streams.{IsRead}
use Rattle.image_text.specs.declared.same_text.Difference.{Difference}
use Rattle.image_text.specs.declared.same_text.Difference.TheVariants.{Other, Stream}

-- a further part came
pub goes_on : (before mid after text first rest : List ℕ) → IsSameSoFar before mid text (first ++ rest) → mid ≡ first ++ after → IsSameSoFar before after text rest
goes_on before mid after text first rest so_far more = record {
  part = so_far.part ++ first;
  whole = so_far.whole ∙ sym (append_assoc so_far.part first rest);
  came = so_far.came ∙ (ap (λ (xs : List ℕ). so_far.part ++ xs) more ∙ sym (append_assoc so_far.part first after));
}

-- what is left doesn't come
differs_last : (before mid text last : List ℕ) → IsSameSoFar before mid text last → ((tail : List ℕ) → mid ≢ last ++ tail) → (tail : List ℕ) → before ≢ text ++ tail
differs_last before mid text last so_far other tail is = other tail
    (append_cancel_left so_far.part mid (last ++ tail)
    (sym so_far.came ∙ (is ∙ (ap (λ (xs : List ℕ). xs ++ tail) so_far.whole ∙ append_assoc so_far.part last tail))))

-- a further part doesn't
differs : (before mid text first rest : List ℕ) → IsSameSoFar before mid text (first ++ rest) → ((tail : List ℕ) → mid ≢ first ++ tail) → (tail : List ℕ) → before ≢ text ++ tail
differs before mid text first rest so_far other =
    differs_last before mid text (first ++ rest) so_far (λ tail is. other (rest ++ tail) (is ∙ append_assoc first rest tail))

-- it is told so of the whole text
pub stops : (before mid after text first rest : List ℕ) (difference : Difference) → IsSameSoFar before mid text (first ++ rest) → Compares mid after first (Err difference) → Compares before after text (Err difference)
stops before mid after text first rest Other so_far other = differs before mid text first rest so_far other
stops before mid after text first rest Stream so_far other = tt

-- the same where it is all that is left, and only a piece of it was looked at
pub stops_at : (before mid after text last : List ℕ) (difference : Difference) → IsSameSoFar before mid text last → ComparesPiece mid after last (Err difference) → Compares before after text (Err difference)
stops_at before mid after text last Other so_far other = differs_last before mid text last so_far other
stops_at before mid after text last Stream so_far other = tt

-- nothing of the text is left
pub ends : (before after text : List ℕ) → IsSameSoFar before after text [] → before ≡ text ++ after
ends before after text so_far = so_far.came ∙ ap (λ (xs : List ℕ). xs ++ after) (sym (so_far.whole ∙ append-nil so_far.part))

-- the first part of a text doesn't come
pub first_differs : (before after text first rest : List ℕ) (difference : Difference) → text ≡ first ++ rest
    → Compares before after first (Err difference) → ComparesAll before text (Err difference)
first_differs before after text first rest Other parts other = λ is. other rest (is ∙ parts)
first_differs before after text first rest Stream parts other = tt

-- it came, and what comes behind it is the rest, or isn't
pub first_came : (before mid text first rest : List ℕ) (result : Result (Unit {0}) Difference) → text ≡ first ++ rest
    → before ≡ first ++ mid → ComparesAll mid rest result → ComparesAll before text result
first_came before mid text first rest (Ok same) parts came whole = came ∙ (ap (λ (xs : List ℕ). first ++ xs) whole ∙ sym parts)
first_came before mid text first rest (Err Other) parts came other =
    λ is. other (append_cancel_left first mid rest (sym came ∙ (is ∙ parts)))
first_came before mid text first rest (Err Stream) parts came other = tt

not_both : (b : Bool) → true ≡ not b → b ≡ true → ⊥
not_both true told is = absurd cc
not_both false told is = absurd cc

not_false : (b : Bool) → false ≡ not b → b ≡ true
not_false true told = refl
not_false false told = absurd cc

-- nothing came, though there was room
pub none_came : (before after to bytes : List ℕ) (n : ℕ) → n ≡ 0 → 1 ≤ length bytes → 1 ≤ length to → IsRead before after to n → (tail : List ℕ) → before ≢ bytes ++ tail
none_came before after to bytes n zero some room read tail is =
    let long : length before ≡ length bytes + length tail = ap length is ∙ length-append bytes tail in
    let more = read.some (omega arith) room in
    absurd (omega arith)

-- other bytes came
pub others_came : (before after to bytes : List ℕ) (n : ℕ) → n ≤ length bytes → n ≤ length to → take n to ≢ take n bytes → IsRead before after to n → (tail : List ℕ) → before ≢ bytes ++ tail
others_came before after to bytes n within room other read tail is =
    let front : take n (take n to ++ after) ≡ take n to = take_at (take n to) after n (length-take-le n to room) in
    other (sym front ∙ (ap (take n) (sym read.bytes ∙ is) ∙ take-append-le n bytes tail within))

-- the same bytes came
pub same_came : (before after to bytes : List ℕ) (n : ℕ) → take n to ≡ take n bytes → IsRead before after to n → before ≡ take n bytes ++ after
same_came before after to bytes n same read = read.bytes ∙ ap (λ (xs : List ℕ). xs ++ after) same

-- what is read at a time has room, and no more than the rest
pub has_room : (piece to : List ℕ) (most left : ℕ) → most ≡ min left (length piece) → 1 ≤ left → 1 ≤ length piece → length to ≡ length (take most piece) → 1 ≤ length to
has_room piece to most left is some room size = let whole = length-take most piece in omega arith

pub is_within : (piece to : List ℕ) (most left n : ℕ) → most ≡ min left (length piece) → length to ≡ length (take most piece) → n ≤ length to → n ≤ left
is_within piece to most left n is size within = let whole = length-take most piece in omega arith

-- a test that tells other bytes, and one that tells the same
pub tell_others : (xs ys : List ℕ) → true ≡ not (bytes_eq xs ys) → xs ≢ ys
tell_others xs ys told same = absurd (not_both (bytes_eq xs ys) told ((bytes_eq-Decides xs ys).1 same))

pub tell_same : (xs ys : List ℕ) → false ≡ not (bytes_eq xs ys) → xs ≡ ys
tell_same xs ys told = (bytes_eq-Decides xs ys).0 (not_false (bytes_eq xs ys) told)
