-- What seals and gates are.
use Rattle.std.proofs.Common.{◌≡◌, ◌⊎◌, inl, inr, ◌<◌, ◌≤◌, ℕ, Bool, true, false, List, [], ◌∷◌, ◌++◌, length, take, drop, replicate, refl, sym, ◌∙◌, ap, arith, length-append, take-append-drop}
use Rattle.std.specs.Bool.{Decides, MatchBool}
use Rattle.std.specs.Int.{to_le_bytes, w32}
use Rattle.std.proofs.lemmas.Bool.{cases_eq}
use Rattle.std.proofs.lemmas.List.{length-replicate, nil_from_length, replicate-append-replicate, take_all, take_at}
use Rattle.crc32c.specs.Crc.{sum_of}
use Rattle.durable_machine.specs.Events.{number_bytes, spelled}
use Rattle.durable_machine.specs.Seals.{seal_of, IsSealOf, HasSealLength}
use Rattle.durable_machine.specs.Journal.{closed_gate, BeginsClosed, IsEnd, IsOpenGate}
use Rattle.durable_machine.proofs.Numbers.{length-number_bytes}

-- ---- answers

-- an answer to whether this is so
pub by_answer : (r : Bool) (P Q X : Type 0) → Decides r X → (X → P) → ((X → ⊥) → Q) → MatchBool r P Q
by_answer true P Q X is so other = so (is.0 refl)
by_answer false P Q X is so other = other (λ x. differs (is.1 x))
  where
    differs : false ≡ true → ⊥
    differs same = cc

-- ---- gates

pub length-closed : length closed_gate ≡ 4096
unfolding closed_gate
length-closed = length-replicate {A = ℕ} 4096 0

pub zeros_closed : (bytes : List ℕ) → bytes ≡ replicate {A = ℕ} 4096 0 → bytes ≡ closed_gate
unfolding closed_gate
zeros_closed bytes is = is

first_differs : (x y : ℕ) (l m : List ℕ) → x ∷ l ≡ y ∷ m → x ≡ y
first_differs x y l m is = cc

pub ones_open : (bytes : List ℕ) → bytes ≡ replicate {A = ℕ} 4096 1 → IsOpenGate bytes
unfolding closed_gate
ones_open bytes is = record {
  size = ap length is ∙ length-replicate {A = ℕ} 4096 1;
  written = λ same. absurd (omega (
    arith,
    first_differs 1 0 (replicate {A = ℕ} 4095 1) (replicate {A = ℕ} 4095 0)
        (replicate-append-replicate {A = ℕ} 1 4095 1 ∙ sym is ∙ same ∙ sym (replicate-append-replicate {A = ℕ} 1 4095 0)),
  ));
}

-- what begins with a closed gate
pub begins_closed : (bytes : List ℕ) → take 4096 bytes ≡ closed_gate → BeginsClosed bytes
begins_closed bytes is = (drop 4096 bytes, sym (take-append-drop 4096 bytes) ∙ ap (λ (l : List ℕ). l ++ drop 4096 bytes) is)

pub closed_first : (bytes : List ℕ) → BeginsClosed bytes → take 4096 bytes ≡ closed_gate
closed_first bytes begins = ap (λ (l : List ℕ). take 4096 l) begins.1 ∙ take_at closed_gate begins.0 4096 length-closed

-- it is an end
pub shut : (rest : List ℕ) → IsEnd (closed_gate ++ rest)
shut rest = inl (rest, refl)

-- ---- seals

pub length-seal : (at : ℕ) (told : List ℕ) → length (seal_of at told) ≡ 21
unfolding seal_of
length-seal at told =
    let sum = to_le_bytes w32 (sum_of (number_bytes at ++ number_bytes (length told) ++ told)) in
    let four : length sum ≡ 4 = refl in
    omega (
      arith,
      length-append (number_bytes at ++ number_bytes (length told)) sum,
      length-append (number_bytes at) (number_bytes (length told)),
      length-number_bytes at,
      length-number_bytes (length told),
      four,
    )

-- a seal begins with its tag
pub seal_tag : (at : ℕ) (told rest : List ℕ) → seal_of at told ++ rest ≡ 254 ∷ (drop 1 (seal_of at told) ++ rest)
unfolding seal_of
seal_tag at told rest = refl

-- events begin with a 1, where there is one
pub events_tag : (events : List (List ℕ)) (rest : List ℕ) → 0 < length (spelled events) → spelled events ++ rest ≡ 1 ∷ (drop 1 (spelled events) ++ rest)
events_tag [] rest some = absurd (omega (arith, some))
events_tag (event ∷ events) rest some = refl

-- what is read of a payload's first byte is how long its seal is
pub read_length : (at : ℕ) (events : List (List ℕ)) (seal rest payload : List ℕ) (n : ℕ) → IsSealOf at (spelled events) seal → payload ≡ seal ++ (spelled events ++ rest) → HasSealLength n payload
    → n ≡ length seal
read_length at events seal rest payload n (inl is) parts (inl read) = read.0 ∙ sym (ap length is ∙ length-seal at (spelled events))
read_length at events seal rest payload n (inr none) parts (inr read) = read.0 ∙ sym (ap length none.0)
read_length at events seal rest payload n (inl is) parts (inr read) =
    absurd (read.1 (drop 1 (seal_of at (spelled events)) ++ (spelled events ++ rest)) (parts ∙ ap (λ (l : List ℕ). l ++ (spelled events ++ rest)) is ∙ seal_tag at (spelled events) (spelled events ++ rest)))
read_length at events seal rest payload n (inr none) parts (inl read) =
    absurd (omega (
      arith,
      first_differs 1 254 (drop 1 (spelled events) ++ rest) read.1
          (sym (events_tag events rest none.1) ∙ ap (λ (l : List ℕ). l ++ (spelled events ++ rest)) (sym none.0) ∙ sym parts ∙ read.2),
    ))

-- so two seals of one payload are as long
pub one_length : (at : ℕ) (a b : List (List ℕ)) (s t x y : List ℕ) → IsSealOf at (spelled a) s → IsSealOf at (spelled b) t → s ++ (spelled a ++ x) ≡ t ++ (spelled b ++ y) → length s ≡ length t
one_length at a b s t x y (inl is) sealed same =
    read_length at b t y (s ++ (spelled a ++ x)) (length s) sealed same
    (inl (ap length is ∙ length-seal at (spelled a), drop 1 (seal_of at (spelled a)) ++ (spelled a ++ x), ap (λ (l : List ℕ). l ++ (spelled a ++ x)) is ∙ seal_tag at (spelled a) (spelled a ++ x)))
one_length at a b s t x y (inr none) sealed same =
    read_length at b t y (s ++ (spelled a ++ x)) (length s) sealed same
    (inr (
      ap length none.0,
      λ rest is. absurd (omega (
        arith,
        first_differs 1 254 (drop 1 (spelled a) ++ x) rest (sym (events_tag a x none.1) ∙ ap (λ (l : List ℕ). l ++ (spelled a ++ x)) (sym none.0) ∙ is),
      )),
    ))

-- ---- what is compared of a seal

-- all of it
pub same_seal : (at : ℕ) (told seal whole made : List ℕ) (r : Bool) → (length seal ≡ 0) ⊎ (length seal ≡ 21) → 21 ≤ length seal → whole ≡ take 21 seal → made ≡ seal_of at told
    → Decides r (whole ≡ made) → MatchBool r (IsSealOf at told seal) (IsSealOf at told seal → ⊥)
same_seal at told seal whole made r (inl none) long front is answer = absurd (omega (arith, none, long))
same_seal at told seal whole made r (inr size) long front is answer =
    let all : whole ≡ seal = front ∙ take_all 21 seal (omega (arith, size)) in
    by_answer r (IsSealOf at told seal) (IsSealOf at told seal → ⊥) (whole ≡ made) answer
    (λ same. inl (sym all ∙ same ∙ is))
    (λ other. none_of other all)
  where
    none_of : (whole ≡ made → ⊥) → whole ≡ seal → IsSealOf at told seal → ⊥
    none_of other all (inl sealed) = other (all ∙ sealed ∙ sym is)
    none_of other all (inr none) = absurd (omega (arith, ap length none.0, long))

-- none, where there is an event
pub no_seal : (at : ℕ) (told seal : List ℕ) (r : Bool) → (length seal ≡ 0) ⊎ (length seal ≡ 21) → length seal < 21 → Decides r (0 < length told) → MatchBool r (IsSealOf at told seal) (IsSealOf at told seal → ⊥)
no_seal at told seal r (inr size) short answer = absurd (omega (arith, size, short))
no_seal at told seal r (inl size) short answer =
    by_answer r (IsSealOf at told seal) (IsSealOf at told seal → ⊥) (0 < length told) answer
    (λ some. inr (nil_from_length seal size, some))
    none_of
  where
    none_of : (0 < length told → ⊥) → IsSealOf at told seal → ⊥
    none_of other (inl sealed) = absurd (omega (arith, ap length sealed, length-seal at told, size))
    none_of other (inr none) = other none.1

-- ---- lists

pub same_or_not : (xs ys : List ℕ) → (xs ≡ ys) ⊎ (xs ≡ ys → ⊥)
same_or_not [] [] = inl refl
same_or_not [] (y ∷ ys) = inr (λ is. absurd (omega (arith, ap length is)))
same_or_not (x ∷ xs) [] = inr (λ is. absurd (omega (arith, ap length is)))
same_or_not (x ∷ xs) (y ∷ ys) = both (cases_eq x y) (same_or_not xs ys)
  where
    both : (x ≡ y) ⊎ (x ≡ y → ⊥) → (xs ≡ ys) ⊎ (xs ≡ ys → ⊥) → (x ∷ xs ≡ y ∷ ys) ⊎ (x ∷ xs ≡ y ∷ ys → ⊥)
    both (inl first) (inl rest) = inl (cc (first, rest))
    both (inr other) rest = inr (λ is. other (first_differs x y xs ys is))
    both (inl first) (inr other) = inr (λ is. other (ap (λ (l : List ℕ). drop 1 l) is))
