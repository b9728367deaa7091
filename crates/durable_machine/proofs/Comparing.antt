-- What comparing bytes says of seals and gates.
use Rattle.std.proofs.Common.{◌≡◌, ◌≢◌, ◌≤◌, ◌+◌, ℕ, List, [], ◌∷◌, ◌++◌, length, take, drop, refl, sym, ◌∙◌, ap, arith, length-append, length-drop}
use Rattle.std.specs.Int.{to_le_bytes, w32, w64}
use Rattle.std.proofs.lemmas.List.{append-nil, drop_all, drop-drop, take_at, drop_at}
use Rattle.crc32c.specs.Crc.{sum_of}
use Rattle.durable_machine.specs.Events.{number_bytes}
use Rattle.durable_machine.specs.Seals.{seal_of}
use Rattle.durable_machine.specs.Journal.{closed_gate, BeginsClosed}
use Rattle.durable_machine.proofs.Numbers.{are_number_bytes, length-number_bytes}
use Rattle.durable_machine.proofs.Sealing.{length-closed}

-- a closed gate takes a sector
pub closed_long : (bytes : List ℕ) → BeginsClosed bytes → 4096 ≤ length bytes
closed_long bytes begins = omega (arith, ap length begins.1, length-append closed_gate begins.0, length-closed)

-- what begins with another byte has no tag
first_differs : (x y : ℕ) (l m : List ℕ) → x ∷ l ≡ y ∷ m → x ≡ y
first_differs x y l m is = cc

pub other_tag : (bytes : List ℕ) (tag : ℕ) (behind : List ℕ) → bytes ≡ tag ∷ behind → tag ≢ 254 → (rest : List ℕ) → bytes ≡ 254 ∷ rest → ⊥
other_tag bytes tag behind first other rest is = other (first_differs tag 254 behind rest (sym first ∙ is))

-- ---- a seal by its numbers

-- bytes are put in their place after others
put_next : (old front rest new all : List ℕ) (at : ℕ) → old ≡ front ++ rest → length front ≡ at → all ≡ take at old ++ new ++ drop (at + length new) old → all ≡ (front ++ new) ++ drop (length new) rest
put_next old front rest new all at parts size put =
    put
    ∙ ap (λ (l : List ℕ). l ++ new ++ drop (at + length new) old) (ap (λ (l : List ℕ). take at l) parts ∙ take_at front rest at size)
    ∙ ap (λ (l : List ℕ). (front ++ new) ++ l)
    (sym (drop_drop old at (length new)) ∙ ap (λ (l : List ℕ). drop (length new) l) (ap (λ (l : List ℕ). drop at l) parts ∙ drop_at front rest at size))
  where
    drop_drop : (l : List ℕ) (m n : ℕ) → drop n (drop m l) ≡ drop (m + n) l
    drop_drop l m n = drop-drop n m l

pub sealed_as : (at n : ℕ) (told first number size sum a b c : List ℕ) (s t : ℕ) → n ≡ length told → number ≡ to_le_bytes w64 at → size ≡ to_le_bytes w64 n → s ≡ sum_of (number ++ size) → t ≡ sum_of ((number ++ size) ++ told)
    → sum ≡ to_le_bytes w32 t → first ≡ 254 ∷ drop 1 first → length first ≡ 21
    → a ≡ take 1 first ++ number ++ drop (1 + length number) first → b ≡ take 9 a ++ size ++ drop (9 + length size) a → c ≡ take 17 b ++ sum ++ drop (17 + length sum) b → c ≡ seal_of at told
unfolding seal_of
sealed_as at n told first number size sum a b c s t counted is_number is_size is_s is_t is_sum tag long put_number put_size put_sum =
    let rest = drop 1 first in
    let numbers : number ≡ number_bytes at = are_number_bytes at number is_number in
    let sizes : size ≡ number_bytes (length told) = are_number_bytes (length told) size (is_size ∙ ap (to_le_bytes w64) counted) in
    let eight : length number ≡ 8 = ap length numbers ∙ length-number_bytes at in
    let eight_more : length size ≡ 8 = ap length sizes ∙ length-number_bytes (length told) in
    let four : length sum ≡ 4 = ap length is_sum in
    let a_is : a ≡ ((254 ∷ []) ++ number) ++ drop (length number) rest = put_next first (254 ∷ []) rest number a 1 tag refl put_number in
    let b_is : b ≡ (((254 ∷ []) ++ number) ++ size) ++ drop (length size) (drop (length number) rest) =
    put_next a ((254 ∷ []) ++ number) (drop (length number) rest) size b 9 a_is (omega (arith, eight)) put_size in
    let c_is : c ≡ ((((254 ∷ []) ++ number) ++ size) ++ sum) ++ drop (length sum) (drop (length size) (drop (length number) rest)) =
    put_next b (((254 ∷ []) ++ number) ++ size) (drop (length size) (drop (length number) rest)) sum c 17 b_is (omega (arith, eight, eight_more, length-append number size)) put_sum in
    let none : drop (length sum) (drop (length size) (drop (length number) rest)) ≡ [] =
    drop_all (length sum) (drop (length size) (drop (length number) rest))
    (omega (arith, length-drop (length size) (drop (length number) rest), length-drop (length number) rest, length-drop 1 first, long, eight, eight_more, four)) in
    c_is
    ∙ ap (λ (l : List ℕ). ((((254 ∷ []) ++ number) ++ size) ++ sum) ++ l) none
    ∙ append-nil ((((254 ∷ []) ++ number) ++ size) ++ sum)
    ∙ ap (λ (l : List ℕ). 254 ∷ number ++ size ++ l) is_sum
    ∙ ap (λ (k : ℕ). 254 ∷ number ++ size ++ to_le_bytes w32 k) is_t
    ∙ ap (λ (l : List ℕ). 254 ∷ l ++ size ++ to_le_bytes w32 (sum_of (l ++ size ++ told))) numbers
    ∙ ap (λ (l : List ℕ). 254 ∷ number_bytes at ++ l ++ to_le_bytes w32 (sum_of (number_bytes at ++ l ++ told))) sizes
