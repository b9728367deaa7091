-- What eight digits and a length say of what stands at the front of bytes.
use Rattle.std.proofs.Common.{◌≡◌, ◌<◌, ◌≤◌, ◌^◌, ◌+◌, ℕ, List, [], ◌∷◌, ◌++◌, length, take, drop, get_or, sym, ◌∙◌, ap, arith, append_assoc, length-append, take-append-drop}
use Rattle.std.specs.Int.{from_le_bytes, w64}
use Rattle.std.proofs.lemmas.Nat.{le_bytes_8}
use Rattle.std.proofs.lemmas.List.{take_at, drop_at}
use Rattle.std.proofs.Common.{inl, inr, subst, add-one, length-take}
use Rattle.std.proofs.lemmas.Bool.{cases_lt}
use Rattle.std.proofs.lemmas.List.{get_or-take, get_or_past}
use Rattle.durable_machine.proofs.Spelling.{sized-append, begins_spelled, spelled-append}
use Rattle.durable_machine.specs.Events.{number_bytes, spelled, AreSized, BeginsEvent, BeginsNoEvent, AreEvents}
use Rattle.durable_machine.proofs.Numbers.{length-number_bytes, number_bytes_injective}

pub digits_are : (digits : List ℕ) (n : ℕ) → length digits ≡ 8 → ((k : ℕ) → get_or digits k 0 < 256) → n ≡ from_le_bytes w64 digits → number_bytes n ≡ digits
unfolding number_bytes
digits_are digits n eight bytes is = le_bytes_8 digits n eight bytes is

module _ (bytes digits behind : List ℕ) (n : ℕ) (are : number_bytes n ≡ digits) (parts : bytes ≡ 1 ∷ digits ++ behind) (fits : n < 2 ^ 64) where
  -- there are as many bytes as are told
  pub begins : n ≤ length behind → (event rest : List ℕ) → event ≡ take n behind → rest ≡ drop n behind → length event ≡ n → BeginsEvent event rest bytes
  begins enough event rest is_front is_rest long = record {
    sized = omega (arith, long, fits);
    parts =
        parts ∙ ap (λ (l : List ℕ). 1 ∷ l ++ behind) (sym are) ∙ ap (λ (l : List ℕ). 1 ∷ number_bytes n ++ l) (sym (take-append-drop n behind) ∙ ap (λ (l : List ℕ). l ++ drop n behind) (sym is_front) ∙ ap (λ (l : List ℕ). event ++ l) (sym is_rest))
        ∙ ap (λ (l : List ℕ). 1 ∷ l) (sym (append_assoc (number_bytes n) event rest)) ∙ ap (λ (k : ℕ). 1 ∷ number_bytes k ++ event ++ rest) (sym long);
  }

  -- there are fewer
  pub cut_short : length behind < n → BeginsNoEvent bytes
  cut_short short event rest begins =
      let split : digits ++ behind ≡ number_bytes (length event) ++ (event ++ rest) =
      ap (λ (l : List ℕ). drop 1 l) (sym parts ∙ begins.parts) ∙ append_assoc (number_bytes (length event)) event rest in
      let eight : length digits ≡ 8 = ap length (sym are) ∙ length-number_bytes n in
      let numbers : number_bytes n ≡ number_bytes (length event) =
      are ∙ sym (take_at digits behind 8 eight) ∙ ap (λ (l : List ℕ). take 8 l) split ∙ take_at (number_bytes (length event)) (event ++ rest) 8 (length-number_bytes (length event)) in
      let same : n ≡ length event = number_bytes_injective n (length event) fits begins.sized numbers in
      let tail : behind ≡ event ++ rest =
      sym (drop_at digits behind 8 eight) ∙ ap (λ (l : List ℕ). drop 8 l) split ∙ drop_at (number_bytes (length event)) (event ++ rest) 8 (length-number_bytes (length event)) in
      absurd (omega (arith, ap length tail, length-append event rest, same))

pub digits_fit : (bytes behind digits : List ℕ) (gate : ℕ) → bytes ≡ gate ∷ behind → digits ≡ take 8 behind → ((k : ℕ) → get_or bytes k 0 < 256) → (k : ℕ) → get_or digits k 0 < 256
digits_fit bytes behind digits gate first number fit k = elim (cases_lt k 8) [
  | inl early ↦ subst (λ (n : ℕ). n < 256) (sym (ap (λ (l : List ℕ). get_or l k 0) number ∙ get_or-take 8 behind k 0 early)) (later (fit (k + 1)))
  | inr late ↦ subst (λ (n : ℕ). n < 256) (sym (get_or_past digits k 0 (omega (arith, ap length number, length-take 8 behind)))) (omega arith)
]
  where
    later : get_or bytes (k + 1) 0 < 256 → get_or behind k 0 < 256
    later fits = subst (λ (n : ℕ). n < 256) (ap (λ (l : List ℕ). get_or l (k + 1) 0) first ∙ next) fits
      where
        next : get_or (gate ∷ behind) (k + 1) 0 ≡ get_or behind k 0
        next = rw add-one

-- what is read so far, and what is left
pub record AreFirst (events : List (List ℕ)) (rest bytes : List ℕ) : Type 0 where
  pub sized : AreSized events
  pub parts : bytes ≡ spelled events ++ rest

-- one event more is read
pub one_more_read : (events : List (List ℕ)) (event behind rest bytes : List ℕ) → AreFirst events rest bytes → BeginsEvent event behind rest → AreFirst (events ++ event ∷ []) behind bytes
one_more_read events event behind rest bytes so_far begins = record {
  sized = sized-append events (event ∷ []) so_far.sized (begins.sized, tt);
  parts =
      so_far.parts ∙ ap (λ (l : List ℕ). spelled events ++ l) (begins.parts ∙ sym (begins_spelled event [] behind))
      ∙ sym (append_assoc (spelled events) (spelled (event ∷ [])) behind)
      ∙ ap (λ (l : List ℕ). l ++ behind) (sym (spelled-append events (event ∷ [])));
}

-- what is read to the end
pub all_read : (events : List (List ℕ)) (rest bytes : List ℕ) (taken : ℕ) → AreFirst events rest bytes → BeginsNoEvent rest → taken + length rest ≡ length bytes → (es : List (List ℕ)) × AreEvents es taken bytes
all_read events rest bytes taken first nothing size = (
  events,
  record {
    sized = first.sized;
    rest = rest;
    parts = first.parts;
    nothing = nothing;
    counted = omega (arith, size, ap length first.parts, length-append (spelled events) rest);
  },
)
