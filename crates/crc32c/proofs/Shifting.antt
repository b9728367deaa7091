-- Eight bits at once.
use Rattle.std.proofs.Common.{zero, suc, ◌≡◌, ◌<◌, ◌≤◌, ◌+◌, ◌*◌, ◌^◌, ◌-◌, ◌/◌, ◌%◌, ◌==◌, ℕ, Bool, true, false, if◌then◌else◌, List, [], ◌∷◌, ◌++◌, length, take, drop, take-append-drop, refl, sym, ◌∙◌, ap, arith, map, get_or}
use Rattle.std.specs.List.{fold, range_with_len}
use Rattle.std.proofs.lemmas.List.FromFn.{fill_by_all, get_or-map-range_with_len}
use Rattle.std.specs.Int.Bits.{bit_xor, xor_self, xor_zero_l, xor_zero_r, xor_assoc}
use Rattle.std.proofs.lemmas.Nat.{xor_comm, xor_shr, xor_mod, xor_block, xor_of_8}
use Rattle.std.proofs.lemmas.Grind.{fold-append}
use Rattle.crc32c.specs.Crc.{divisor, ones, next_bit, lowest_bits, after_zeros, next_byte, row_at, sum_of}

-- ---- one bit

half : (a b : ℕ) → bit_xor a b / 2 ≡ bit_xor (a / 2) (b / 2)
half a b = xor_shr a b 1

odd : (a b : ℕ) → bit_xor a b % 2 ≡ bit_xor (a % 2) (b % 2)
odd a b = xor_mod a b 1

-- a step, by whether the divisor stays
abbrev step : Bool → ℕ → ℕ
step same h = if same then h else bit_xor h divisor

step_xor : (same : Bool) (h k : ℕ) → step same (bit_xor h k) ≡ bit_xor (step same h) k
step_xor true h k = refl
step_xor false h k = xor_assoc h k divisor ∙ ap (λ (x : ℕ). bit_xor h x) (xor_comm k divisor) ∙ sym (xor_assoc h divisor k)

same_bit : (x y : ℕ) → x < 2 → y < 2 → (bit_xor x y == 0) ≡ (x == y)
same_bit zero zero p q = refl
same_bit zero (suc zero) p q = refl
same_bit (suc zero) zero p q = refl
same_bit (suc zero) (suc zero) p q = refl
same_bit zero (suc (suc y)) p q = absurd (omega (arith, q))
same_bit (suc zero) (suc (suc y)) p q = absurd (omega (arith, q))
same_bit (suc (suc x)) y p q = absurd (omega (arith, p))

-- what is added to a remainder goes through a step as a bit, and the rest of it as half
bit_step : (r b : ℕ) → next_bit (bit_xor r b) 0 ≡ bit_xor (next_bit r (b % 2)) (b / 2)
bit_step r b =
    ap (λ (x : Bool). step x (bit_xor r b / 2)) (ap (λ (x : ℕ). x == 0) (odd r b) ∙ same_bit (r % 2) (b % 2) (omega arith) (omega arith))
    ∙ ap (λ (x : ℕ). step (r % 2 == b % 2) x) (half r b)
    ∙ step_xor (r % 2 == b % 2) (r / 2) (b / 2)

-- ---- several

abbrev doubled : ℕ → ℕ → ℕ
doubled zero k = k
doubled (suc n) k = 2 * doubled n k

abbrev halved : ℕ → ℕ → ℕ
halved zero k = k
halved (suc n) k = halved n (k / 2)

-- what stands above n bits only moves down
zeros_xor : (n a k : ℕ) → after_zeros n (bit_xor a (doubled n k)) ≡ bit_xor (after_zeros n a) k
unfolding after_zeros
zeros_xor zero a k = refl
zeros_xor (suc n) a k =
    let even : 2 * doubled n k % 2 ≡ 0 = omega arith in
    let back : 2 * doubled n k / 2 ≡ doubled n k = omega arith in
    ap (λ (x : ℕ). after_zeros n x) (bit_step a (2 * doubled n k) ∙ ap (λ (x : ℕ). bit_xor (next_bit a x) (2 * doubled n k / 2)) even ∙ ap (λ (x : ℕ). bit_xor (next_bit a 0) x) back)
    ∙ zeros_xor n (next_bit a 0) k

-- bits that are added to a remainder go through the steps one after another
bits_in : (n r b : ℕ) → after_zeros n (bit_xor r b) ≡ bit_xor (fold next_bit r (lowest_bits n b)) (halved n b)
unfolding after_zeros
bits_in zero r b = refl
bits_in (suc n) r b = ap (λ (x : ℕ). after_zeros n x) (bit_step r b) ∙ bits_in n (next_bit r (b % 2)) (b / 2)

-- ---- a byte

split : (r : ℕ) → bit_xor (r % 256) (256 * (r / 256)) ≡ r
split r =
    let low : r % 256 ≡ 0 * 2 ^ 8 + r % 256 = omega arith in
    let high : 256 * (r / 256) ≡ (r / 256) * 2 ^ 8 + 0 = omega arith in
    let all : (r / 256) * 2 ^ 8 + r % 256 ≡ r = omega arith in
    ap (λ (x : ℕ). bit_xor x (256 * (r / 256))) low
    ∙ ap (λ (x : ℕ). bit_xor (0 * 2 ^ 8 + r % 256) x) high
    ∙ xor_block 8 0 (r / 256) (r % 256) 0 (omega arith) (omega arith)
    ∙ ap (λ (x : ℕ). x * 2 ^ 8 + bit_xor (r % 256) 0) (xor_zero_l (r / 256))
    ∙ ap (λ (x : ℕ). (r / 256) * 2 ^ 8 + x) (xor_zero_r (r % 256))
    ∙ all

moved : (m b q : ℕ) → bit_xor (bit_xor m b) q ≡ bit_xor (bit_xor m q) b
moved m b q = xor_assoc m b q ∙ ap (λ (x : ℕ). bit_xor m x) (xor_comm b q) ∙ sym (xor_assoc m q b)

times : (q : ℕ) → 2 * (2 * (2 * (2 * (2 * (2 * (2 * (2 * q))))))) ≡ 256 * q
times q = omega arith

gone : (b : ℕ) → b < 256 → b / 2 / 2 / 2 / 2 / 2 / 2 / 2 / 2 ≡ 0
gone b small = omega (arith, small)

-- the step of the code
pub by_row : (r b : ℕ) → b < 256 → bit_xor (after_zeros 8 (bit_xor (r % 256) b)) (r / 256) ≡ next_byte r b
by_row r b small =
    let eight : doubled 8 (r / 256) ≡ 256 * (r / 256) = times (r / 256) in
    let none : halved 8 b ≡ 0 = gone b small in
    sym (zeros_xor 8 (bit_xor (r % 256) b) (r / 256))
    ∙ ap (λ (x : ℕ). after_zeros 8 (bit_xor (bit_xor (r % 256) b) x)) eight
    ∙ ap (λ (x : ℕ). after_zeros 8 x) (moved (r % 256) b (256 * (r / 256)) ∙ ap (λ (x : ℕ). bit_xor x b) (split r))
    ∙ bits_in 8 r b
    ∙ ap (λ (x : ℕ). bit_xor (next_byte r b) x) none
    ∙ xor_zero_r (next_byte r b)

-- ---- bytes

pub goes_on : (before bytes : List ℕ) (sum : ℕ) → sum ≡ sum_of before → bit_xor (fold next_byte (bit_xor sum ones) bytes) ones ≡ sum_of (before ++ bytes)
goes_on before bytes sum is =
    let first = fold next_byte ones before in
    let back : bit_xor sum ones ≡ first = ap (λ (x : ℕ). bit_xor x ones) is ∙ xor_assoc first ones ones ∙ ap (λ (x : ℕ). bit_xor first x) (xor_self ones) ∙ xor_zero_r first in
    ap (λ (x : ℕ). bit_xor (fold next_byte x bytes) ones) back
    ∙ ap (λ (x : ℕ). bit_xor x ones) (sym (fold-append next_byte ones before bytes))

-- ---- several bytes

-- a byte of a remainder, all of whose bits are taken in
as_zeros : (r b : ℕ) → b < 256 → next_byte r b ≡ after_zeros 8 (bit_xor r b)
as_zeros r b small = sym (bits_in 8 r b ∙ ap (λ (x : ℕ). bit_xor (next_byte r b) x) (gone b small) ∙ xor_zero_r (next_byte r b))

-- the divisor is taken away of each part of a sum by itself
steps_xor : (x y : ℕ) → x < 2 → y < 2 → (h k : ℕ) → step (x == y) (bit_xor h k) ≡ bit_xor (step (x == 0) h) (step (y == 0) k)
steps_xor zero zero p q h k = refl
steps_xor zero (suc zero) p q h k = xor_assoc h k divisor
steps_xor (suc zero) zero p q h k = moved h k divisor
steps_xor (suc zero) (suc zero) p q h k =
    sym
    (xor_assoc h divisor (bit_xor k divisor)
    ∙ ap (λ (x : ℕ). bit_xor h x)
    (ap (λ (x : ℕ). bit_xor divisor x) (xor_comm k divisor) ∙ sym (xor_assoc divisor divisor k) ∙ ap (λ (x : ℕ). bit_xor x k) (xor_self divisor) ∙ xor_zero_l k))
steps_xor zero (suc (suc y)) p q h k = absurd (omega (arith, q))
steps_xor (suc zero) (suc (suc y)) p q h k = absurd (omega (arith, q))
steps_xor (suc (suc x)) y p q h k = absurd (omega (arith, p))

bit_sum : (a b : ℕ) → next_bit (bit_xor a b) 0 ≡ bit_xor (next_bit a 0) (next_bit b 0)
bit_sum a b =
    ap (λ (x : Bool). step x (bit_xor a b / 2)) (ap (λ (x : ℕ). x == 0) (odd a b) ∙ same_bit (a % 2) (b % 2) (omega arith) (omega arith))
    ∙ ap (λ (x : ℕ). step (a % 2 == b % 2) x) (half a b)
    ∙ steps_xor (a % 2) (b % 2) (omega arith) (omega arith) (a / 2) (b / 2)

zeros_sum : (n a b : ℕ) → after_zeros n (bit_xor a b) ≡ bit_xor (after_zeros n a) (after_zeros n b)
unfolding after_zeros
zeros_sum zero a b = refl
zeros_sum (suc n) a b = ap (λ (x : ℕ). after_zeros n x) (bit_sum a b) ∙ zeros_sum n (next_bit a 0) (next_bit b 0)

more_zeros : (m n x : ℕ) → after_zeros n (after_zeros m x) ≡ after_zeros (m + n) x
unfolding after_zeros
more_zeros zero n x =
    let same : n ≡ 0 + n = omega arith in
    ap (λ (k : ℕ). after_zeros k x) same
more_zeros (suc m) n x = more_zeros m n (next_bit x 0) ∙ ap (λ (k : ℕ). after_zeros k x) more
  where
    more : suc (m + n) ≡ suc m + n
    more = omega arith

-- what remainders come to behind which ever more bits of 0 stand, the last first
sums : ℕ → ℕ → List ℕ → ℕ
sums n x [] = after_zeros n x
sums n x (y ∷ ys) = bit_xor (sums (n + 8) y ys) (after_zeros n x)

grown : (n x : ℕ) (xs : List ℕ) → after_zeros 8 (sums n x xs) ≡ sums (n + 8) x xs
unfolding sums
grown n x [] = more_zeros n 8 x
grown n x (y ∷ ys) =
    zeros_sum 8 (sums (n + 8) y ys) (after_zeros n x)
    ∙ ap (λ (s : ℕ). bit_xor s (after_zeros 8 (after_zeros n x))) (grown (n + 8) y ys)
    ∙ ap (λ (s : ℕ). bit_xor (sums (n + 8 + 8) y ys) s) (more_zeros n 8 x)

-- one byte more, where what is left of the first remainder is added to such a sum
one_more : (q b y : ℕ) (ys : List ℕ) → b < 256 → next_byte (bit_xor (sums 8 y ys) q) b ≡ bit_xor (sums 8 (bit_xor (q % 256) b) (y ∷ ys)) (q / 256)
unfolding sums
one_more q b y ys small =
    as_zeros (bit_xor (sums 8 y ys) q) b small
    ∙ ap (λ (x : ℕ). after_zeros 8 x) (xor_assoc (sums 8 y ys) q b)
    ∙ zeros_sum 8 (sums 8 y ys) (bit_xor q b)
    ∙ ap (λ (x : ℕ). bit_xor (after_zeros 8 (sums 8 y ys)) x) (sym (as_zeros q b small) ∙ sym (by_row q b small))
    ∙ ap (λ (x : ℕ). bit_xor x (bit_xor (after_zeros 8 (bit_xor (q % 256) b)) (q / 256))) (grown 8 y ys)
    ∙ sym (xor_assoc (sums (8 + 8) y ys) (after_zeros 8 (bit_xor (q % 256) b)) (q / 256))

both : (a b c d : ℕ) → a ≡ c → b ≡ d → bit_xor a b ≡ bit_xor c d
both a b c d first second = ap (λ (x : ℕ). bit_xor x b) first ∙ ap (λ (x : ℕ). bit_xor c x) second

-- ---- four bytes

apart : (s b : ℕ) → b < 256 → next_byte s b ≡ bit_xor (after_zeros 8 s) (after_zeros 8 b)
apart s b small = as_zeros s b small ∙ zeros_sum 8 s b

-- a byte that n bits of 0 follow
later : (n more s b : ℕ) → more ≡ 8 + n → b < 256 → after_zeros n (next_byte s b) ≡ bit_xor (after_zeros more s) (after_zeros more b)
later n more s b is small =
    ap (λ (x : ℕ). after_zeros n x) (apart s b small)
    ∙ zeros_sum n (after_zeros 8 s) (after_zeros 8 b)
    ∙ both _ _ _ _ (more_zeros 8 n s) (more_zeros 8 n b)
    ∙ sym (ap (λ (m : ℕ). bit_xor (after_zeros m s) (after_zeros m b)) is)

none : (n : ℕ) → after_zeros n 0 ≡ 0
unfolding after_zeros
none zero = refl
none (suc n) = none n

-- four bytes that n bits of 0 follow, by rows of the table
abbrev in_rows : ℕ → ℕ → ℕ → ℕ → ℕ → ℕ
in_rows n a b c d = bit_xor (bit_xor (after_zeros (32 + n) a) (after_zeros (24 + n) b)) (bit_xor (after_zeros (16 + n) c) (after_zeros (8 + n) d))

paired : (s a b c d : ℕ) → bit_xor (bit_xor (bit_xor (bit_xor s a) b) c) d ≡ bit_xor s (bit_xor (bit_xor a b) (bit_xor c d))
paired s a b c d =
    xor_assoc (bit_xor (bit_xor s a) b) c d
    ∙ ap (λ (x : ℕ). bit_xor x (bit_xor c d)) (xor_assoc s a b)
    ∙ xor_assoc s (bit_xor a b) (bit_xor c d)

module _ (a b c d : ℕ) (in_a : a < 256) (in_b : b < 256) (in_c : c < 256) (in_d : d < 256) where
  four_after : (n s : ℕ) → after_zeros n (fold next_byte s (a ∷ b ∷ c ∷ d ∷ [])) ≡ bit_xor (after_zeros (32 + n) s) (in_rows n a b c d)
  four_after n s =
      let first = next_byte s a in
      let second = next_byte first b in
      let third = next_byte second c in
      let sums = λ (x : ℕ). bit_xor (bit_xor (bit_xor x (after_zeros (24 + n) b)) (after_zeros (16 + n) c)) (after_zeros (8 + n) d) in
      later n (8 + n) third d refl in_d
      ∙ ap (λ (x : ℕ). bit_xor x (after_zeros (8 + n) d)) (later (8 + n) (16 + n) second c (omega arith) in_c)
      ∙ ap (λ (x : ℕ). bit_xor (bit_xor x (after_zeros (16 + n) c)) (after_zeros (8 + n) d)) (later (16 + n) (24 + n) first b (omega arith) in_b)
      ∙ ap sums (later (24 + n) (32 + n) s a (omega arith) in_a)
      ∙ paired (after_zeros (32 + n) s) (after_zeros (32 + n) a) (after_zeros (24 + n) b) (after_zeros (16 + n) c) (after_zeros (8 + n) d)

  four_alone : (n : ℕ) → in_rows n a b c d ≡ after_zeros n (fold next_byte 0 (a ∷ b ∷ c ∷ d ∷ []))
  four_alone n =
      sym (four_after n 0 ∙ ap (λ (x : ℕ). bit_xor x (in_rows n a b c d)) (none (32 + n)) ∙ xor_zero_l (in_rows n a b c d))

  -- what stood before them is added
  four_more : (s : ℕ) → fold next_byte s (a ∷ b ∷ c ∷ d ∷ []) ≡ bit_xor (after_zeros 32 s) (fold next_byte 0 (a ∷ b ∷ c ∷ d ∷ []))
  unfolding after_zeros
  four_more s = four_after 0 s ∙ ap (λ (x : ℕ). bit_xor (after_zeros 32 s) x) (four_alone 0)

-- by rows of the table
pub by_rows : (zeros a b c d : ℕ) → a < 256 → b < 256 → c < 256 → d < 256 → (third second first last : ℕ)
    → third ≡ after_zeros (8 * (zeros + 3) + 8) a → second ≡ after_zeros (8 * (zeros + 2) + 8) b → first ≡ after_zeros (8 * (zeros + 1) + 8) c → last ≡ after_zeros (8 * zeros + 8) d
    → bit_xor (bit_xor third second) (bit_xor first last) ≡ after_zeros (8 * zeros) (fold next_byte 0 (a ∷ b ∷ c ∷ d ∷ []))
by_rows zeros a b c d in_a in_b in_c in_d third second first last is_third is_second is_first is_last =
    let e32 : 8 * (zeros + 3) + 8 ≡ 32 + 8 * zeros = omega arith in
    let e24 : 8 * (zeros + 2) + 8 ≡ 24 + 8 * zeros = omega arith in
    let e16 : 8 * (zeros + 1) + 8 ≡ 16 + 8 * zeros = omega arith in
    let e8 : 8 * zeros + 8 ≡ 8 + 8 * zeros = omega arith in
    both _ _ _ _
    (both _ _ _ _ (is_third ∙ ap (λ (n : ℕ). after_zeros n a) e32) (is_second ∙ ap (λ (n : ℕ). after_zeros n b) e24))
    (both _ _ _ _ (is_first ∙ ap (λ (n : ℕ). after_zeros n c) e16) (is_last ∙ ap (λ (n : ℕ). after_zeros n d) e8))
    ∙ four_alone a b c d in_a in_b in_c in_d (8 * zeros)

-- ---- sixteen

-- a remainder is added to the first four
abbrev added : ℕ → ℕ → ℕ → ℕ → ℕ → List ℕ
added r a b c d = bit_xor (r % 256) a ∷ bit_xor (r / 256 % 256) b ∷ bit_xor (r / 256 / 256 % 256) c ∷ bit_xor (r / 256 / 256 / 256 % 256) d ∷ []

module _ (r a b c d : ℕ) (range : r < 4294967296) (in_a : a < 256) (in_b : b < 256) (in_c : c < 256) (in_d : d < 256) where
  first : ℕ
  first = bit_xor (r % 256) a

  second : ℕ
  second = bit_xor (r / 256 % 256) b

  third : ℕ
  third = bit_xor (r / 256 / 256 % 256) c

  fourth : ℕ
  fourth = bit_xor (r / 256 / 256 / 256 % 256) d

  in_first : fold next_byte r (a ∷ b ∷ c ∷ d ∷ []) ≡ bit_xor (sums 8 fourth (third ∷ second ∷ first ∷ [])) 0
  unfolding first second third fourth sums
  in_first =
      let left : r / 256 / 256 / 256 / 256 ≡ 0 = omega (arith, range) in
      ap (λ (x : ℕ). next_byte (next_byte (next_byte x b) c) d) (sym (by_row r a in_a))
      ∙ ap (λ (x : ℕ). next_byte (next_byte x c) d) (one_more (r / 256) b first [] in_b)
      ∙ ap (λ (x : ℕ). next_byte x d) (one_more (r / 256 / 256) c second (first ∷ []) in_c)
      ∙ one_more (r / 256 / 256 / 256) d third (second ∷ first ∷ []) in_d
      ∙ ap (λ (x : ℕ). bit_xor (sums 8 fourth (third ∷ second ∷ first ∷ [])) x) left

  pub first_four : fold next_byte r (a ∷ b ∷ c ∷ d ∷ []) ≡ fold next_byte 0 (added r a b c d)
  unfolding first second third fourth sums after_zeros
  first_four =
      let byte_1 : r % 256 < 256 = omega arith in
      let byte_2 : r / 256 % 256 < 256 = omega arith in
      let byte_3 : r / 256 / 256 % 256 < 256 = omega arith in
      let byte_4 : r / 256 / 256 / 256 % 256 < 256 = omega arith in
      in_first
      ∙ xor_zero_r (sums 8 fourth (third ∷ second ∷ first ∷ []))
      ∙ xor_assoc (bit_xor (after_zeros 32 first) (after_zeros 24 second)) (after_zeros 16 third) (after_zeros 8 fourth)
      ∙ four_alone first second third fourth (xor_of_8 (r % 256) a byte_1 in_a) (xor_of_8 (r / 256 % 256) b byte_2 in_b)
      (xor_of_8 (r / 256 / 256 % 256) c byte_3 in_c) (xor_of_8 (r / 256 / 256 / 256 % 256) d byte_4 in_d) 0

-- four fours, each with as many bits of 0 as follow it
four_fours : (a b c d : ℕ)
    → bit_xor (after_zeros 32 (bit_xor (after_zeros 32 (bit_xor (after_zeros 32 a) b)) c)) d ≡ bit_xor (after_zeros 96 a) (bit_xor (after_zeros 64 b) (bit_xor (after_zeros 32 c) d))
four_fours a b c d =
    ap (λ (x : ℕ). bit_xor x d) (zeros_sum 32 (after_zeros 32 (bit_xor (after_zeros 32 a) b)) c)
    ∙ ap (λ (x : ℕ). bit_xor (bit_xor x (after_zeros 32 c)) d) (more_zeros 32 32 (bit_xor (after_zeros 32 a) b) ∙ zeros_sum 64 (after_zeros 32 a) b)
    ∙ ap (λ (x : ℕ). bit_xor (bit_xor (bit_xor x (after_zeros 64 b)) (after_zeros 32 c)) d) (more_zeros 32 64 a)
    ∙ xor_assoc (bit_xor (after_zeros 96 a) (after_zeros 64 b)) (after_zeros 32 c) d
    ∙ xor_assoc (after_zeros 96 a) (after_zeros 64 b) (bit_xor (after_zeros 32 c) d)

-- sixteen bytes by their places
sixteen_are : (xs : List ℕ) → length xs ≡ 16 → xs ≡ map (λ (i : ℕ). get_or xs i 0) (range_with_len 0 16)
sixteen_are xs size = fill_by_all (λ (i : ℕ). get_or xs i 0) xs 16 0 size (λ k within. refl)

pub by_fours : (r : ℕ) (xs : List ℕ) → r < 4294967296 → length xs ≡ 16 → ((i : ℕ) → get_or xs i 0 < 256)
    → (t12 t8 t4 t0 : ℕ)
    → t12 ≡ after_zeros 96 (fold next_byte 0 (added r (get_or xs 0 0) (get_or xs 1 0) (get_or xs 2 0) (get_or xs 3 0)))
    → t8 ≡ after_zeros 64 (fold next_byte 0 (get_or xs 4 0 ∷ get_or xs 5 0 ∷ get_or xs 6 0 ∷ get_or xs 7 0 ∷ []))
    → t4 ≡ after_zeros 32 (fold next_byte 0 (get_or xs 8 0 ∷ get_or xs 9 0 ∷ get_or xs 10 0 ∷ get_or xs 11 0 ∷ []))
    → t0 ≡ after_zeros 0 (fold next_byte 0 (get_or xs 12 0 ∷ get_or xs 13 0 ∷ get_or xs 14 0 ∷ get_or xs 15 0 ∷ []))
    → bit_xor t12 (bit_xor t8 (bit_xor t4 t0)) ≡ fold next_byte r xs
unfolding after_zeros
by_fours r xs range size bytes t12 t8 t4 t0 e12 e8 e4 e0 =
    let x = λ (i : ℕ). get_or xs i 0 in
    let a = x 0 ∷ x 1 ∷ x 2 ∷ x 3 ∷ [] in
    let b = x 4 ∷ x 5 ∷ x 6 ∷ x 7 ∷ [] in
    let c = x 8 ∷ x 9 ∷ x 10 ∷ x 11 ∷ [] in
    let d = x 12 ∷ x 13 ∷ x 14 ∷ x 15 ∷ [] in
    let in_a : fold next_byte r a ≡ fold next_byte 0 (added r (x 0) (x 1) (x 2) (x 3)) = first_four r (x 0) (x 1) (x 2) (x 3) range (bytes 0) (bytes 1) (bytes 2) (bytes 3) in
    let more_b : (s : ℕ) → fold next_byte s b ≡ bit_xor (after_zeros 32 s) (fold next_byte 0 b) = four_more (x 4) (x 5) (x 6) (x 7) (bytes 4) (bytes 5) (bytes 6) (bytes 7) in
    let more_c : (s : ℕ) → fold next_byte s c ≡ bit_xor (after_zeros 32 s) (fold next_byte 0 c) = four_more (x 8) (x 9) (x 10) (x 11) (bytes 8) (bytes 9) (bytes 10) (bytes 11) in
    let more_d : (s : ℕ) → fold next_byte s d ≡ bit_xor (after_zeros 32 s) (fold next_byte 0 d) = four_more (x 12) (x 13) (x 14) (x 15) (bytes 12) (bytes 13) (bytes 14) (bytes 15) in
    let begun = fold next_byte 0 (added r (x 0) (x 1) (x 2) (x 3)) in
    both _ _ _ _ e12 (both _ _ _ _ e8 (both _ _ _ _ e4 e0))
    ∙ sym
    (ap (λ (l : List ℕ). fold next_byte r l) (sixteen_are xs size)
    ∙ ap (λ (s : ℕ). fold next_byte (fold next_byte (fold next_byte s b) c) d) in_a
    ∙ ap (λ (s : ℕ). fold next_byte (fold next_byte s c) d) (more_b begun)
    ∙ ap (λ (s : ℕ). fold next_byte s d) (more_c (bit_xor (after_zeros 32 begun) (fold next_byte 0 b)))
    ∙ more_d (bit_xor (after_zeros 32 (bit_xor (after_zeros 32 begun) (fold next_byte 0 b))) (fold next_byte 0 c))
    ∙ four_fours begun (fold next_byte 0 b) (fold next_byte 0 c) (fold next_byte 0 d))

-- the rest goes on
pub on : (r n : ℕ) (front behind rest : List ℕ) → front ≡ take 16 rest → behind ≡ drop 16 rest → n ≡ fold next_byte r front → fold next_byte n behind ≡ fold next_byte r rest
on r n front behind rest first last made =
    ap (λ (x : ℕ). fold next_byte x behind) (made ∙ ap (λ (l : List ℕ). fold next_byte r l) first)
    ∙ ap (λ (l : List ℕ). fold next_byte (fold next_byte r (take 16 rest)) l) last
    ∙ sym (fold-append next_byte r (take 16 rest) (drop 16 rest))
    ∙ ap (λ (l : List ℕ). fold next_byte r l) (take-append-drop 16 rest)

-- ---- the table

-- one bit of some is done
pub one_less : (n k r : ℕ) → k < n → after_zeros (n - (k + 1)) (next_bit r 0) ≡ after_zeros (n - k) r
unfolding after_zeros
one_less n k r small =
    let more : n - k ≡ suc (n - (k + 1)) = omega (arith, small) in
    sym (ap (λ (m : ℕ). after_zeros m r) more)

-- and all are
pub none_more : (n k r : ℕ) → k ≡ n → r ≡ after_zeros (n - k) r
unfolding after_zeros
none_more n k r same =
    let done : n - k ≡ 0 = omega (arith, same) in
    sym (ap (λ (m : ℕ). after_zeros m r) done)

-- the first of them
pub first_rows : (i : ℕ) → i < 256 → after_zeros 8 i ≡ row_at i
first_rows i small =
    let row : 8 ≡ 8 * (i / 256) + 8 = omega (arith, small) in
    let column : i ≡ i % 256 = omega (arith, small) in
    ap (λ (n : ℕ). after_zeros n i) row ∙ ap (λ (x : ℕ). after_zeros (8 * (i / 256) + 8) x) column

-- the others, each by that of eight bits of 0 less
pub next_rows : (i before entry : ℕ) → 256 ≤ i → before ≡ row_at (i - 256) → entry ≡ row_at (before % 256) → bit_xor entry (before / 256) ≡ row_at i
next_rows i before entry later is_before is_entry =
    let byte : before % 256 < 256 = omega arith in
    let zero_byte : 0 < 256 = omega arith in
    let column : (i - 256) % 256 ≡ i % 256 = omega (arith, later) in
    let row : 8 * ((i - 256) / 256) + 8 + 8 ≡ 8 * (i / 256) + 8 = omega (arith, later) in
    ap (λ (x : ℕ). bit_xor x (before / 256)) (is_entry ∙ sym (first_rows (before % 256) byte))
    ∙ ap (λ (x : ℕ). bit_xor (after_zeros 8 x) (before / 256)) (sym (xor_zero_r (before % 256)))
    ∙ by_row before 0 zero_byte
    ∙ as_zeros before 0 zero_byte
    ∙ ap (λ (x : ℕ). after_zeros 8 x) (xor_zero_r before ∙ is_before)
    ∙ more_zeros (8 * ((i - 256) / 256) + 8) 8 ((i - 256) % 256)
    ∙ ap (λ (n : ℕ). after_zeros n ((i - 256) % 256)) row
    ∙ ap (λ (x : ℕ). after_zeros (8 * (i / 256) + 8) x) column

pub in_row : (rows : List ℕ) → rows ≡ map row_at (range_with_len 0 4096) → (n x i : ℕ) → n < 16 → x < 256 → i ≡ 256 * n + x → get_or rows i 0 ≡ after_zeros (8 * n + 8) x
in_row rows are n x i few small place =
    let within : i < 4096 = omega (arith, few, small, place) in
    let row : i / 256 ≡ n = omega (arith, small, place) in
    let column : i % 256 ≡ x = omega (arith, small, place) in
    ap (λ (l : List ℕ). get_or l i 0) are ∙ get_or-map-range_with_len row_at 0 4096 i i 0 within (omega arith)
    ∙ ap (λ (k : ℕ). after_zeros (8 * k + 8) (i % 256)) row
    ∙ ap (λ (y : ℕ). after_zeros (8 * n + 8) y) column
