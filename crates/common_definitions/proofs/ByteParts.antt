-- Parts of bytes are bytes, and so are what is put together of them and the bytes of a number.
use Rattle.std.proofs.Common.{◌≡◌, ℕ, ◌+◌, ◌/◌, ◌^◌, ◌<◌, ◌≤◌, zero, suc, List, [], ◌∷◌, ◌++◌, length, get_or, take, drop, sym, subst, arith, lit<, length-append, length-drop, mod-lt}
use Rattle.std.specs.Int.{bytes_low_first}
use Rattle.std.proofs.lemmas.List.{take-append-drop, get_or-drop, length-take}
use Rattle.common_definitions.specs.Bytes.{AreBytes, spliced}

-- the first part of bytes is bytes
pub front_fit : (xs ys : List ℕ) → AreBytes (xs ++ ys) → AreBytes xs
front_fit [] ys fit i = omega arith
front_fit (x ∷ xs) ys fit zero = fit 0
front_fit (x ∷ xs) ys fit (suc i) = front_fit xs ys (λ k. fit (suc k)) i

-- the last part of bytes is bytes
pub rest_fit : (xs ys : List ℕ) → AreBytes (xs ++ ys) → AreBytes ys
rest_fit [] ys fit = fit
rest_fit (x ∷ xs) ys fit = rest_fit xs ys (λ k. fit (suc k))

-- what stands behind the first so many bytes is bytes
pub bytes_from : (n : ℕ) (xs : List ℕ) → AreBytes xs → AreBytes (drop n xs)
bytes_from n xs fit i = subst (λ (b : ℕ). b < 256) (sym (get_or-drop n xs i 0)) (fit (n + i))

-- the first so many of bytes are bytes
pub bytes_to : (n : ℕ) (xs : List ℕ) → AreBytes xs → AreBytes (take n xs)
bytes_to n xs fit = front_fit (take n xs) (drop n xs) (subst AreBytes (sym (take-append-drop n xs)) fit)

-- what holds at each place of two lists holds at each place of both
pub each_behind : {X : Type 0} (P : X → Type 0) (d : X) (xs ys : List X) → ((k : ℕ) → P (get_or xs k d)) → ((k : ℕ) → P (get_or ys k d))
    → (k : ℕ) → P (get_or (xs ++ ys) k d)
each_behind P d [] ys front back k = back k
each_behind P d (x ∷ xs) ys front back zero = front 0
each_behind P d (x ∷ xs) ys front back (suc k) = each_behind P d xs ys (λ j. front (suc j)) back k

-- bytes with bytes behind them are bytes
pub both_fit : (xs ys : List ℕ) → AreBytes xs → AreBytes ys → AreBytes (xs ++ ys)
both_fit = each_behind (λ byte. byte < 256) 0

-- bytes with other bytes put in their place are bytes
pub spliced_fit : (at : ℕ) (new xs : List ℕ) → AreBytes new → AreBytes xs → AreBytes (spliced at new xs)
spliced_fit at new xs brought fit =
    both_fit (take at xs) (new ++ drop (at + length new) xs) (bytes_to at xs fit)
    (both_fit new (drop (at + length new) xs) brought (bytes_from (at + length new) xs fit))

-- bytes with others put in their place, all inside, are as many as before
pub length-spliced : (at : ℕ) (new xs : List ℕ) → at + length new ≤ length xs → length (spliced at new xs) ≡ length xs
length-spliced at new xs inside =
    omega (arith, length-append (take at xs) (new ++ drop (at + length new) xs), length-append new (drop (at + length new) xs), length-take at xs, length-drop (at + length new) xs)

-- so many bytes of a number, from any of them on, are bytes
pub low_first : (i n x : ℕ) → AreBytes (bytes_low_first i n x)
low_first i zero x k = lit< tt
low_first zero (suc n) x zero = mod-lt x (lit< tt)
low_first (suc i) (suc n) x zero = mod-lt (x / 256 ^ suc i) (lit< tt)
low_first i (suc n) x (suc k) = low_first (suc i) n x k
