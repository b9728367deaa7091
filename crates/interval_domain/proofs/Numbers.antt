-- What holds of plain numbers, which the rules rest on.
use Rattle.std.proofs.Common.{ℕ, ◌≡◌, ◌+◌, ◌-◌, ◌*◌, ◌/◌, ◌%◌, ◌<◌, ◌≤◌, ◌∙◌, arith}
use Rattle.std.proofs.Math.Nat.{div-mul-le_self, mod-eq-sub-mod, mod-eq_of_lt, mul-le-mul_left}
use Rattle.std.proofs.lemmas.Nat.{le-div}

-- a number that wraps once
pub wraps_once : (m n : ℕ) → m ≤ n → n < m + m → n % m ≡ n - m
wraps_once m n from below = mod-eq-sub-mod from ∙ mod-eq_of_lt (omega arith)

-- a quotient grows with the number and falls with the divisor
pub quotient_grows : (a b c d : ℕ) → a ≤ c → d ≤ b → 0 < d → a / b ≤ c / d
quotient_grows a b c d more less some =
    let back = div-mul-le_self a b in
    let smaller : a / b * d ≤ a / b * b = mul-le-mul_left (a / b) less in
    le-div (a / b) c d some (omega (arith, back, smaller))
