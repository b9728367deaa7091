-- Numbers as 8 bytes.
use Rattle.std.proofs.Common.{◌≡◌, ◌<◌, ◌^◌, ℕ, List, length, refl, sym, ◌∙◌, ap}
use Rattle.std.specs.Int.{to_le_bytes, from_le_bytes, w64}
use Rattle.std.proofs.lemmas.Nat.{from_le_bytes-to_le_bytes_8}
use Rattle.durable_machine.specs.Events.{number_bytes}

pub length-number_bytes : (n : ℕ) → length (number_bytes n) ≡ 8
unfolding number_bytes
length-number_bytes n = refl

pub number_bytes_injective : (m n : ℕ) → m < 2 ^ 64 → n < 2 ^ 64 → number_bytes m ≡ number_bytes n → m ≡ n
unfolding number_bytes
number_bytes_injective m n hm hn is = sym (from_le_bytes-to_le_bytes_8 m hm) ∙ ap (λ (bytes : List ℕ). from_le_bytes w64 bytes) is ∙ from_le_bytes-to_le_bytes_8 n hn

pub are_number_bytes : (n : ℕ) (digits : List ℕ) → digits ≡ to_le_bytes w64 n → digits ≡ number_bytes n
unfolding number_bytes
are_number_bytes n digits are = are
