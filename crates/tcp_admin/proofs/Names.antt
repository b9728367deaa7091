-- Names that come of a UUID.
use Rattle.std.proofs.Common.{◌≡◌, ℕ, ◌+◌, ◌*◌, ◌≤◌, List, ◌∷◌, ◌++◌, length, take, drop, refl, arith, append_assoc, length-append}
use Rattle.std.specs.Prelude.{codes}
use Rattle.std.proofs.lemmas.List.{length-drop, length-take}
use Rattle.hex.specs.Hex.{encode_lower, lower_digits}
use Rattle.hex.proofs.HexLemmas.{length-encode_with}
use Rattle.tcp_admin.specs.Identity.{uuid_name, uuid_text}

-- groups that are added one after another
pub joined : (a b c d e f : List ℕ)
    → ((((a ++ b) ++ 45 ∷ c) ++ 45 ∷ d) ++ 45 ∷ e) ++ 45 ∷ f ≡ a ++ (b ++ 45 ∷ (c ++ 45 ∷ (d ++ 45 ∷ (e ++ 45 ∷ f))))
joined a b c d e f = simp append_assoc refl

group : (bytes rest : List ℕ) → length (encode_lower bytes ++ (45 ∷ rest)) ≡ 2 * length bytes + 1 + length rest
group bytes rest = omega (arith, length-append (encode_lower bytes) (45 ∷ rest), length-encode_with lower_digits bytes)

-- such a name is short enough
text_short : (uuid : List ℕ) → length uuid ≡ 16 → length (uuid_text uuid) ≤ 191
text_short uuid is =
    let fifth : List ℕ = encode_lower (drop 10 uuid) in
    let fourth : List ℕ = encode_lower (take 2 (drop 8 uuid)) ++ (45 ∷ fifth) in
    let third : List ℕ = encode_lower (take 2 (drop 6 uuid)) ++ (45 ∷ fourth) in
    let second : List ℕ = encode_lower (take 2 (drop 4 uuid)) ++ (45 ∷ third) in
    let one : length (uuid_text uuid) ≡ 2 * length (take 4 uuid) + 1 + length second = group (take 4 uuid) second in
    let two : length second ≡ 2 * length (take 2 (drop 4 uuid)) + 1 + length third = group (take 2 (drop 4 uuid)) third in
    let three : length third ≡ 2 * length (take 2 (drop 6 uuid)) + 1 + length fourth = group (take 2 (drop 6 uuid)) fourth in
    let four : length fourth ≡ 2 * length (take 2 (drop 8 uuid)) + 1 + length fifth = group (take 2 (drop 8 uuid)) fifth in
    let five : length fifth ≡ 2 * length (drop 10 uuid) = length-encode_with lower_digits (drop 10 uuid) in
    omega (
      arith,
      is,
      one,
      two,
      three,
      four,
      five,
      length-take 4 uuid,
      length-take 2 (drop 4 uuid),
      length-take 2 (drop 6 uuid),
      length-take 2 (drop 8 uuid),
      length-drop 10 uuid,
    )

pub short : (uuid : List ℕ) → length uuid ≡ 16 → length (uuid_name uuid) ≤ 223
short uuid is =
    let all : length (uuid_name uuid) ≡ 32 + length (uuid_text uuid) =
    length-append (codes "nqn.2014-08.org.nvmexpress:uuid:") (uuid_text uuid) in
    omega (arith, all, text_short uuid is)
