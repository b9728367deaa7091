-- How characters are shown.
use Rattle.std.proofs.Common.{◌≡◌, ℕ, ◌<◌, ◌≤◌, List, [], ◌∷◌, false, arith, refl}
use Rattle.std.proofs.lemmas.Grind.{common_steps}
use Rattle.std.specs.Char.{encode_utf8, is_control}
use Rattle.std.specs.List.{flat_map, list_any}
use Rattle.std.specs.Str.{encode_utf8_all}
use Rattle.command_files.specs.Shown.{shown_char}

-- a control character above 127 has two bytes
pub encode_high : (c : ℕ) → 128 ≤ c → c < 160 → encode_utf8 c ≡ 194 ∷ c ∷ []
unfolding encode_utf8
encode_high c low high = grind (arith, common_steps)

-- characters that are shown as they are
pub kept : (cs : List ℕ) → list_any is_control cs ≡ false → flat_map shown_char cs ≡ encode_utf8_all cs
kept [] none = refl
kept (c ∷ cs) none = grind (arith, common_steps, kept cs)
