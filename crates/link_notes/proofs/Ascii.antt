-- Texts of ASCII.
use Rattle.std.proofs.Common.{◌≡◌, ℕ, ◌<◌, true, List, Some, Result, Ok, Err, ap}
use Rattle.std.specs.Option.{option_map}
use Rattle.std.specs.Result.{MatchResult, result_ok}
use Rattle.std.specs.List.{list_all}
use Rattle.std.specs.Char.{is_ascii}
use Rattle.std.specs.Str.{IsAscii, IsUtf8}
use Rattle.std.proofs.lemmas.Bool.{ltb-true}
use Rattle.std.proofs.lemmas.List.Elements.{All-weaker}
use Rattle.std.proofs.lemmas.List.Sums.{AllPass-from_list_all}
use Rattle.std.proofs.lemmas.Str.{IsUtf8-from_ascii}
use Rattle.std.proofs.lemmas.Str.Ascii.{IsAscii-from_all}
use Rattle.link_notes.specs.Reading.{ascii_of}

ascii_each : (text : List ℕ) → list_all is_ascii text ≡ true → IsAscii text
ascii_each text all =
    IsAscii-from_all text (All-weaker (λ b. is_ascii b ≡ true) (λ b. b < 128) (λ b e. ltb-true b 128 e) text (AllPass-from_list_all is_ascii text all))

-- such a text is read as UTF-8
pub ascii_read : {X E : Type 0} (now : X → List ℕ) (text : List ℕ) (r : Result X E) (Q : E → Type 0) → list_all is_ascii text ≡ true
    → MatchResult r (λ s. (now s ≡ text) × IsUtf8 text) (λ e. (¬ IsUtf8 text) × Q e) → option_map now (result_ok r) ≡ ascii_of text
ascii_read now text (Ok s) Q all h = rw all (ap Some h.0)
ascii_read now text (Err e) Q all h = absurd (h.0 (IsUtf8-from_ascii text (ascii_each text all)))
