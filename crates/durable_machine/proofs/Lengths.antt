-- What the first bytes of a batch tell of its length.
use Rattle.std.proofs.Common.{◌≡◌, ◌≢◌, ◌⊎◌, inl, inr, ◌<◌, ◌≤◌, ◌^◌, ◌+◌, ℕ, List, ◌∷◌, ◌++◌, length, take, drop, sym, ◌∙◌, ap, arith, append_assoc, length-append, length-drop}
use Rattle.std.specs.Int.{to_le_bytes, from_le_bytes, w32, w64}
use Rattle.std.proofs.lemmas.Nat.{from_le_bytes-to_le_bytes_8}
use Rattle.std.proofs.lemmas.List.{drop_at, take_at}
use Rattle.crc32c.specs.Crc.{sum_of}
use Rattle.durable_machine.specs.Events.{number_bytes, spelled}
use Rattle.durable_machine.specs.Seals.{IsSealOf, seal_of}
use Rattle.durable_machine.specs.Journal.{BeginsBatch, BeginsClosed, payload_length}
use Rattle.durable_machine.specs.Pieces.{TakesBytes}
use Rattle.durable_machine.proofs.Numbers.{length-number_bytes}
use Rattle.durable_machine.proofs.Sealing.{events_tag, length-seal, seal_tag}
use Rattle.durable_machine.proofs.Frames.{begins_open, length-frame, payload_of}
use Rattle.durable_machine.proofs.Windows.{front_dropped, part_taken}

firsts : (x y : ℕ) (l m : List ℕ) → x ∷ l ≡ y ∷ m → x ≡ y
firsts x y l m is = cc

-- the length in a seal
pub seal_tells : (at : ℕ) (told rest : List ℕ) → take 8 (drop 9 (seal_of at told ++ rest)) ≡ number_bytes (length told)
unfolding seal_of
seal_tells at told rest =
    let sum = to_le_bytes w32 (sum_of (number_bytes at ++ number_bytes (length told) ++ told)) in
    let size = number_bytes (length told) in
    ap (λ (l : List ℕ). take 8 (drop 8 l)) (append_assoc (number_bytes at ++ size) sum rest ∙ append_assoc (number_bytes at) size (sum ++ rest))
    ∙ ap (λ (l : List ℕ). take 8 l) (drop_at (number_bytes at) (size ++ (sum ++ rest)) 8 (length-number_bytes at))
    ∙ take_at size (sum ++ rest) 8 (length-number_bytes (length told))

-- a number is read of its bytes
pub number_read : (n : ℕ) → n < 2 ^ 64 → from_le_bytes w64 (number_bytes n) ≡ n
unfolding number_bytes
number_read n fits = from_le_bytes-to_le_bytes_8 n fits

-- a closed gate
pub takes_closed : (front : List ℕ) → BeginsClosed front → TakesBytes 0 front
takes_closed front shut at events rest more begins fits =
    absurd (begins_open at events rest (front ++ more) begins (shut.0 ++ more, ap (λ (l : List ℕ). l ++ more) shut.1 ∙ append_assoc _ shut.0 more))

module _ (front payload : List ℕ) (long : 4117 ≤ length front) (is_payload : payload ≡ drop 4096 front) where
  module _ (at : ℕ) (events : List (List ℕ)) (rest more : List ℕ) (begins : BeginsBatch at events rest (front ++ more)) where
    abbrev behind : List ℕ
    behind = 0 ∷ (begins.is.padding ++ rest)

    parts : payload ++ more ≡ begins.is.seal ++ (spelled events ++ behind)
    parts =
        ap (λ (l : List ℕ). l ++ more) is_payload ∙ sym (front_dropped 4096 front more (omega (arith, long)))
        ∙ ap (λ (l : List ℕ). drop 4096 l) begins.parts ∙ payload_of at events begins.frame rest begins.is

    -- its first byte is an event's or a seal's
    first_byte : (x : ℕ) (tail : List ℕ) → payload ≡ x ∷ tail → IsSealOf at (spelled events) begins.is.seal → ((x ≡ 254) × (begins.is.seal ≡ seal_of at (spelled events))) ⊎ (x ≡ 1)
    first_byte x tail first (inl sealed) =
        inl (
          firsts x 254 (tail ++ more) (drop 1 (seal_of at (spelled events)) ++ (spelled events ++ behind))
              (ap (λ (l : List ℕ). l ++ more) (sym first) ∙ parts ∙ ap (λ (l : List ℕ). l ++ (spelled events ++ behind)) sealed ∙ seal_tag at (spelled events) (spelled events ++ behind)),
          sealed,
        )
    first_byte x tail first (inr none) =
        inr (firsts x 1 (tail ++ more) (drop 1 (spelled events) ++ behind)
        (ap (λ (l : List ℕ). l ++ more) (sym first) ∙ parts ∙ ap (λ (l : List ℕ). l ++ (spelled events ++ behind)) none.0 ∙ events_tag events behind none.1))

  -- another byte
  pub takes_none : (x : ℕ) (tail : List ℕ) → payload ≡ x ∷ tail → x ≢ 254 → x ≢ 1 → TakesBytes 0 front
  takes_none x tail first no_seal no_event at events rest more begins fits = of (first_byte at events rest more begins x tail first begins.is.sealed)
    where
      of : ((x ≡ 254) × (begins.is.seal ≡ seal_of at (spelled events))) ⊎ (x ≡ 1) → length begins.frame ≡ 0
      of (inl seal) = absurd (no_seal seal.0)
      of (inr event) = absurd (no_event event)

  -- a seal's
  pub takes_sealed : (x : ℕ) (tail : List ℕ) → payload ≡ x ∷ tail → x ≡ 254 → (n : ℕ)
      → ((m : ℕ) → 21 + m < 2 ^ 63 → take 8 (drop 9 payload) ≡ number_bytes m → n ≡ 4096 + payload_length (21 + m)) → TakesBytes n front
  takes_sealed x tail first is n so at events rest more begins fits = of (first_byte at events rest more begins x tail first begins.is.sealed)
    where
      of : ((x ≡ 254) × (begins.is.seal ≡ seal_of at (spelled events))) ⊎ (x ≡ 1) → length begins.frame ≡ n
      of (inr event) = absurd (omega (arith, is, event))
      of (inl seal) =
          let told = spelled events in
          let size : length (begins.is.seal ++ told) ≡ 21 + length told = omega (arith, length-append begins.is.seal told, ap length seal.1, length-seal at told) in
          let framed : length begins.frame ≡ 4096 + payload_length (21 + length told) = length-frame at events begins.frame begins.is ∙ ap (λ (k : ℕ). 4096 + payload_length k) size in
          let small : 21 + length told < 2 ^ 63 = omega (arith, framed, fits, ap length begins.parts, length-append begins.frame rest) in
          let room : 9 + 8 ≤ length payload = omega (arith, long, ap length is_payload, length-drop 4096 front) in
          let number : take 8 (drop 9 payload) ≡ number_bytes (length told) =
          sym (part_taken 9 8 payload more room)
          ∙ ap (λ (l : List ℕ). take 8 (drop 9 l)) (parts at events rest more begins ∙ ap (λ (l : List ℕ). l ++ (told ++ behind at events rest more begins)) seal.1)
          ∙ seal_tells at told (told ++ behind at events rest more begins) in
          framed ∙ sym (so (length told) small number)
