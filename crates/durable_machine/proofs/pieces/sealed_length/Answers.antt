use Rattle.std.proofs.Common.{rules, ◌≡◌, ◌+◌, ◌-◌, ℕ, List, length, take, drop, ◌∙◌, ap, arith}
use Rattle.std.specs.Int.{from_le_bytes, w64}
use Rattle.durable_machine.specs.Journal.{payload_length}
use Rattle.durable_machine.proofs.ReadFrames.{rest_of}
use Rattle.durable_machine.proofs.Lengths.{number_read}
use Rattle.durable_machine.proofs.pieces.sealed_length.Goals as goal

pub returns-in-Ok : goal.returns-in-Ok
returns-in-Ok c n small digits =
    let payload = c.args.payload.now in
    let number : c.in-Some.number.now ≡ take 8 (take (length payload - 9) (drop 9 payload)) = search rules in
    let reads : c.in-Ok.length ≡ from_le_bytes w64 c.in-Some.number.now = search rules in
    let same : c.in-Ok.length ≡ n =
    reads
    ∙ ap (λ (l : List ℕ). from_le_bytes w64 l) (number ∙ ap (λ (l : List ℕ). take 8 l) (rest_of 9 payload) ∙ digits)
    ∙ number_read n (omega (arith, small)) in
    ap (λ (k : ℕ). 4096 + k) (c.whole_payload.ensures ∙ ap (λ (k : ℕ). payload_length (21 + k)) same)

pub returns-in_default-try_from : goal.returns-in_default-try_from
returns-in_default-try_from c n small digits =
    let payload = c.args.payload.now in
    let number : c.in-Some.number.now ≡ take 8 (take (length payload - 9) (drop 9 payload)) = search rules in
    let reads : c.in-Ok.length ≡ from_le_bytes w64 c.in-Some.number.now = search rules in
    let same : c.in-Ok.length ≡ n =
    reads
    ∙ ap (λ (l : List ℕ). from_le_bytes w64 l) (number ∙ ap (λ (l : List ℕ). take 8 l) (rest_of 9 payload) ∙ digits)
    ∙ number_read n (omega (arith, small)) in
    absurd (omega (arith, same, small, c.if-length.false))
