use Rattle.std.proofs.Common.{rules, ◌≡◌, ◌++◌, ℕ, List, length, take, drop, sym, ◌∙◌, ap, arith, take-append-drop}
use Rattle.std.specs.Int.{from_le_bytes, w64}
use Rattle.durable_machine.proofs.FirstEvents.{digits_are}
use Rattle.durable_machine.specs.Events.{number_bytes}
use Rattle.image_base.proofs.Labels.{front_fits}
use Rattle.image_base.proofs.front.number_in.Goals as goal

pub returns : goal.returns
returns c =
    let bytes = c.args.bytes.now in
    let digits = c.in_ok-digits.digits.now in
    let rest = c.in_ok-digits.rest.now in
    let number = c.from_le_bytes.result in
    let is_digits : digits ≡ take 8 bytes = c.in_ok-digits.ensures.cases.0 in
    let is_rest : rest ≡ drop 8 bytes = c.in_ok-digits.ensures.cases.1 in
    let eight : length digits ≡ 8 = search rules in
    let reads : number ≡ from_le_bytes w64 digits = search rules in
    let are : number_bytes number ≡ digits =
    digits_are digits number eight (front_fits bytes digits is_digits (λ k. omega (arith, c.type_inv.bytes k))) reads in
    sym (take-append-drop 8 bytes)
    ∙ ap (λ (l : List ℕ). l ++ drop 8 bytes) (sym is_digits ∙ sym are)
    ∙ ap (λ (l : List ℕ). number_bytes number ++ l) (sym is_rest)
