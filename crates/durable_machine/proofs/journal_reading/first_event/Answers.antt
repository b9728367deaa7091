use Rattle.std.proofs.Common.{rules, ◌≡◌, ◌^◌, ◌<◌, ◌≤◌, ℕ, List, ◌∷◌, ◌++◌, length, take, drop, sym, ◌∙◌, ap, arith, take-append-drop}
use Rattle.std.specs.Int.{w64, from_le_bytes}
use Rattle.durable_machine.proofs.FirstEvents.{digits_are, digits_fit, begins, cut_short}
use Rattle.durable_machine.proofs.Spelling.{too_short}
use Rattle.durable_machine.proofs.journal_reading.first_event.Goals as goal

pub returns-in_default : goal.returns-in_default
returns-in_default c = too_short c.args.bytes.now (omega (arith, c.in_ok-gate.ensures.cases.1, c.in_default.ensures.cases))

pub returns-then-behind-length : goal.returns-then-behind-length
returns-then-behind-length c =
    let first : c.args.bytes.now ≡ c.in_ok-gate.gate.now ∷ c.in_ok-gate.behind.now = c.in_ok-gate.ensures.cases.0 in
    let is_open : c.in_ok-gate.gate.now ≡ 1 = search rules in
    let number : c.in-Some.number.now ≡ take 8 c.in_ok-gate.behind.now = c.in-Some.ensures.cases.0 in
    let behind : c.in-Some.behind.now ≡ drop 8 c.in_ok-gate.behind.now = c.in-Some.ensures.cases.1 in
    let reads : c.in_ok-length.length ≡ from_le_bytes w64 c.in-Some.number.now = search rules in
    let fits : c.in_ok-length.length < 2 ^ 64 = search rules in
    let eight : length c.in-Some.number.now ≡ 8 = search rules in
    let short : length c.in-Some.behind.now < c.in_ok-length.length = search rules in
    let parts : c.args.bytes.now ≡ 1 ∷ c.in-Some.number.now ++ c.in-Some.behind.now =
    first ∙ ap (λ (g : ℕ). g ∷ c.in_ok-gate.behind.now) is_open ∙ ap (λ (l : List ℕ). 1 ∷ l) (sym (take-append-drop 8 c.in_ok-gate.behind.now) ∙ ap (λ (l : List ℕ). l ++ drop 8 c.in_ok-gate.behind.now) (sym number) ∙ ap (λ (l : List ℕ). c.in-Some.number.now ++ l) (sym behind)) in
    cut_short c.args.bytes.now c.in-Some.number.now c.in-Some.behind.now c.in_ok-length.length
    (digits_are c.in-Some.number.now c.in_ok-length.length eight (digits_fit c.args.bytes.now c.in_ok-gate.behind.now c.in-Some.number.now c.in_ok-gate.gate.now first number (λ k. omega (arith, c.type_inv.bytes k))) reads)
    parts fits short

pub returns : goal.returns
returns c =
    let first : c.args.bytes.now ≡ c.in_ok-gate.gate.now ∷ c.in_ok-gate.behind.now = c.in_ok-gate.ensures.cases.0 in
    let is_open : c.in_ok-gate.gate.now ≡ 1 = search rules in
    let number : c.in-Some.number.now ≡ take 8 c.in_ok-gate.behind.now = c.in-Some.ensures.cases.0 in
    let behind : c.in-Some.behind.now ≡ drop 8 c.in_ok-gate.behind.now = c.in-Some.ensures.cases.1 in
    let reads : c.in_ok-length.length ≡ from_le_bytes w64 c.in-Some.number.now = search rules in
    let fits : c.in_ok-length.length < 2 ^ 64 = search rules in
    let eight : length c.in-Some.number.now ≡ 8 = search rules in
    let enough : c.in_ok-length.length ≤ length c.in-Some.behind.now = search rules in
    let parts : c.args.bytes.now ≡ 1 ∷ c.in-Some.number.now ++ c.in-Some.behind.now =
    first ∙ ap (λ (g : ℕ). g ∷ c.in_ok-gate.behind.now) is_open ∙ ap (λ (l : List ℕ). 1 ∷ l) (sym (take-append-drop 8 c.in_ok-gate.behind.now) ∙ ap (λ (l : List ℕ). l ++ drop 8 c.in_ok-gate.behind.now) (sym number) ∙ ap (λ (l : List ℕ). c.in-Some.number.now ++ l) (sym behind)) in
    begins c.args.bytes.now c.in-Some.number.now c.in-Some.behind.now c.in_ok-length.length
    (digits_are c.in-Some.number.now c.in_ok-length.length eight (digits_fit c.args.bytes.now c.in_ok-gate.behind.now c.in-Some.number.now c.in_ok-gate.gate.now first number (λ k. omega (arith, c.type_inv.bytes k))) reads)
    parts fits enough c.split_at.result.0.now c.split_at.result.1.now c.split_at.ensures.front c.split_at.ensures.back c.split_at.ensures.front_len
