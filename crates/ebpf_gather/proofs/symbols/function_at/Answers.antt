use Rattle.std.proofs.Common.{◌≡◌, ◌<◌, ℕ, ℤ, None, Some, arith, subst, sym}
use Rattle.std.specs.Int.{w128}
use Rattle.std.proofs.lemmas.Int.{to_z-of_z}
use Rattle.ebpf_gather.specs.First.{first_of}
use Rattle.ebpf_gather.specs.Functions.{function_numbered, symbols_in}
use Rattle.ebpf_gather.proofs.First.{found_stays}
use Rattle.ebpf_gather.proofs.symbols.function_at.Goals as goal

pub returns-in-Some-clause-value : goal.returns-in-Some-clause-value
returns-in-Some-clause-value c =
    let bytes = c.args.object.now.bytes.now in
    let symbols = c.args.object.now.symbols in
    let number = c.loop-number.number in
    let none = subst (λ (z : ℤ). first_of (function_numbered bytes symbols c.args.section z) number ≡ None) (to_z-of_z w128 c.args.byte c.ranges.byte)
    c.loop-number.invariant in
    let here = subst (λ (z : ℤ). function_numbered bytes symbols c.args.section z number ≡ Some c.in-Some.function)
    (to_z-of_z w128 c.args.byte c.ranges.byte) (sym c.in-Some.ensures.value) in
    sym (found_stays (function_numbered bytes symbols c.args.section c.args.byte) number c.in-Some.function (symbols_in bytes symbols) none
    here (subst (λ (n : ℕ). number < n) c.symbol_count-number-end.ensures c.loop-number-test.true))

pub returns-clause-value : goal.returns-clause-value
returns-clause-value c =
    let bytes = c.args.object.now.bytes.now in
    let symbols = c.args.object.now.symbols in
    let ended : c.loop-number.number ≡ symbols_in bytes symbols
    = omega (arith, c.loop-number-test.false, c.loop-number.auto.number-end, c.symbol_count-number-end.ensures) in
    let none = subst (λ (z : ℤ). first_of (function_numbered bytes symbols c.args.section z) c.loop-number.number ≡ None)
    (to_z-of_z w128 c.args.byte c.ranges.byte) c.loop-number.invariant in
    sym (subst (λ (n : ℕ). first_of (function_numbered bytes symbols c.args.section c.args.byte) n ≡ None) ended none)
