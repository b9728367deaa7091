use Rattle.std.proofs.Common.{◌<◌, ℕ, subst, sym}
use Rattle.ebpf_gather.specs.Functions.{global_at, symbols_in}
use Rattle.ebpf_gather.proofs.First.{found_stays}
use Rattle.ebpf_gather.proofs.start.first_global.Goals as goal

pub returns-in-Some-clause-value : goal.returns-in-Some-clause-value
returns-in-Some-clause-value c =
    let bytes = c.args.object.now.bytes.now in
    let symbols = c.args.object.now.symbols in
    let number = c.loop-number.number in
    sym (found_stays (global_at bytes symbols) number c.in-Some.found (symbols_in bytes symbols) c.loop-number.invariant (sym c.in-Some.ensures.value)
    (subst (λ (n : ℕ). number < n) c.symbol_count-number-end.ensures c.loop-number-test.true))
