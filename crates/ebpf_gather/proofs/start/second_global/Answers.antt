use Rattle.std.proofs.Common.{◌<◌, ℕ, subst, sym}
use Rattle.ebpf_gather.specs.Functions.{other_global, symbols_in}
use Rattle.ebpf_gather.proofs.First.{found_stays}
use Rattle.ebpf_gather.proofs.start.second_global.Goals as goal

pub returns-in-Some : goal.returns-in-Some
returns-in-Some c =
    let bytes = c.args.object.now.bytes.now in
    let symbols = c.args.object.now.symbols in
    let number = c.loop-number.number in
    sym (found_stays (other_global bytes symbols c.args.first) number c.in-Some.found (symbols_in bytes symbols) c.loop-number.invariant (sym c.in-Some.ensures)
    (subst (λ (n : ℕ). number < n) c.symbol_count-number-end.ensures c.loop-number-test.true))
