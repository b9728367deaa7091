use Rattle.std.proofs.Common.{ℕ, arith, below_more}
use Rattle.ebpf_object.specs.First.{NoneHas}
use Rattle.ebpf_object.specs.Objects.{faults_in, relocations_in}
use Rattle.ebpf_object.proofs.search.faulty_relocation.Goals as goal

pub loop-number-preserved : goal.loop-number-preserved
loop-number-preserved c =
    below_more (λ (s : ℕ). NoneHas (faults_in c.args.bytes.now c.args.symbols s) (relocations_in c.args.bytes.now s)) c.loop-number.number
    c.loop-number.invariant c.in_default.ensures

pub returns : goal.returns
returns c = λ section below. c.loop-number.invariant section (omega (arith, below))
