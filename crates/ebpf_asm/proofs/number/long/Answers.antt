use Rattle.std.proofs.Common.{ap, ◌∙◌}
use Rattle.std.specs.Int.{w128}
use Rattle.std.specs.Prelude.{ok_or}
use Rattle.std.proofs.lemmas.Int.{to_z-of_z}
use Rattle.ebpf_asm.specs.declared.fault.FaultKind.TheVariants.{OutOfRange}
use Rattle.ebpf_asm.proofs.Fitting.{long_converted}
use Rattle.ebpf_asm.proofs.number.long.Goals as goal

pub returns : goal.returns
returns c =
    let converted = rw (to_z-of_z w128 c.args.number c.ranges.number) at c.try_from.ensures in
    c.ok_or.ensures.value ∙ ap (λ o. ok_or o OutOfRange) c.ok.ensures.value ∙ long_converted c.args.number c.try_from.result converted
