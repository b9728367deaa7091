use Rattle.std.proofs.Common.{◌<◌, subst, sym}
use Rattle.ebpf_decode.specs.declared.fault.Fault.{Fault}
use Rattle.ebpf_decode.proofs.Proved.{decoded_is_spelled, fault_is_inside}
use Rattle.program_interface.specs.declared.TheConstants.{MOST_SLOTS}
use Rattle.accepted_programs.specs.Accepted.{refusal}
use Rattle.verifier.specs.VerifyFault.{IsFaultOf}
use Rattle.accepted_programs.specs.declared.reason.Refusal.{Refusal}
use Rattle.accepted_programs.proofs.Proved.{refusal_is_inside}
use Rattle.runner.proofs.load.read_program.Goals as goal

pub refuse-requires : goal.refuse-requires
refuse-requires g c =
    subst (λ (f : Fault). f.slot < MOST_SLOTS) (sym c.in-Err-Fault.fault-is)
    (fault_is_inside c.args.bytes.now c.in-Err-Fault.fault (rw c.in-Err-Fault.field-0-is at c.in-Err-Fault.ensures.exact))

pub refuse-requires-in-Err-Refused : goal.refuse-requires-in-Err-Refused
refuse-requires-in-Err-Refused g c =
    let is = decoded_is_spelled c.args.bytes.now c.in-Ok.program (λ k. (c.type_inv.bytes k).fits) c.in-Ok.ensures.exact in
    let told : IsFaultOf (refusal g.D.Domain.operations c.in-Ok.program c.args.sizes) c.in-Err-Refused.field-0 = c.in-Err-Refused.ensures.refused in
    subst (λ (r : Refusal). r.slot < MOST_SLOTS) (sym c.in-Err-Refused.refusal-is)
    (refusal_is_inside g.D.Domain.operations c.in-Ok.program is.0 c.args.sizes c.in-Err-Refused.refusal (rw c.in-Err-Refused.field-0-is at told)).1
