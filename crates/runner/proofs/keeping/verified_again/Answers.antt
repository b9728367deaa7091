use Rattle.accepted_programs.specs.Accepted.{refusal}
use Rattle.verifier.specs.VerifyFault.{IsFaultOf}
use Rattle.runner.proofs.KeptPrograms.{faulty_is_refused, unaccepted_is_refused}
use Rattle.runner.proofs.keeping.verified_again.Goals as goal

pub returns-in-Err-Fault : goal.returns-in-Err-Fault
returns-in-Err-Fault g c =
    faulty_is_refused g.D.Domain.operations c.args.bytes.now c.args.sizes _ (rw c.in-Err-Fault.field-0-is at c.in-Err-Fault.ensures.exact)

pub returns-in-Err-Refused : goal.returns-in-Err-Refused
returns-in-Err-Refused g c =
    let told : IsFaultOf (refusal g.D.Domain.operations c.in-Ok.program c.args.sizes) c.in-Err-Refused.field-0 = c.in-Err-Refused.ensures.refused in
    unaccepted_is_refused g.D.Domain.operations c.args.bytes.now c.args.sizes c.in-Ok.program _ c.in-Ok.ensures.exact (rw c.in-Err-Refused.field-0-is at told)
