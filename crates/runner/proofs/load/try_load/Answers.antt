use Rattle.std.proofs.Common.{sym, subst}
use Rattle.std.proofs.lemmas.Result.{IfOk-weaker, MatchResult-weaker}
use Rattle.program_interface.specs.RunSizes.{Sizes}
use Rattle.device_meaning.specs.Judging.{judge_by}
use Rattle.verifier.specs.Verified.{program_of, sizes_of}
use Rattle.runner.specs.steps.Loading.{IsAccepted}
use Rattle.runner.proofs.Loads.{refuses_checked, refuses_read}
use Rattle.runner.proofs.load.try_load.Goals as goal

pub returns-in-Ok-clause-ok : goal.returns-in-Ok-clause-ok
returns-in-Ok-clause-ok g c =
    IfOk-weaker c.read_program.result _ _
    (λ p accepted. record {
      checks = sym c.in-Ok.ensures.why;
      accepted = subst (λ (sizes : Sizes). IsAccepted g.D.Domain.operations c.args.input.now sizes (program_of p.prepared) (sizes_of p.prepared)) c.in-Ok.ensures.sizes accepted;
    })
    c.read_program.ensures.ok

pub returns-in-Ok-clause-err : goal.returns-in-Ok-clause-err
returns-in-Ok-clause-err g c =
    MatchResult-weaker c.read_program.result c.read_program.ensures.err (λ p none. none)
    (λ answer refused. refuses_read g.D.Domain.operations c.args.command.now c.args.input.now c.args.state.now c.in-Ok.sizes answer c.in-Ok.ensures.why c.in-Ok.ensures.sizes refused)

pub returns-in-Err-clause-err : goal.returns-in-Err-clause-err
returns-in-Err-clause-err g c =
    rw c.refused.ensures (refuses_checked (judge_by g.D.Domain.operations) c.args.command.now c.args.input.now c.args.state.now c.in-Err.status c.in-Err.ensures.why)
