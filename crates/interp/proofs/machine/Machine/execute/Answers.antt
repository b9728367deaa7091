use Rattle.std.proofs.Common.{sym}
use Rattle.interp.proofs.Stepping.{goes, stuck}
use Rattle.interp.specs.Machine.{state_at}
use Rattle.interp.proofs.machine.Machine.execute.Goals as goal

pub returns-in-Ok-perform-clause-step_end : goal.returns-in-Ok-perform-clause-step_end
returns-in-Ok-perform-clause-step_end c =
    let program = c.args.program.now in
    let slot = c.args.slot in
    let s = state_at c.args.self.now slot c.args.group.now in
    goes program c.args.limit s c.args.instruction.now (sym c.if-is_exit.ensures) c.in-Ok.next
    (state_at c.perform.new.self slot c.perform.new.group) c.in-Ok.ensures.value
    (c.in-Ok-perform.ensures.value slot) (c.in-Ok-perform.ensures.state slot)

pub returns-in-Err-perform-clause-step_end : goal.returns-in-Err-perform-clause-step_end
returns-in-Err-perform-clause-step_end c =
    let program = c.args.program.now in
    let slot = c.args.slot in
    let s = state_at c.args.self.now slot c.args.group.now in
    stuck program c.args.limit s c.args.instruction.now (sym c.if-is_exit.ensures) c.in-Ok.next
    (state_at c.perform.new.self slot c.perform.new.group) c.in-Err-perform.cause c.in-Ok.ensures.value
    (c.in-Err-perform.ensures.value slot) (c.in-Err-perform.ensures.state slot)
