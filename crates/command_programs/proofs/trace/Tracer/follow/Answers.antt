use Rattle.std.proofs.Common.{length, arith, rules}
use Rattle.std.proofs.lemmas.Result.{on_ok_weaker}
use Rattle.interp.specs.Machine.{machine_state, steps_of}
use Rattle.command_programs.specs.Traced.{trace_lines}
use Rattle.command_programs.proofs.Tracing.{exit_printed, fuel_printed, step_printed, trap_printed}
use Rattle.command_programs.proofs.trace.Tracer.follow.Goals as goal

pub loop-step-preserved : goal.loop-step-preserved
loop-step-preserved g c =
    let contents = g.O.Write.contents in
    let whole = trace_lines c.args.self.now.program.now (length c.args.group.now) c.args.fuel (machine_state c.args.machine.now c.args.group.now) in
    record {
      at = c.in-Next.ensures.at;
      steps = omega (arith, c.in-Next.ensures.steps, c.loop-step.invariant.steps);
      used = c.in-Next.ensures.used;
      printed = λ quiet.
          step_printed c.args.self.now.program.now (length c.args.group.now) c.args.fuel c.loop-step._step (steps_of c.loop-step.machine)
          (machine_state c.loop-step.machine c.loop-step.group) whole (contents c.args.out.now) (contents c.loop-step.out) c.loop-step-test.true
          (c.loop-step.invariant.printed quiet) (steps_of c.step.new.self) c.slot-slot.result (machine_state c.step.new.self c.step.new.group)
          (contents c.print_step.new.out) c.in-Next.ensures.steps c.slot-slot.ensures c.in-Next.ensures.step_end (c.in_ok-print_step-in-Next.ensures quiet);
    }

pub returns-in-Exit : goal.returns-in-Exit
returns-in-Exit g c =
    let contents = g.O.Write.contents in
    let whole = trace_lines c.args.self.now.program.now (length c.args.group.now) c.args.fuel (machine_state c.args.machine.now c.args.group.now) in
    on_ok_weaker c.print_exit.result (λ end quiet.
    exit_printed c.args.self.now.program.now (length c.args.group.now) c.args.fuel c.loop-step._step (steps_of c.loop-step.machine)
    (machine_state c.loop-step.machine c.loop-step.group) whole (contents c.args.out.now) (contents c.loop-step.out) c.loop-step-test.true
    (c.loop-step.invariant.printed quiet) c.steps.result c.slot-slot.result c.in-Exit.r0 (machine_state c.step.new.self c.step.new.group) _
    (contents c.print_step-in-Exit.new.out) (contents c.print_exit.new.out) (search rules) c.slot-slot.ensures (search rules)
    c.in-Exit.ensures.step_end (c.in_ok-print_step-in-Exit.ensures quiet) end) c.print_exit.ensures

pub returns-in-Trap : goal.returns-in-Trap
returns-in-Trap g c =
    let contents = g.O.Write.contents in
    let whole = trace_lines c.args.self.now.program.now (length c.args.group.now) c.args.fuel (machine_state c.args.machine.now c.args.group.now) in
    on_ok_weaker c.print_trap.result (λ end quiet.
    trap_printed c.args.self.now.program.now (length c.args.group.now) c.args.fuel c.loop-step._step (steps_of c.loop-step.machine)
    (machine_state c.loop-step.machine c.loop-step.group) whole (contents c.args.out.now) (contents c.loop-step.out) c.loop-step-test.true
    (c.loop-step.invariant.printed quiet) c.in-Trap.slot c.in-Trap.cause (machine_state c.step.new.self c.step.new.group)
    (contents c.print_trap.new.out) c.in-Trap.ensures.step_end (end quiet)) c.print_trap.ensures

pub returns : goal.returns
returns g c =
    let contents = g.O.Write.contents in
    let whole = trace_lines c.args.self.now.program.now (length c.args.group.now) c.args.fuel (machine_state c.args.machine.now c.args.group.now) in
    on_ok_weaker c.print.result (λ end quiet.
    fuel_printed c.args.self.now.program.now (length c.args.group.now) c.args.fuel c.loop-step._step (steps_of c.loop-step.machine)
    (machine_state c.loop-step.machine c.loop-step.group) whole (contents c.args.out.now) (contents c.loop-step.out) (contents c.print.new.out)
    c.loop-step.auto._step-end c.loop-step-test.false (c.loop-step.invariant.printed quiet) end) c.print.ensures.printed
