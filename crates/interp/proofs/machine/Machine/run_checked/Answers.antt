use Rattle.std.proofs.Common.{rules, arith, ◌∙◌}
use Rattle.interp.proofs.Running.{drop_later, ends, goes_on, runs_out, sticks}
use Rattle.interp.proofs.machine.Machine.run_checked.Goals as goal

pub steps-preserved : goal.steps-preserved
steps-preserved c = record {
  run = goes_on _ _ _ _ _ 0 _ _ _ c.steps-test.true c.in-Next.ensures.step_end c.steps.invariant.run;
  at = search rules;
  steps = search rules;
  same_scratch = search rules;
  same_stack = search rules;
  grows = omega (arith, c.advance.ensures.extends.grows, c.steps.invariant.grows);
  used = search rules;
  beyond = c.advance.ensures.extends.beyond ∙ drop_later _ _ _ _ c.advance.ensures.extends.grows c.steps.invariant.beyond;
}

pub returns-clause-run : goal.returns-clause-run
returns-clause-run c =
    runs_out _ _ _ _ _ _ _ _ c.steps.invariant.steps c.steps.auto.step-end c.steps-test.false c.steps.invariant.run

pub returns-in-Exit-clause-run : goal.returns-in-Exit-clause-run
returns-in-Exit-clause-run c =
    ends _ _ _ _ _ _ _ _ _ _ (search rules) c.steps-test.true c.in-Exit.ensures.step_end c.steps.invariant.run

pub returns-in-Exit-clause-beyond : goal.returns-in-Exit-clause-beyond
returns-in-Exit-clause-beyond c =
    c.advance.ensures.extends.beyond ∙ drop_later _ _ _ _ c.advance.ensures.extends.grows c.steps.invariant.beyond

pub returns-in-Trap-clause-run : goal.returns-in-Trap-clause-run
returns-in-Trap-clause-run c =
    sticks _ _ _ _ _ _ _ _ _ _ _ (search rules) c.steps-test.true c.in-Trap.ensures.step_end c.steps.invariant.run

pub returns-in-Trap-clause-beyond : goal.returns-in-Trap-clause-beyond
returns-in-Trap-clause-beyond c =
    c.advance.ensures.extends.beyond ∙ drop_later _ _ _ _ c.advance.ensures.extends.grows c.steps.invariant.beyond
