use Rattle.std.proofs.Common.{rules}
use Rattle.program_meaning.proofs.Proved.{start_is_state}
use Rattle.interp.proofs.machine.Machine.new.Goals as goal

pub returns-clause-new : goal.returns-clause-new
returns-clause-new c = record {
  state = search rules;
  is_state = start_is_state c.args.block.now c.args.context.now c.args.scratch.now (search rules) (search rules) (search rules) (search rules) (search rules) (search rules);
  steps = search rules;
  group_length = search rules;
}
