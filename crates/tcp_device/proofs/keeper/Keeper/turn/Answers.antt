use Rattle.std.proofs.Common.{sym, ◌∙◌}
use Rattle.tcp_device.proofs.Deeds.{no_turn}
use Rattle.tcp_device.proofs.keeper.Keeper.turn.Goals as goal

pub returns-in-None-clause-done : goal.returns-in-None-clause-done
returns-in-None-clause-done g c = no_turn c.args.served.now (sym c.next_run.ensures.run ∙ c.in-None.is)
