use Rattle.tcp_loop.proofs.Phasing.{tells}
use Rattle.tcp_loop.proofs.deeds.call_done.Goals as goal

pub returns-clause-keeps : goal.returns-clause-keeps
returns-clause-keeps g c = λ waiting clock. tells g.T.KeptTarget.means _ _ waiting clock c.call_done.ensures.same c.call_done.ensures.told
