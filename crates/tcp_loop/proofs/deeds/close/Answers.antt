use Rattle.tcp_loop.proofs.Holding.{closes}
use Rattle.tcp_loop.proofs.deeds.close.Goals as goal

pub returns-clause-made : goal.returns-clause-made
returns-clause-made g c = λ waiting clock carried came answer.
    closes g.T.KeptTarget.means c.args.number _ _ waiting clock carried came answer c.close.ensures.done c.close.ensures.file
