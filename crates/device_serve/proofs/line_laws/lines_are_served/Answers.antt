use Rattle.device_serve.proofs.LineRounds as rounds
use Rattle.device_serve.proofs.line_laws.lines_are_served.Goals as goal

pub returns : goal.returns
returns g c = rounds.lines_are_served g.S.Store.told g.S.Store.settled
