use Rattle.device_serve.proofs.LineRounds as rounds
use Rattle.device_serve.proofs.line_laws.lines_stop.Goals as goal

pub returns : goal.returns
returns g c = rounds.lines_stop g.S.Store.told g.S.Store.settled
