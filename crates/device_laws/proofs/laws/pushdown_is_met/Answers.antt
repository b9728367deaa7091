use Rattle.device_laws.proofs.Witness as witness
use Rattle.device_laws.proofs.laws.pushdown_is_met.Goals as goal

pub returns : goal.returns
returns c = witness.pushdown_is_met
