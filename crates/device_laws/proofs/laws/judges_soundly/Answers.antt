use Rattle.device_laws.proofs.Reached.{sound, spelled}
use Rattle.device_laws.proofs.laws.judges_soundly.Goals as goal

pub returns : goal.returns
returns c = record { safe = sound; spelled = spelled }
