use Rattle.image_text.proofs.FaultPlaces.{faults_are_by_prefix}
use Rattle.image_text.proofs.laws.faults_are_by_prefix.Goals as goal

pub returns : goal.returns
returns c = faults_are_by_prefix
