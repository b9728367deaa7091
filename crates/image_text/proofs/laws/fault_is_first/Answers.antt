use Rattle.image_text.proofs.FirstFaults.{fault_is_first}
use Rattle.image_text.proofs.laws.fault_is_first.Goals as goal

pub returns : goal.returns
returns c = fault_is_first
