use Rattle.emit_append.proofs.Continuing.{packing_goes_on}
use Rattle.emit_append.proofs.laws.packing_goes_on.Goals as goal

pub returns : goal.returns
returns c = packing_goes_on
