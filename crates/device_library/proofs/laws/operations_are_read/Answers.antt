use Rattle.device_library.proofs.ReadBack.{operation_read}
use Rattle.device_library.proofs.laws.operations_are_read.Goals as goal

pub returns : goal.returns
returns c = operation_read
