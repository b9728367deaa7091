use Rattle.std.proofs.Common.{rules}
use Rattle.device_library.proofs.Mapped.{take_least}
use Rattle.device_library.proofs.answered.first_of.Goals as goal

pub returns-clause-bytes : goal.returns-clause-bytes
returns-clause-bytes c = take_least 65536 c.min.result c.args.bytes.now (search rules)
