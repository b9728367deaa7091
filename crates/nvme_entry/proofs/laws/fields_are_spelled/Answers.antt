use Rattle.nvme_entry.proofs.Spelled.{fields_are_spelled}
use Rattle.nvme_entry.proofs.laws.fields_are_spelled.Goals as goal

pub returns : goal.returns
returns c = fields_are_spelled
