use Rattle.nvme_entry.proofs.Agreeing.{only_named_fields_count}
use Rattle.nvme_entry.proofs.laws.only_named_fields_count.Goals as goal

pub returns : goal.returns
returns c = only_named_fields_count
