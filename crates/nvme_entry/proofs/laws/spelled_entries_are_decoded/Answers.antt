use Rattle.nvme_entry.proofs.Spelled.{spelled_entries_are_decoded}
use Rattle.nvme_entry.proofs.laws.spelled_entries_are_decoded.Goals as goal

pub returns : goal.returns
returns c = spelled_entries_are_decoded
