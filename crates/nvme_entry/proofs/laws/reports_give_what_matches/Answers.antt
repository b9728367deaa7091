use Rattle.nvme_entry.proofs.Reports.{reports_give_what_matches}
use Rattle.nvme_entry.proofs.laws.reports_give_what_matches.Goals as goal

pub returns : goal.returns
returns c = reports_give_what_matches
