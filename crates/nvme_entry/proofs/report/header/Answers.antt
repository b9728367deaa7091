use Rattle.nvme_entry.specs.Report.{report_header}
use Rattle.nvme_entry.proofs.report.header.Goals as goal

pub returns : goal.returns
unfolding report_header
returns c = c.write_u64.ensures
