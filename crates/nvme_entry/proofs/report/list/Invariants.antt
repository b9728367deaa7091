use Rattle.nvme_entry.proofs.Listings.{HasListed}
use Rattle.nvme_entry.proofs.report.list.Given as goal

abbrev pub invariant-loop-index : goal.invariant-loop-index
invariant-loop-index l = HasListed l.filter l.first l.size l.zones l.initial.output l.output l.index l.found l.at
