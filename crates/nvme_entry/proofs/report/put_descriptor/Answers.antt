use Rattle.std.proofs.Common.{refl}
use Rattle.nvme_entry.specs.Report.{descriptor}
use Rattle.nvme_entry.proofs.Listings.{length-descriptor}
use Rattle.nvme_entry.proofs.Writes.{piece-put}
use Rattle.nvme_entry.proofs.report.put_descriptor.Goals as goal

pub returns-clause-fits : goal.returns-clause-fits
returns-clause-fits c =
    let zone = c.args.zone in
    let lowest = c.args.lowest in
    λ _. (refl, piece-put c.args.output.now c.write_descriptor.new.output _ (descriptor zone lowest) _ c.args.at c.requires.inside (length-descriptor zone lowest) c.write_descriptor.ensures)
