use Rattle.std.proofs.Common.{◌++◌, ◌∙◌, List, ℕ, ap, drop, length}
use Rattle.nvme_entry.specs.Descriptor.{descriptor_bytes}
use Rattle.nvme_entry.specs.Report.{descriptor}
use Rattle.nvme_entry.proofs.report.write_descriptor.Goals as goal

pub returns : goal.returns
unfolding descriptor
returns c = c.put_front.ensures ∙ ap (λ (ys : List ℕ). ys ++ drop (length ys) c.args.output.now) (c.encode.ensures ∙ ap descriptor_bytes c.of.ensures)
