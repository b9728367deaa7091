use Rattle.std.proofs.Common.{◌++◌, ◌∙◌, List, ℕ, ap, drop, length, take}
use Rattle.nvme_entry.proofs.Listings.{length-header}
use Rattle.nvme_entry.proofs.Writes.{header-put}
use Rattle.nvme_entry.proofs.report.write_header.Goals as goal

pub returns : goal.returns
returns c =
    let output = c.args.output.now in
    let size = ap (λ (ys : List ℕ). length ys) c.header.ensures ∙ length-header c.args.number in
    header-put output c.header.result c.put_front.new.output c.min-length.result size c.min-length.ensures c.put_front.ensures
    ∙ ap (λ (ys : List ℕ). take (length output) ys ++ drop 64 output) c.header.ensures
