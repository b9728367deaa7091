use Rattle.std.proofs.Common.{◌≡◌, ◌+◌, ◌*◌, ◌∙◌, ℕ, ap, true, rules}
use Rattle.nvme_entry.specs.Filter.{lists}
use Rattle.nvme_entry.proofs.Listings.{listed-next}
use Rattle.nvme_entry.proofs.report.list.Goals as goal

pub loop-index-preserved : goal.loop-index-preserved
loop-index-preserved c =
    let index = c.loop-index.index in
    let zone = c.index-zones-index.result in
    let put = c.put_descriptor-at.ensures in
    let tested : lists c.args.filter zone.state ≡ true = search rules in
    let lowest : c.lowest_lba-lowest.result ≡ (c.args.first + index) * c.args.size =
    c.lowest_lba-lowest.ensures.value ∙ ap (λ (n : ℕ). (n + index) * c.args.size) c.from.ensures in
    listed-next c.args.filter c.args.first c.args.size c.args.zones.now c.args.output.now c.loop-index.output c.put_descriptor-at.new.output index c.loop-index.found c.loop-index.at
    c.put_descriptor-at.result c.lowest_lba-lowest.result zone c.loop-index-test.true c.index-zones-index.is tested lowest put.inside put.same_length put.fits put.full c.loop-index.invariant
