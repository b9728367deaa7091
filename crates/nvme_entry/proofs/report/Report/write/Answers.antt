use Rattle.std.proofs.Common.{◌≡◌, ◌-◌, ◌/◌, ◌∙◌, ℕ, List, ap, cond, drop, length, min, refl, take}
use Rattle.std.specs.List.{enumerate_from}
use Rattle.std.proofs.lemmas.List.{length-drop, take_rest}
use Rattle.zone_state.specs.Zone.{CountedZone}
use Rattle.nvme_entry.specs.Report.{listed, matching, listed_zones}
use Rattle.nvme_entry.proofs.Reports.{report-written}
use Rattle.nvme_entry.proofs.Writes.{listed-put}
use Rattle.nvme_entry.proofs.report.Report.write.Goals as goal

pub returns : goal.returns
returns c =
    let self = c.args.self.now in
    let output = c.args.output.now in
    let start = c.min-start.result in
    let room = (length output - start) / 64 in
    let found = matching self.zones.now self.first self.filter in
    let list = c.list-found.ensures in
    let zones = c.zones_from-zones.ensures.value in
    let count : c.list-found.result ≡ length found = list.number ∙ ap (λ (zs : List CountedZone). length (listed_zones self.filter (enumerate_from self.first zs))) zones in
    let part = take (length output - start) (drop start output) in
    let room_is = ap (λ (ys : List ℕ). length ys) (take_rest output start) ∙ length-drop start output in
    let bytes = list.bytes ∙ ap (λ (zs : List CountedZone). listed self.size (length part) (listed_zones self.filter (enumerate_from self.first zs))) zones in
    let second = listed-put output c.list-found.new.output start _ self.size found bytes room_is in
    report-written output _ c.write_header.new.output self.zones.now self.first self.size self.filter self.partial start room c.number_told.result c.min-start.ensures refl second
    (c.number_told.ensures ∙ ap (λ (k : ℕ). cond self.partial (min room k) k) count) c.write_header.ensures
