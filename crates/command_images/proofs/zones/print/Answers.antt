use Rattle.std.proofs.Common.{ℕ, List, ◌<◌, ◌++◌, length, take, ap, sym, subst, ◌∙◌, arith}
use Rattle.std.specs.Io.KnownBytes.{Appends}
use Rattle.std.proofs.KnownBytes.{Appends-trans}
use Rattle.command_images.specs.Zones.{zone_line, zone_lines_from}
use Rattle.command_images.proofs.Listing.{one_line_more}
use Rattle.command_images.proofs.zones.print.Goals as goal

pub loop-number-preserved : goal.loop-number-preserved
loop-number-preserved g c =
    let contents = g.O.Write.contents in
    let zones = c.args.zones.now in
    let number = c.loop-number.number in
    let zone = c.index-zones-number.result in
    let lt : number < length zones = omega arith in
    let before = zone_lines_from 0 (take number zones) in
    subst (λ (t : List ℕ). Appends (contents c.args.out.now) (contents c.print_zone.new.out) t)
    (sym (one_line_more zones number zone lt ∙ ap (λ z. before ++ zone_line number z) (sym c.index-zones-number.is)))
    (Appends-trans (contents c.args.out.now) (contents c.loop-number.out) (contents c.print_zone.new.out) before (zone_line number zone)
    c.loop-number.invariant c.in_ok-print_zone.ensures)
