use Rattle.std.proofs.Common.{rules, ◌≡◌, ℕ, List, Ok, sym, arith}
use Rattle.zone_state.specs.Zone.{write_check}
use Rattle.zns_commands.specs.Address.{counted_zone_at}
use Rattle.zns_commands.proofs.GivenWay.{has_room}
use Rattle.zns_commands.proofs.WrittenZones.{written_within}
use Rattle.zns_commands.proofs.write.check_write.Goals as goal

pub returns-clause-can : goal.returns-clause-can
returns-clause-can c =
    let ns = c.args.image.now in
    let z = c.args.zone in
    let gives = c.in_ok-closing.closing in
    let has = has_room ns c.args.holds.now z gives c.geometry.ensures.sound c.requires (sym c.in_ok-closing.ensures) in
    let fits : write_check (counted_zone_at ns z) c.args.at c.args.blocks ≡ Ok tt = search rules in
    record {
      inside = c.requires;
      some = omega (arith, c.get.ensures.some, c.get.ensures.value);
      fits = fits;
      gives = has.give;
      limits = λ (bytes : List ℕ). written_within ns z c.args.at c.args.blocks gives bytes has fits;
    }
