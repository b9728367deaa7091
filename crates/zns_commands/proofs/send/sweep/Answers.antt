use Rattle.std.proofs.Common.{◌+◌, ◌<◌, length, ap, sym, subst, ◌∙◌, arith}
use Rattle.image_store.specs.Namespace.{ZonedNamespace, zone_at, with_zone, IsWithinLimits}
use Rattle.zns_commands.specs.Send.{swept}
use Rattle.zns_commands.proofs.Sweeps.{sweep_step}
use Rattle.zns_commands.proofs.SweptZones.{swept_below_within}
use Rattle.zns_commands.proofs.send.sweep.Goals as goal

pub loop-zone-preserved : goal.loop-zone-preserved
loop-zone-preserved c =
    let z = c.loop-zone.zone in
    let inside : z < length c.args.image.now.zones = omega arith in
    record {
      swept = c.sweep_zone.ensures
          ∙ (ap (λ (m : ZonedNamespace). with_zone m z (swept c.args.action (zone_at m z))) c.loop-zone.invariant.swept
          ∙ sweep_step c.args.image.now c.args.action z inside);
      count = c.loop-zone.invariant.count;
    }

pub sweep_zone-requires-clause-limits : goal.sweep_zone-requires-clause-limits
sweep_zone-requires-clause-limits c =
    let ns = c.args.image.now in
    let a = c.args.action in
    let z = c.loop-zone.zone in
    let inside : z < length ns.zones = omega arith in
    subst (λ (m : ZonedNamespace). IsWithinLimits (with_zone m z (swept a (zone_at m z)))) (sym c.loop-zone.invariant.swept)
    (subst IsWithinLimits (sym (sweep_step ns a z inside)) (swept_below_within ns a (z + 1) c.geometry.ensures.sound.within c.requires))
