use Rattle.std.proofs.Common.{◌≡◌, ◌<◌, ap, length, sym, subst, ◌∙◌, arith}
use Rattle.zone_state.specs.Zone.{CountedZone, state_of_fault}
use Rattle.zone_state.specs.declared.state.ZoneState.{ZoneState}
use Rattle.image_store.specs.Geometry.{Shape}
use Rattle.image_store.specs.Namespace.{IsWithinLimits, with_state}
use Rattle.zns_commands.proofs.MovedZones.{lost_sound}
use Rattle.zns_commands.proofs.fault.fault.Goals as goal

pub set_state-requires-clause-allowed : goal.set_state-requires-clause-allowed
set_state-requires-clause-allowed c =
    let ns = c.args.image.now in
    let inside : c.args.zone < length ns.zones = omega (arith, ap (λ (s : Shape). s.zones) c.geometry.ensures.value) in
    let to : c.state.result ≡ state_of_fault c.args.state = c.state.ensures ∙ ap (λ (r : CountedZone). r.state) c.in_ok-fault.ensures.ok in
    subst (λ (s : ZoneState). IsWithinLimits (with_state ns c.args.zone s)) (sym to)
    (lost_sound ns c.args.zone c.args.state c.geometry.ensures.sound inside).within
