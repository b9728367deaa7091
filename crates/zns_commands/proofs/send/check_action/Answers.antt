use Rattle.std.proofs.Common.{◌≡◌, ℕ, false, Ok, ap, sym, ◌∙◌}
use Rattle.zone_state.specs.Transition.{transition}
use Rattle.zone_state.specs.Zone.{CountedZone}
use Rattle.zone_state.specs.declared.state.ZoneState.{ZoneState}
use Rattle.zone_resources.specs.Holds.{refuses}
use Rattle.common_definitions.specs.Checks.{first_failed}
use Rattle.common_definitions.proofs.Proved.{value_given}
use Rattle.image_store.specs.Namespace.{zone_at}
use Rattle.zns_commands.specs.Address.{zone_number}
use Rattle.zns_commands.specs.Send.{room_of, zone_checks}
use Rattle.zns_commands.specs.steps.Accepted.{CanMove}
use Rattle.zns_commands.specs.steps.Checks.{address_check, lowest_check, lowest_checks}
use Rattle.zns_commands.specs.declared.send.ZonePlan.{ZonePlan}
use Rattle.zns_commands.specs.steps.Plans.{zone_plan}
use Rattle.zns_commands.proofs.AcceptedActions.{zone_checked, if_allowed, can_move}
use Rattle.zns_commands.proofs.send.check_action.Goals as goal

pub returns-clause-value : goal.returns-clause-value
returns-clause-value c =
    let ns = c.args.image.now in
    let holds = c.args.holds.now in
    let lba = c.args.lba in
    let a = c.args.action in
    let z = zone_number ns lba in
    let from = (zone_at ns z).state in
    let zone = c.in_ok-zone.zone in
    let same : zone ≡ z = value_given (first_failed (lowest_checks ns lba)) z zone c.in_ok-zone.ensures.value in
    let free : refuses holds a z ≡ false = ap (λ (n : ℕ). refuses holds a n) (sym same) ∙ (sym c.refuses.ensures ∙ c.if-refuses.false) in
    let state : c.zone.result.state ≡ from = ap (λ (r : CountedZone). r.state) c.zone.ensures ∙ ap (λ (n : ℕ). (zone_at ns n).state) same in
    zone_checked (address_check ns lba) (lowest_check ns lba) (refuses holds a z) (transition a from) (room_of ns holds a from) from z
    zone c.in_ok-to.to c.in_ok-closing.closing c.in_ok-zone.ensures.value free
    (c.in_ok-to.ensures.state ∙ ap (λ (s : ZoneState). transition a s) state)
    (c.in_ok-closing.ensures ∙ ap (λ (n : ℕ). room_of ns holds a (zone_at ns n).state) same)

pub returns-clause-can : goal.returns-clause-can
returns-clause-can c =
    let ns = c.args.image.now in
    let holds = c.args.holds.now in
    let plan : ZonePlan = record { zone = c.in_ok-zone.zone; to = c.in_ok-to.to; closing = c.in_ok-closing.closing } in
    if_allowed (CanMove ns) (first_failed (zone_checks ns holds c.args.lba c.args.action)) (zone_plan ns holds c.args.lba c.args.action) (Ok plan)
    (returns-clause-value c) (can_move ns holds c.args.lba c.args.action c.geometry.ensures.sound)
