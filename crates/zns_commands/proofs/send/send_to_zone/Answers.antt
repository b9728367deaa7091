use Rattle.std.proofs.Common.{ap, ◌∙◌}
use Rattle.image_store.specs.Namespace.{with_state}
use Rattle.common_definitions.specs.Checks.{first_failed}
use Rattle.zns_commands.specs.Resources.{closed}
use Rattle.zns_commands.specs.Send.{zone_checks}
use Rattle.zns_commands.specs.declared.send.ZonePlan.{ZonePlan}
use Rattle.zns_commands.specs.steps.Plans.{zone_plan}
use Rattle.common_definitions.proofs.Proved.{value_given}
use Rattle.zns_commands.proofs.send.send_to_zone.Goals as goal

pub returns-clause-ok : goal.returns-clause-ok
returns-clause-ok c =
    let ns = c.args.image.now in
    let plan = zone_plan ns c.args.holds.now c.args.lba c.args.action in
    let same = value_given (first_failed (zone_checks ns c.args.holds.now c.args.lba c.args.action)) plan c.in_ok-plan.plan c.in_ok-plan.ensures.value in
    c.carry_out.ensures ∙ ap (λ (p : ZonePlan). with_state (closed ns p.closing) p.zone p.to) same
