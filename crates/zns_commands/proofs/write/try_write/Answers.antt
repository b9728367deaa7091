use Rattle.std.proofs.Common.{ap, ◌∙◌}
use Rattle.common_definitions.specs.Checks.{first_failed}
use Rattle.image_store.specs.declared.geometry.ZoneBlock.{ZoneBlock}
use Rattle.zns_commands.specs.Address.{zone_block_in}
use Rattle.zns_commands.specs.steps.Checks.{range_checks, zone_write_checks}
use Rattle.zns_commands.specs.declared.write.WritePlan.{WritePlan}
use Rattle.zns_commands.specs.steps.Plans.{write_plan, written_by}
use Rattle.common_definitions.proofs.Proved.{value_given}
use Rattle.zns_commands.proofs.write.try_write.Goals as goal

pub returns-clause-ok : goal.returns-clause-ok
returns-clause-ok c =
    let ns = c.args.image.now in
    let block = value_given (first_failed (range_checks ns c.args.lba c.args.blocks)) (zone_block_in ns c.args.lba) c.in_ok-block.block c.in_ok-block.ensures.value in
    let plan = value_given (first_failed (zone_write_checks ns c.args.holds.now c.in_ok-block.block.zone c.in_ok-block.block.offset c.args.blocks)) (write_plan ns c.args.holds.now c.in_ok-block.block.zone) c.in_ok-plan.plan c.in_ok-plan.ensures.value in
    c.put.ensures
    ∙ ap (λ (p : WritePlan). written_by ns p c.args.input.now) (plan ∙ ap (λ (p : ZoneBlock). write_plan ns c.args.holds.now p.zone) block)
