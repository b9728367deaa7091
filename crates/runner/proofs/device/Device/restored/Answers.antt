use Rattle.std.proofs.Common.{arith, map}
use Rattle.device_meaning.specs.Judging.{judge_by}
use Rattle.kept_device.specs.Kept.{place_told, slot_told}
use Rattle.runner.proofs.RestoredDevices.{restored_is_reached}
use Rattle.runner.proofs.device.Device.restored.Goals as goal

pub begun-requires : goal.begun-requires
begun-requires g c = (
  omega arith,
  (
    omega arith,
    restored_is_reached (judge_by g.D.Domain.operations) c.domains_judge_soundly.ensures c.args.image (map slot_told c.args.programs.now)
        (map place_told c.args.runs.now) c.in-Some.state c.in_ok-state.ensures.sound (rw c.in-Some.is at c.in_ok-state.ensures.bytes)
        (rw c.in-Some.is at c.in_ok-state.ensures.restored),
  ),
)
