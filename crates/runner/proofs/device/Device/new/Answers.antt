use Rattle.std.proofs.Common.{arith, sym, subst}
use Rattle.device_meaning.specs.Judging.{judge_by}
use Rattle.device_meaning.specs.Reached.{IsReached}
use Rattle.device_meaning.proofs.Proved.{new_is_reached}
use Rattle.runner.proofs.device.Device.new.Goals as goal

pub begun-requires : goal.begun-requires
begun-requires g c =
    let judge = judge_by g.D.Domain.operations in (
      omega arith,
      (omega arith, subst (IsReached judge) (sym c.new-state.ensures.value) (new_is_reached judge _ c.new-state.ensures.sound)),
    )
