-- What holds of the bytes of an active run.
use Rattle.std.specs.Prelude.{◌≤◌, length}
use Rattle.common_definitions.specs.Bytes.{AreBytes}
use Rattle.device_meaning.specs.BlockRuns.{AreScratch}
use Rattle.runner.specs.declared.active_run.ActiveRun.{ActiveRun}

pub record IsOfRun (a : ActiveRun) : Type 0 where
  pub scratch : AreScratch a.scratch
  pub pending : length a.packer.pending ≤ a.packer.block
  pub bytes : AreBytes a.packer.pending
