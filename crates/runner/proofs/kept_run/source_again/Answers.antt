use Rattle.std.proofs.Common.{◌≡◌, None, rules, arith}
use Rattle.image_store.specs.Geometry.{zone_block_of}
use Rattle.image_store.specs.Namespace.{shape}
use Rattle.runner.proofs.KeptRuns.{unwritten_outside}
use Rattle.runner.proofs.kept_run.source_again.Goals as goal

pub returns-in_default : goal.returns-in_default
returns-in_default c =
    let ns = c.args.namespace.now in
    let lba = c.args.command.now.lba in
    let none : None ≡ zone_block_of (shape ns) lba = search rules in
    unwritten_outside ns c.args.command.now c.geometry.ensures.sound.shape.size_some (omega arith) none
