use Rattle.std.proofs.Common.{◌≡◌, None, rules}
use Rattle.image_store.specs.Geometry.{zone_block_of}
use Rattle.image_store.specs.Namespace.{shape}
use Rattle.runner.proofs.KeptRuns.{unopened_outside}
use Rattle.runner.proofs.kept_run.destination_again.Goals as goal

pub returns-in_default : goal.returns-in_default
returns-in_default c =
    let ns = c.args.namespace.now in
    let lba = c.args.command.now.destination in
    let none : None ≡ zone_block_of (shape ns) lba = search rules in
    unopened_outside ns lba c.geometry.ensures.sound.shape.size_some c.geometry.ensures.sound.shape.capacity_some none
