use Rattle.std.proofs.Common.{◌<◌, ◌≤◌, ◌+◌, length, subst, arith}
use Rattle.std.proofs.lemmas.Bool.Decides.{nat_tests}
use Rattle.emit_append.proofs.Proved.{lending_is_putting}
use Rattle.runner.specs.steps.Turning.{HasRoom}
use Rattle.runner.proofs.turn.put.Goals as goal

pub release-requires-clause-room : goal.release-requires-clause-room
release-requires-clause-room c =
    let ns = c.args.namespace.now in
    let packer = c.args.active.now.packer in
    let group = c.args.group.now in
    let full : packer.block < length packer.pending + length group = grind (arith, nat_tests, c.has_room.ensures.room, c.if-not-has_room.true) in
    let whole : length group ≤ packer.block = omega (arith, c.requires.whole, c.requires.block) in
    subst (HasRoom ns c.args.active.now.destination) ((lending_is_putting packer group c.has_room.ensures.fits whole).block full) c.requires.room
