use Rattle.std.proofs.Common.{◌≢◌, ◌≤◌, ◌+◌, inl, inr, arith}
use Rattle.std.specs.Prelude.{◌⊎◌}
use Rattle.runner.proofs.Turns.{ends_there, goes, room_for_finish, room_for_put}
use Rattle.runner.proofs.turn.advance.Goals.{else-exit-eq0-via-then-exit-eq0+else-active-get, else-exit-eq0-via-else-exit-eq0}
use Rattle.runner.proofs.turn.advance.Goals as goal

pub put-requires-clause-room : goal.put-requires-clause-room
put-requires-clause-room g c =
    room_for_put c.args.namespace.now (g.V.TrapFree.code c.args.prepared.now) (g.V.TrapFree.limit c.args.prepared.now) c.args.active.now c.requires.fits
    c.run_next-exit.new.active c.run_next-exit.result _ c.run_next-exit.ensures.next

pub returns-then-active-get-clause-turn : goal.returns-then-active-get-clause-turn
returns-then-active-get-clause-turn g c =
    goes c.args.namespace.now (g.V.TrapFree.code c.args.prepared.now) (g.V.TrapFree.limit c.args.prepared.now) c.args.active.now c.requires.fits
    c.run_next-exit.new.active c.run_next-exit.result _ c.run_next-exit.ensures.next
    c.put.new.namespace c.put.new.active c.put.ensures.namespace c.put.ensures.active
    c.put.ensures.begun c.if-exit-eq0.true (omega (arith, c.get.ensures.value, c.if-active-get.true))

pub finish-requires-clause-room : goal.finish-requires-clause-room
finish-requires-clause-room g c =
    let over : (c.run_next-exit.result.r0 ≢ 0) ⊎ (c.put.new.active.command.blocks ≤ c.put.new.active.index + 1) = elim c.else-exit-eq0.branch [
      | else-exit-eq0-via-then-exit-eq0+else-active-get w ↦ inr (omega (arith, w.get.ensures.value, w.if-active-get.false))
      | else-exit-eq0-via-else-exit-eq0 w ↦ inl w.if-exit-eq0.false
    ] in
    room_for_finish c.args.namespace.now (g.V.TrapFree.code c.args.prepared.now) (g.V.TrapFree.limit c.args.prepared.now) c.args.active.now c.requires.fits
    c.run_next-exit.new.active c.run_next-exit.result _ c.run_next-exit.ensures.next
    c.put.new.namespace c.put.new.active c.put.ensures.namespace c.put.ensures.active over

pub returns-clause-turn : goal.returns-clause-turn
returns-clause-turn g c =
    let over : (c.run_next-exit.result.r0 ≢ 0) ⊎ (c.put.new.active.command.blocks ≤ c.put.new.active.index + 1) = elim c.else-exit-eq0.branch [
      | else-exit-eq0-via-then-exit-eq0+else-active-get w ↦ inr (omega (arith, w.get.ensures.value, w.if-active-get.false))
      | else-exit-eq0-via-else-exit-eq0 w ↦ inl w.if-exit-eq0.false
    ] in
    ends_there c.args.namespace.now (g.V.TrapFree.code c.args.prepared.now) (g.V.TrapFree.limit c.args.prepared.now) c.args.active.now c.requires.fits
    c.run_next-exit.new.active c.run_next-exit.result _ c.run_next-exit.ensures.next
    c.put.new.namespace c.put.new.active c.put.ensures.namespace c.put.ensures.active over
    c.finish.new.namespace c.finish.new.active c.finish.ensures.namespace c.finish.ensures.active
