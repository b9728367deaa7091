use Rattle.std.proofs.Common.{rules, ℕ, ◌≤◌, ◌+◌, ◌-◌, length, refl, sym, subst, arith, length-append, ap}
use Rattle.durable_machine.specs.Replay.{IsIdleAt, IsIdleEvent}
use Rattle.durable_machine.proofs.Replaying.{none_done, one_more_done, last_within, fewer, all_done, idle_batch}
use Rattle.durable_machine.proofs.replay.replay_batches.Goals as goal

pub loop-place-init : goal.loop-place-init
loop-place-init g c = (none_done g.M.Machine.next c.args.begin c.args.bytes.now c.args.machine.now, omega arith)

pub loop-place-preserved : goal.loop-place-preserved
loop-place-preserved g c =
    let batch = c.in-Some.ensures in
    let rest = c.loop-place.rest.now in
    let so_far = c.loop-place.invariant.0 in
    let within : length rest ≤ length c.args.bytes.now = omega (arith, ap length so_far.parts, length-append so_far.frames rest) in
    let less = fewer g.M.Machine.next _ batch.0 c.in-Some.behind.now rest batch.2 in (
      one_more_done g.M.Machine.next c.args.begin _ c.args.bytes.now rest c.in-Some.behind.now batch.0 c.loop-place.last _ c.loop-place.count c.args.machine.now c.loop-place.machine c.apply_again.new.machine so_far batch.2
          (c.in-Ok.ensures.again batch.0 batch.2.is.sized batch.1) (omega (arith, within)) refl,
      omega (arith, c.loop-place.invariant.1, less),
    )

pub loop-place-smaller : goal.loop-place-smaller
loop-place-smaller g c = fewer g.M.Machine.next _ c.in-Some.ensures.0 c.in-Some.behind.now c.loop-place.rest.now c.in-Some.ensures.2

pub returns-clause-done : goal.returns-clause-done
returns-clause-done g c =
    let rest = c.loop-place.rest.now in
    let so_far = c.loop-place.invariant.0 in
    let within : length rest ≤ length c.args.bytes.now = omega (arith, ap length so_far.parts, length-append so_far.frames rest) in
    all_done g.M.Machine.next c.args.begin _ c.args.bytes.now rest _ c.loop-place.last c.loop-place.count c.args.machine.now c.loop-place.machine so_far c.in_default.ensures (omega (arith, within)) refl

pub returns-clause-within : goal.returns-clause-within
returns-clause-within g c =
    let rest = c.loop-place.rest.now in
    let so_far = c.loop-place.invariant.0 in
    let within : length rest ≤ length c.args.bytes.now = omega (arith, ap length so_far.parts, length-append so_far.frames rest) in
    let last = last_within g.M.Machine.next c.args.begin c.args.bytes.now rest c.loop-place.last c.loop-place.count c.args.machine.now c.loop-place.machine so_far in
    (omega (arith, within), omega (arith, within, last))

pub returns-in-Err-Idle-clause-halts : goal.returns-in-Err-Idle-clause-halts
returns-in-Err-Idle-clause-halts g c =
    let batch = c.in-Some.ensures in
    let rest = c.loop-place.rest.now in
    let so_far = c.loop-place.invariant.0 in
    let within : length rest ≤ length c.args.bytes.now = omega (arith, ap length so_far.parts, length-append so_far.frames rest) in
    let halts : IsIdleEvent g.M.Machine.next c.in-Err-Idle.event c.in-Some.events.now c.loop-place.machine × (c.in-Err-Idle.event ≤ length c.in-Some.events.now) = search rules in
    let bytes = c.args.bytes.now in
    subst (λ (n : ℕ). IsIdleAt g.M.Machine.next c.args.begin (length bytes - length rest + c.in-Some.place + n) bytes c.args.machine.now × (length bytes - length rest + c.in-Some.place + n ≤ length bytes)) (sym c.in-Err-Idle.event-is)
    (idle_batch g.M.Machine.next c.args.begin _ c.args.bytes.now rest c.in-Some.events.now c.in-Some.behind.now batch.0 c.loop-place.last c.loop-place.count (length c.args.bytes.now - length rest) c.in-Some.place c.in-Err-Idle.event c.args.machine.now c.loop-place.machine
    so_far batch.1 batch.2 batch.3 halts (omega (arith, within)) refl)
