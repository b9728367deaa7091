use Rattle.std.proofs.Common.{◌≡◌, ◌∷◌, ◌≤◌, ◌-◌, length, take, drop, get_or, arith, ap, length-drop}
use Rattle.std.proofs.lemmas.List.{drop_more}
use Rattle.durable_machine.proofs.ReadFrames.{rest_of}
use Rattle.durable_machine.proofs.Lengths.{takes_closed, takes_none, takes_sealed}
use Rattle.durable_machine.proofs.pieces.batch_length.Goals as goal

pub returns-then-begins_closed : goal.returns-then-begins_closed
returns-then-begins_closed c = takes_closed c.args.front.now c.if-begins_closed.ensures

pub returns-then-payload : goal.returns-then-payload
returns-then-payload c =
    let front = c.args.front.now in
    let payload = take (length front - 4096) (drop 4096 front) in
    let long : 4117 ≤ length front = c.if-front.false in
    let first : payload ≡ get_or payload 0 0 ∷ drop 1 payload = drop_more payload 0 0 (omega (arith, long, ap length (rest_of 4096 front), length-drop 4096 front)) in
    let seal : get_or payload 0 0 ≡ 254 = c.if-payload.true in
    takes_sealed front payload long (rest_of 4096 front) (get_or payload 0 0) (drop 1 payload) first seal c.sealed_length.result c.sealed_length.ensures

pub returns : goal.returns
returns c =
    let front = c.args.front.now in
    let payload = take (length front - 4096) (drop 4096 front) in
    let long : 4117 ≤ length front = c.if-front.false in
    let first : payload ≡ get_or payload 0 0 ∷ drop 1 payload = drop_more payload 0 0 (omega (arith, long, ap length (rest_of 4096 front), length-drop 4096 front)) in
    takes_none front payload long (rest_of 4096 front) (get_or payload 0 0) (drop 1 payload) first c.if-payload.false c.if-payload-eq-EVENT.false
