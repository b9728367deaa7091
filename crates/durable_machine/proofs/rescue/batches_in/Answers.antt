use Rattle.std.proofs.Common.{◌≡◌, ◌+◌, ◌-◌, length, subst, arith, ℕ}
use Rattle.durable_machine.proofs.Salvaging.{AreMore, nothing_yet, seen_next, all_found}
use Rattle.durable_machine.proofs.rescue.batches_in.Goals as goal

pub loop-more-init : goal.loop-more-init
loop-more-init c =
    let begin = c.args.begin in
    let bytes = c.args.bytes.now in
    let same : begin ≡ begin + (length bytes - length bytes) = omega arith in
    subst (λ (n : ℕ). AreMore begin n 0 bytes bytes) same (nothing_yet begin bytes)

pub loop-more-preserved : goal.loop-more-preserved
loop-more-preserved c =
    (seen_next c.args.begin _ c.loop-more.found c.loop-more.rest.now c.args.bytes.now c.loop-more.invariant c.in-Some.more c.in-Some.behind.now c.in-Some.ensures).0

pub loop-more-smaller : goal.loop-more-smaller
loop-more-smaller c =
    (seen_next c.args.begin _ c.loop-more.found c.loop-more.rest.now c.args.bytes.now c.loop-more.invariant c.in-Some.more c.in-Some.behind.now c.in-Some.ensures).1

pub returns : goal.returns
returns c = all_found c.args.begin _ c.loop-more.found c.loop-more.rest.now c.args.bytes.now c.loop-more.invariant c.in_default.ensures
