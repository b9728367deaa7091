use Rattle.std.proofs.Common.{◌≡◌, ◌+◌, true, false, ⊎_elim, arith, get_or, sym, take}
use Rattle.std.proofs.lemmas.Grind.{common_steps}
use Rattle.std.proofs.lemmas.Bool.{cases_Bool}
use Rattle.std.proofs.lemmas.List.Sums.{count_by-le-length, count_by_more_no, count_by_more_yes}
use Rattle.command_explain.specs.steps.Submissions.{same_identity}
use Rattle.command_explain.proofs.Identities.{are_equal, itself, swapped}
use Rattle.command_explain.proofs.uses.tally.Goals as goal

pub overflow_add-counts : goal.overflow_add-counts
overflow_add-counts c =
    let key = get_or c.args.all.now c.loop-identity.identity-index (record { queue = 0; cid = 0 }) in
    grind (arith, common_steps, count_by-le-length (same_identity key) (take c.loop-identity.identity-index c.args.all.now), c.loop-identity.invariant key)

pub loop-identity-preserved : goal.loop-identity-preserved
loop-identity-preserved c = λ q.
    let key = get_or c.args.all.now c.loop-identity.identity-index (record { queue = 0; cid = 0 }) in
    let update = c.in_ok-counts.ensures.update.0 (c.or_insert.result.now + 1) in
    ⊎_elim
    (λ (same : same_identity key q ≡ true). rw (sym (are_equal key q same)) (grind (arith, common_steps, count_by_more_yes, itself key, c.loop-identity.invariant key)))
    (λ (other : same_identity key q ≡ false). grind (arith, common_steps, count_by_more_no, swapped q key, other, update.2 q other, c.loop-identity.invariant q))
    (cases_Bool (same_identity key q))
