use Rattle.std.proofs.Common.{◌≡◌, ◌∙◌, ap, ℕ, List, length, take, drop, arith, length-take}
use Rattle.durable_machine.proofs.Repairing.{part, cut_only, cut_long, renewed_only, synced_only, closed_only, on_disk, same_mixed, same_again, looser}
use Rattle.durable_machine.proofs.Sealing.{length-closed}
use Rattle.durable_machine.proofs.Steps.{is_repaired}
use Rattle.durable_machine.proofs.journal.repair.Goals as goal

pub returns-in_err-set_len-clause-any_moment : goal.returns-in_err-set_len-clause-any_moment
returns-in_err-set_len-clause-any_moment g c =
    cut_only c.args.at c.args.end _ c.args.gate.now c.requires.before c.requires.within c.requires.again (length c.args.gate.now) (same_mixed c.args.at c.args.end _ c.args.gate.now c.requires.before c.requires.within c.requires.again) (λ d is. is) _ c.requires.restarted _ c.set_len.ensures.crash c.set_len.ensures.time

pub returns-in_err-set_len-clause-kept : goal.returns-in_err-set_len-clause-kept
returns-in_err-set_len-clause-kept g c =
    λ kept. cut_only c.args.at c.args.end _ c.args.gate.now c.requires.before c.requires.within c.requires.again 0 (same_again c.args.at c.args.end _ c.args.gate.now c.requires.before c.requires.within c.requires.again) (looser c.args.at c.args.end _ c.args.gate.now c.requires.before c.requires.within c.requires.again) _ kept _ c.set_len.ensures.crash c.set_len.ensures.time

pub returns-in_err-renew-clause-any_moment : goal.returns-in_err-renew-clause-any_moment
returns-in_err-renew-clause-any_moment g c =
    renewed_only c.args.at c.args.end _ c.args.gate.now c.requires.before c.requires.within c.requires.again (length c.args.gate.now) (same_mixed c.args.at c.args.end _ c.args.gate.now c.requires.before c.requires.within c.requires.again) (λ d is. is) _ c.requires.restarted _ c.set_len.ensures.crash c.set_len.ensures.time _ c.renew.ensures.crash c.renew.ensures.time

pub returns-in_err-renew-clause-kept : goal.returns-in_err-renew-clause-kept
returns-in_err-renew-clause-kept g c =
    λ kept. renewed_only c.args.at c.args.end _ c.args.gate.now c.requires.before c.requires.within c.requires.again 0 (same_again c.args.at c.args.end _ c.args.gate.now c.requires.before c.requires.within c.requires.again) (looser c.args.at c.args.end _ c.args.gate.now c.requires.before c.requires.within c.requires.again) _ kept _ c.set_len.ensures.crash c.set_len.ensures.time _ c.renew.ensures.crash c.renew.ensures.time

pub returns-in_err-sync-clause-any_moment : goal.returns-in_err-sync-clause-any_moment
returns-in_err-sync-clause-any_moment g c =
    synced_only c.args.at c.args.end _ c.args.gate.now c.requires.before c.requires.within c.requires.again (length c.args.gate.now) (same_mixed c.args.at c.args.end _ c.args.gate.now c.requires.before c.requires.within c.requires.again) (λ d is. is) _ c.requires.restarted _ c.set_len.ensures.crash c.set_len.ensures.time _ c.renew.ensures.crash c.renew.ensures.time c.in_ok-set_len.ensures.synced c.in_ok-renew.ensures.synced _ c.sync.ensures.crash c.sync.ensures.time

pub returns-in_err-sync-clause-kept : goal.returns-in_err-sync-clause-kept
returns-in_err-sync-clause-kept g c =
    λ kept. synced_only c.args.at c.args.end _ c.args.gate.now c.requires.before c.requires.within c.requires.again 0 (same_again c.args.at c.args.end _ c.args.gate.now c.requires.before c.requires.within c.requires.again) (looser c.args.at c.args.end _ c.args.gate.now c.requires.before c.requires.within c.requires.again) _ kept _ c.set_len.ensures.crash c.set_len.ensures.time _ c.renew.ensures.crash c.renew.ensures.time c.in_ok-set_len.ensures.synced c.in_ok-renew.ensures.synced _ c.sync.ensures.crash c.sync.ensures.time

pub returns-clause-any_moment : goal.returns-clause-any_moment
returns-clause-any_moment g c =
    closed_only c.args.at c.args.end _ c.args.gate.now c.requires.before c.requires.within c.requires.again (length c.args.gate.now) (same_mixed c.args.at c.args.end _ c.args.gate.now c.requires.before c.requires.within c.requires.again) (λ d is. is) _ c.requires.restarted _ c.set_len.ensures.crash c.set_len.ensures.time _ c.renew.ensures.crash c.renew.ensures.time c.in_ok-set_len.ensures.synced c.in_ok-renew.ensures.synced _ c.sync.ensures.crash c.sync.ensures.time _ _ (ap length c.closed_sector.ensures ∙ length-closed) (c.sync.ensures.seen ∙ c.in_ok-renew.ensures.seen ∙ c.in_ok-set_len.ensures.cut) c.write_durably.ensures.any_moment

pub returns-in_err-write_durably-clause-any_moment : goal.returns-in_err-write_durably-clause-any_moment
returns-in_err-write_durably-clause-any_moment g c =
    closed_only c.args.at c.args.end _ c.args.gate.now c.requires.before c.requires.within c.requires.again (length c.args.gate.now) (same_mixed c.args.at c.args.end _ c.args.gate.now c.requires.before c.requires.within c.requires.again) (λ d is. is) _ c.requires.restarted _ c.set_len.ensures.crash c.set_len.ensures.time _ c.renew.ensures.crash c.renew.ensures.time c.in_ok-set_len.ensures.synced c.in_ok-renew.ensures.synced _ c.sync.ensures.crash c.sync.ensures.time _ _ (ap length c.closed_sector.ensures ∙ length-closed) (c.sync.ensures.seen ∙ c.in_ok-renew.ensures.seen ∙ c.in_ok-set_len.ensures.cut) c.write_durably.ensures.any_moment

pub returns-clause-kept : goal.returns-clause-kept
returns-clause-kept g c =
    λ kept. closed_only c.args.at c.args.end _ c.args.gate.now c.requires.before c.requires.within c.requires.again 0 (same_again c.args.at c.args.end _ c.args.gate.now c.requires.before c.requires.within c.requires.again) (looser c.args.at c.args.end _ c.args.gate.now c.requires.before c.requires.within c.requires.again) _ kept _ c.set_len.ensures.crash c.set_len.ensures.time _ c.renew.ensures.crash c.renew.ensures.time c.in_ok-set_len.ensures.synced c.in_ok-renew.ensures.synced _ c.sync.ensures.crash c.sync.ensures.time _ _ (ap length c.closed_sector.ensures ∙ length-closed) (c.sync.ensures.seen ∙ c.in_ok-renew.ensures.seen ∙ c.in_ok-set_len.ensures.cut) c.write_durably.ensures.any_moment

pub returns-in_err-write_durably-clause-kept : goal.returns-in_err-write_durably-clause-kept
returns-in_err-write_durably-clause-kept g c =
    λ kept. closed_only c.args.at c.args.end _ c.args.gate.now c.requires.before c.requires.within c.requires.again 0 (same_again c.args.at c.args.end _ c.args.gate.now c.requires.before c.requires.within c.requires.again) (looser c.args.at c.args.end _ c.args.gate.now c.requires.before c.requires.within c.requires.again) _ kept _ c.set_len.ensures.crash c.set_len.ensures.time _ c.renew.ensures.crash c.renew.ensures.time c.in_ok-set_len.ensures.synced c.in_ok-renew.ensures.synced _ c.sync.ensures.crash c.sync.ensures.time _ _ (ap length c.closed_sector.ensures ∙ length-closed) (c.sync.ensures.seen ∙ c.in_ok-renew.ensures.seen ∙ c.in_ok-set_len.ensures.cut) c.write_durably.ensures.any_moment

pub renew-requires-clause-within : goal.renew-requires-clause-within
renew-requires-clause-within g c =
    let size : length (take c.args.end (g.F.StoredFile.told c.args.file.now).seen) ≡ c.args.end = omega (arith, length-take c.args.end (g.F.StoredFile.told c.args.file.now).seen, c.requires.within) in
    omega (arith, c.requires.before, size, ap length c.in_ok-set_len.ensures.cut)

pub renew-requires-clause-again : goal.renew-requires-clause-again
renew-requires-clause-again g c =
    ap (λ (l : List ℕ). take (length c.args.gate.now) (drop c.args.at l)) c.in_ok-set_len.ensures.cut ∙ part c.args.at (length c.args.gate.now) c.args.end _ c.requires.before ∙ c.requires.again

pub renew-requires-clause-long : goal.renew-requires-clause-long
renew-requires-clause-long g c =
    cut_long c.args.at c.args.end _ c.args.gate.now c.requires.before c.requires.within c.requires.again (length c.args.gate.now) (same_mixed c.args.at c.args.end _ c.args.gate.now c.requires.before c.requires.within c.requires.again) (λ d is. is) _ c.requires.restarted _ c.set_len.ensures.crash c.set_len.ensures.time

pub write_durably-requires-clause-within : goal.write_durably-requires-clause-within
write_durably-requires-clause-within g c =
    let size : length (take c.args.end (g.F.StoredFile.told c.args.file.now).seen) ≡ c.args.end = omega (arith, length-take c.args.end (g.F.StoredFile.told c.args.file.now).seen, c.requires.within) in
    omega (arith, size, ap length (c.sync.ensures.seen ∙ c.in_ok-renew.ensures.seen ∙ c.in_ok-set_len.ensures.cut))

pub write_durably-requires-clause-durable : goal.write_durably-requires-clause-durable
write_durably-requires-clause-durable g c =
    on_disk c.args.at c.args.end _ c.args.gate.now c.requires.before c.requires.within c.requires.again (length c.args.gate.now) (same_mixed c.args.at c.args.end _ c.args.gate.now c.requires.before c.requires.within c.requires.again) (λ d is. is) _ c.requires.restarted _ c.set_len.ensures.crash c.set_len.ensures.time _ c.renew.ensures.crash c.renew.ensures.time c.in_ok-set_len.ensures.synced c.in_ok-renew.ensures.synced _ c.sync.ensures.crash c.sync.ensures.time (c.sync.ensures.seen ∙ c.in_ok-renew.ensures.seen ∙ c.in_ok-set_len.ensures.cut) c.in_ok-sync.ensures.durable c.sync.ensures.synced

pub returns-clause-settled : goal.returns-clause-settled
returns-clause-settled g c =
    λ front batches whole has. is_repaired front batches c.args.end _ (g.F.StoredFile.told c.sync.new.self) _ has c.closed_sector.result (c.sync.ensures.seen ∙ c.in_ok-renew.ensures.seen ∙ c.in_ok-set_len.ensures.cut) whole c.closed_sector.ensures
    c.in_ok-write_durably.ensures.written c.in_ok-write_durably.ensures.durable
