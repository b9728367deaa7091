use Rattle.std.proofs.Common.{rules, ◌≡◌, ◌+◌, ℕ, List, length, sym, subst, ap, arith}
use Rattle.stored_file.specs.File.{IsWhole}
use Rattle.durable_machine.specs.Staging.{IsPayload}
use Rattle.durable_machine.proofs.Steps.{gate_whole}
use Rattle.durable_machine.proofs.Staged.{room_after, stage_begun, stage_written, is_staged}
use Rattle.durable_machine.proofs.journal.Journal.stage.Goals as goal

pub returns-in_err-seal-clause-any_moment : goal.returns-in_err-seal-clause-any_moment
returns-in_err-seal-clause-any_moment g c = λ front before rests. stage_begun front before c.args.self.now.gate _ rests

pub write_durably-requires-clause-within : goal.write_durably-requires-clause-within
write_durably-requires-clause-within g c =
    omega (arith, room_after c.requires.settled.front c.requires.settled.batches c.args.self.now.gate _ c.requires.settled.rests)

pub write_durably-requires-clause-whole : goal.write_durably-requires-clause-whole
write_durably-requires-clause-whole g c =
    let gate = gate_whole c.requires.settled.front c.requires.settled.batches c.args.self.now.gate _ c.requires.settled.rests in
    let size : IsWhole (length c.deref.result.now) = subst (λ (l : List ℕ). IsWhole (length l)) (sym c.deref.ensures.value) c.in_ok-seal.ensures.whole in
    (omega (arith, gate), size)

pub returns-in_err-write_durably-clause-any_moment : goal.returns-in_err-write_durably-clause-any_moment
returns-in_err-write_durably-clause-any_moment g c = λ front before rests.
    stage_written front before c.args.self.now.gate _ rests (length c.deref.result.now) _ c.write_durably.ensures.any_moment

pub returns-clause-any_moment : goal.returns-clause-any_moment
returns-clause-any_moment g c = λ front before rests.
    stage_written front before c.args.self.now.gate _ rests (length c.deref.result.now) _ c.write_durably.ensures.any_moment

pub returns-clause-staged : goal.returns-clause-staged
returns-clause-staged g c = λ front before added rests sized are.
    let payload : IsPayload c.args.self.now.gate added c.deref.result.now = subst (λ (l : List ℕ). IsPayload c.args.self.now.gate added l) (sym c.deref.ensures.value) (c.in_ok-seal.ensures.is added are) in
    let size : c.len.result ≡ length c.deref.result.now = search rules in
    is_staged front before c.args.self.now.gate _ rests added c.deref.result.now (c.args.self.now.gate + c.len.result) _ sized payload
    (ap (λ (k : ℕ). c.args.self.now.gate + k) size)
    c.in_ok-write_durably.ensures.written c.in_ok-write_durably.ensures.durable
