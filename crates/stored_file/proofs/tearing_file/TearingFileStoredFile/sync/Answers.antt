use Rattle.std.proofs.Common.{rules, ◌≡◌, inr, ◌∙◌}
use Rattle.stored_file.proofs.Changes.{left_now, elapses}
use Rattle.stored_file.proofs.tearing_file.TearingFileStoredFile.sync.Goals as goal

pub returns-clause-time : goal.returns-clause-time
returns-clause-time c = elapses _ _ _ _ c.in_ok-push.ensures.items _ _

pub returns-clause-crash : goal.returns-clause-crash
returns-clause-crash c = λ file left.
    let settled : c.in_ok-settled.settled.items ≡ c.args.self.now.bytes.items = search rules in
    inr ((left_now _ _ _ _ c.in_ok-push.ensures.items file left).2 ∙ settled)

pub returns-clause-durable : goal.returns-clause-durable
returns-clause-durable c = λ file left.
    let settled : c.in_ok-settled.settled.items ≡ c.args.self.now.bytes.items = search rules in
    (left_now _ _ _ _ c.in_ok-push.ensures.items file left).2 ∙ settled
