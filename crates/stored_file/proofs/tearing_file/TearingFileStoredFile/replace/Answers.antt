use Rattle.std.proofs.Common.{rules, ◌≡◌, inr, ◌∙◌}
use Rattle.stored_file.proofs.Changes.{left_now, elapses}
use Rattle.stored_file.proofs.tearing_file.TearingFileStoredFile.replace.Goals as goal

pub returns-clause-time : goal.returns-clause-time
returns-clause-time c = elapses _ _ _ _ c.in_ok-push.ensures.items _ _

pub returns-clause-crash : goal.returns-clause-crash
returns-clause-crash c = λ file left.
    let settled : c.in_ok-settled.settled.items ≡ c.args.bytes.now = search rules in
    inr ((left_now _ _ _ _ c.in_ok-push.ensures.items file left).2 ∙ settled)

pub returns-clause-durable : goal.returns-clause-durable
returns-clause-durable c =
    let settled : c.in_ok-settled.settled.items ≡ c.in_ok-next.next.items = search rules in
    record {
      left = λ file left. (left_now _ _ _ _ c.in_ok-push.ensures.items file left).2 ∙ settled;
      synced = λ file is. is;
    }
