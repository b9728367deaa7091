use Rattle.stored_file.specs.Tearing.{told_of}
use Rattle.durable_machine.specs.Seals.{events_of}
use Rattle.durable_machine.proofs.Waiting.{all_committed}
use Rattle.durable_machine_tests.specs.Number.{IsBaseOf, number_after}
use Rattle.durable_machine_tests.proofs.keeping.commit.Goals as goal

pub returns : goal.returns
returns c =
    let store = c.commit.new.self in
    all_committed IsBaseOf (λ number _ event. number_after number event) (events_of store.waiting) c.args.store.now.machine store.journal.gate (told_of store.journal.file)
    c.in_ok-commit.ensures.none (c.in_ok-commit.ensures.committed c.args.store.now.machine c.requires)
