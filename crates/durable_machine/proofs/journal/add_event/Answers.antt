use Rattle.std.proofs.Common.{subst, ◌≡◌, ◌++◌, [], ◌∷◌, List, ℕ}
use Rattle.std.specs.Prelude.{OnOk}
use Rattle.durable_machine.specs.Events.{spelled}
use Rattle.durable_machine.proofs.Spelling.{alone}
use Rattle.durable_machine.proofs.journal.add_event.Goals as goal

pub returns-clause-added : goal.returns-clause-added
returns-clause-added c =
    subst (λ (event : List ℕ). OnOk c.add_parts.result (c.add_parts.new.events.items ≡ c.args.events.now.items ++ spelled (event ∷ [])))
    (alone c.args.event.now) c.add_parts.ensures.added
