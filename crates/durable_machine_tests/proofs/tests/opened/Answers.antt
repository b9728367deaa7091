use Rattle.std.proofs.Common.{◌∙◌, inl, sym, subst, ℕ}
use Rattle.stored_file.specs.Unsynced.{LeftSince}
use Rattle.durable_machine_tests.proofs.tests.opened.Goals as goal

pub open_read-requires-clause-restarted : goal.open_read-requires-clause-restarted
open_read-requires-clause-restarted c =
    let file = c.in_ok-new.field-0 in
    let unchanged = c.in_ok-new.ensures in
    record {
      left = λ x left. inl (unchanged.2 x (subst (λ (n : ℕ). LeftSince file.first.items file.changes.items n x) unchanged.1 left) ∙ sym unchanged.0);
      synced = λ x is. inl (unchanged.3 x is ∙ sym unchanged.0);
    }
