use Rattle.std.proofs.Common.{◌∙◌, inl, sym, subst, ℕ}
use Rattle.stored_file.specs.Unsynced.{LeftSince}
use Rattle.command_serve.proofs.durable_files.MemoryFilesDurableFiles.stored.Goals as goal

pub returns-in_ok-new-in-Some-clause-restarted : goal.returns-in_ok-new-in-Some-clause-restarted
returns-in_ok-new-in-Some-clause-restarted c =
    let file = c.in_ok-new-in-Some.field-0 in
    let unchanged = c.in_ok-new-in-Some.ensures in
    record {
      left = λ x left. inl (unchanged.2 x (subst (λ (n : ℕ). LeftSince file.first.items file.changes.items n x) unchanged.1 left) ∙ sym unchanged.0);
      synced = λ x is. inl is;
    }
