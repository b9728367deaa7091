use Rattle.std.proofs.Common.{◌∙◌, inl, sym, subst, ℕ}
use Rattle.stored_file.specs.Unsynced.{LeftSince}
use Rattle.command_serve.proofs.durable_files.MemoryFilesDurableFiles.stored_read.Goals as goal

pub returns-clause-restarted : goal.returns-clause-restarted
returns-clause-restarted c =
    let file = c.in_ok-new.field-0 in
    let unchanged = c.in_ok-new.ensures in
    record {
      left = λ x left. inl (unchanged.2 x (subst (λ (n : ℕ). LeftSince file.first.items file.changes.items n x) unchanged.1 left) ∙ sym unchanged.0);
      synced = λ x is. inl is;
    }
