use Rattle.std.proofs.Common.{ℕ, true, List, [], ◌∷◌, ◌++◌, ap, ◌∙◌}
use Rattle.stored_file.specs.Calls.{Replaced}
use Rattle.handed_file.specs.Handed.{waits}
use Rattle.tcp_device.proofs.memory.save.Goals as goal

pub returns-in-Ok-clause-saved : goal.returns-in-Ok-clause-saved
returns-in-Ok-clause-saved c =
    c.in-Ok.ensures.handed ∙ ap (λ (b : List ℕ). waits c.args.file.now ++ Replaced b true ∷ []) c.in_ok-bytes.ensures
