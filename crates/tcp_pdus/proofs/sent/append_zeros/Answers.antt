use Rattle.std.proofs.Common.{ℕ, List, ◌++◌, ap, ◌∙◌}
use Rattle.std.proofs.lemmas.List.{take-replicate}
use Rattle.tcp_pdus.proofs.sent.append_zeros.Goals as goal

pub returns-clause-added : goal.returns-clause-added
returns-clause-added c =
    c.append.ensures.added
    ∙ ap (λ (zeros : List ℕ). c.args.out.now.items ++ zeros) (take-replicate {X = ℕ} c.args.count 128 0 c.requires.few)
