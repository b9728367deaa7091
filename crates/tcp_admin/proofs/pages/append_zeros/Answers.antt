use Rattle.std.proofs.Common.{ℕ, List, ◌++◌, ap, ◌∙◌}
use Rattle.std.proofs.lemmas.List.{take-replicate}
use Rattle.tcp_admin.proofs.pages.append_zeros.Goals as goal

pub returns-clause-added : goal.returns-clause-added
returns-clause-added c = record {
  added =
      c.append.ensures.added.added
      ∙ ap (λ (zeros : List ℕ). c.args.out.now.items ++ zeros) (take-replicate {X = ℕ} c.args.count 4096 0 c.requires.few);
  room = c.append.ensures.added.room;
}
