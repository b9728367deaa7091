use Rattle.std.proofs.Common.{◌≡◌, false, sym, ◌∙◌}
use Rattle.handed_file.specs.Handed.{noted}
use Rattle.handed_file.specs.Handing.{has_refused}
use Rattle.handed_file.proofs.Ordered.{all_handed}
use Rattle.handed_file.proofs.handed_file.HandedFile.has_failed.Goals as goal

pub returns-clause-order : goal.returns-clause-order
returns-clause-order c = λ none.
    let file = c.args.self.now in
    let kept : has_refused (noted file) ≡ false = sym file.told_failed ∙ none in
    sym (all_handed (noted file) kept) ∙ file.in_order
