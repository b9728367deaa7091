use Rattle.record_questions.proofs.Totals.{tallies_are_totals}
use Rattle.record_questions.proofs.laws.tallies_are_totals.Goals as goal

pub returns : goal.returns
returns c = tallies_are_totals
