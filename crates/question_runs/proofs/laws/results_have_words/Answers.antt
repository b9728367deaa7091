use Rattle.question_runs.proofs.Words as lemmas
use Rattle.question_runs.proofs.laws.results_have_words.Goals as goal

pub returns : goal.returns
returns c = lemmas.results_have_words c.words_are_tallied.ensures c.tallies_are_totals.ensures c.domains_judge_soundly.ensures
