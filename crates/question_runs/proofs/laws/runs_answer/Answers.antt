use Rattle.question_runs.proofs.Answering as lemmas
use Rattle.question_runs.proofs.laws.runs_answer.Goals as goal

pub returns : goal.returns
returns c = lemmas.runs_answer c.answers_blocks.ensures c.results_have_words.ensures c.domains_judge_soundly.ensures
