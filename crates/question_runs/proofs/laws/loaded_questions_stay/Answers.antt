use Rattle.question_runs.proofs.Loading.{loaded_questions_stay}
use Rattle.question_runs.proofs.laws.loaded_questions_stay.Goals as goal

pub returns : goal.returns
returns c = loaded_questions_stay c.domains_judge_soundly.ensures c.spelled_is_decoded.ensures
