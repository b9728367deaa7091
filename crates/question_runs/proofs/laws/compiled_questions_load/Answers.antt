use Rattle.question_runs.proofs.Loading.{compiled_questions_load}
use Rattle.question_runs.proofs.laws.compiled_questions_load.Goals as goal

pub returns : goal.returns
returns c = compiled_questions_load c.spelled_is_decoded.ensures
