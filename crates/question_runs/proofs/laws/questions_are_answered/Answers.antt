use Rattle.question_runs.proofs.laws.questions_are_answered.Goals as goal

pub returns : goal.returns
returns c s command q was = c.runs_answer.ensures s command q (c.loaded_questions_stay.ensures s command.slot q was)
