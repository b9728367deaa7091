use Rattle.tcp_loop.proofs.Fairness.{grown_two}
use Rattle.tcp_loop.proofs.turning.give_turn.Goals as goal

pub returns-in-Ok-turn-clause-grows : goal.returns-in-Ok-turn-clause-grows
returns-in-Ok-turn-clause-grows g c = λ o. grown_two g.T.KeptTarget.means g.T.KeptTarget.free o _ _ _ (c.resume_runs.ensures.grows o) (c.turn.ensures.grows o)

pub returns-in-Err-turn-clause-grows : goal.returns-in-Err-turn-clause-grows
returns-in-Err-turn-clause-grows g c = λ o. grown_two g.T.KeptTarget.means g.T.KeptTarget.free o _ _ _ (c.resume_runs.ensures.grows o) (c.turn.ensures.grows o)

pub returns-in-Ok-turn-clause-attends : goal.returns-in-Ok-turn-clause-attends
returns-in-Ok-turn-clause-attends g c = λ waiting clock well opened begun trace h.
    c.in-Ok-turn.ensures.attends waiting clock opened begun trace (c.in-Ok.ensures.keeps waiting clock opened begun trace h)
