use Rattle.device_serve.proofs.FrameTurns.{grown_on, grown_same}
use Rattle.device_serve.proofs.frames.requests.drain.Goals as goal

pub returns-clause-answered : goal.returns-clause-answered
returns-clause-answered g c = record {
  given = c.in_ok-given.given;
  answered = c.give_turns.new.answer.items;
  turns = c.in_ok-given.ensures.given;
  drained = c.in_ok-push_drained.ensures.added;
}

pub returns-clause-grown : goal.returns-clause-grown
returns-clause-grown g c =
    grown_on c.args.answer.now.items c.give_turns.new.answer.items c.push_drained.new.frame.items _ c.give_turns.ensures.grown c.in_ok-push_drained.ensures.added

pub returns-in_err-push_drained-clause-grown : goal.returns-in_err-push_drained-clause-grown
returns-in_err-push_drained-clause-grown g c =
    grown_same c.args.answer.now.items c.give_turns.new.answer.items c.push_drained.new.frame.items c.give_turns.ensures.grown
    c.in_err-push_drained.ensures.refused
