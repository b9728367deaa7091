use Rattle.tcp_loop.proofs.Progress.{failed, failed_few}
use Rattle.tcp_loop.proofs.serving.Loop.tell_failure.Goals as goal

pub returns-in-Some-clause-ends : goal.returns-in-Some-clause-ends
returns-in-Some-clause-ends g c = failed _ _ c.in-Some.ensures.fewer

pub returns-in-Some-clause-few : goal.returns-in-Some-clause-few
returns-in-Some-clause-few g c = failed_few _ _ c.next.ensures.few c.in-Some.ensures.fewer
