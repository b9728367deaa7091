use Rattle.device_meaning.specs.Judging.{judge_by}
use Rattle.pushdown.proofs.Refused.{refused_events_leave_state}
use Rattle.pushdown.proofs.laws.refused_events_leave_state.Goals as goal

pub returns : goal.returns
returns g c = refused_events_leave_state (judge_by g.D.Domain.operations) c.domains_judge_soundly.ensures
