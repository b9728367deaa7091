use Rattle.device_meaning.specs.Judging.{interval_judge}
use Rattle.pushdown.proofs.Proved.{refused_events_leave_state}
use Rattle.device_laws.proofs.Reached.{sound}
use Rattle.device_laws.proofs.laws.refused_events_leave_state.Goals as goal

pub returns : goal.returns
returns c = refused_events_leave_state interval_judge sound
