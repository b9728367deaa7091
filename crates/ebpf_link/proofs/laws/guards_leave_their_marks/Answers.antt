use Rattle.ebpf_link.proofs.MarkRuns.{guards_leave_their_marks}
use Rattle.ebpf_link.proofs.laws.guards_leave_their_marks.Goals as goal

pub returns : goal.returns
returns c = guards_leave_their_marks
