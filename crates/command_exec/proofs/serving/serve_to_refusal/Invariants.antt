use Rattle.std.proofs.Common.{◌≡◌, take, None}
use Rattle.device_meaning.specs.Judging.{judge_by}
use Rattle.device_meaning.specs.Events.{HasServed}
use Rattle.command_exec.specs.Refused.{NoneRefused}
use Rattle.command_exec.specs.steps.Tallied.{Watches}
use Rattle.command_exec.proofs.serving.serve_to_refusal.Given as goal

abbrev pub invariant-loop-index : goal.invariant-loop-index
invariant-loop-index g l = record {
  served : HasServed (judge_by g.D.Domain.operations) (take l.index l.fn.events) l.fn.device l.device (λ given. Watches g.P.Out.took l.fn.replies l.replies given × NoneRefused given);
  refused : g.P.Out.refusals l.replies.out ≡ g.P.Out.refusals l.fn.replies.out;
  none : l.replies.tally.first ≡ None;
}
