use Rattle.std.proofs.Common.{◌≡◌, Some, sym, subst}
use Rattle.std.specs.Option.{option_map}
use Rattle.tcp_connection.specs.Executing.{Execution}
use Rattle.tcp_target.specs.QueueCommands.{given_to_device}
use Rattle.tcp_device.specs.State.{ServedState}
use Rattle.tcp_device.proofs.served.ServedTarget.serve_open.Goals as goal

pub submit-requires-clause-given : goal.submit-requires-clause-given
submit-requires-clause-given c =
    subst (λ (s : ServedState). option_map (λ (e : Execution). e.entry) (given_to_device c.args.number s.target.queues) ≡ Some c.in-Some.entry) c.self.view_is
    (sym c.in-Some.ensures.entry)
