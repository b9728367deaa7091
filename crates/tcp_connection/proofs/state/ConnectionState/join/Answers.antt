use Rattle.std.proofs.Common.{ap, subst, ◌∙◌}
use Rattle.tcp_connection.specs.declared.state.ConnectionState.{ConnectionState}
use Rattle.tcp_connection.specs.Dealing.{looked}
use Rattle.tcp_connection.specs.Sending.{Sends}
use Rattle.tcp_connection.proofs.state.ConnectionState.join.Goals as goal

pub returns-clause-state : goal.returns-clause-state
returns-clause-state c = c.look.ensures.state ∙ ap (λ (t : ConnectionState). (looked t).0) c.enqueue.ensures.state

pub returns-clause-sent : goal.returns-clause-sent
returns-clause-sent c =
    subst (λ (t : ConnectionState). Sends c.args.out.now c.look.new.out (looked t).1) c.enqueue.ensures.state c.look.ensures.sent
