use Rattle.std.proofs.Common.{sym, ◌∙◌}
use Rattle.tcp_connection.specs.Commands.{first_of}
use Rattle.tcp_connection.proofs.Ready.{ready_none, ready_some}
use Rattle.tcp_connection.proofs.state.ConnectionState.waiting_ready.Goals as goal

pub returns-in-Some : goal.returns-in-Some
returns-in-Some c =
    let s = c.args.self.now in
    c.entry_once_come.ensures
    ∙ ready_some (first_of s.commands) c.in-Some.first s.receiver.expected.transfers (sym c.first.ensures ∙ c.in-Some.is)

pub returns-in-None : goal.returns-in-None
returns-in-None c =
    let s = c.args.self.now in ready_none (first_of s.commands) s.receiver.expected.transfers (sym c.first.ensures ∙ c.in-None.is)
