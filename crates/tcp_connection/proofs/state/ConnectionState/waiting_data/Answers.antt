use Rattle.std.proofs.Common.{sym, ◌∙◌}
use Rattle.tcp_connection.specs.Commands.{first_of}
use Rattle.tcp_connection.proofs.Ready.{no_data}
use Rattle.tcp_connection.proofs.state.ConnectionState.waiting_data.Goals as goal

pub first_data-requires : goal.first_data-requires
first_data-requires c = sym c.first.ensures ∙ c.in-Some.is

pub returns-in-None : goal.returns-in-None
returns-in-None c =
    let s = c.args.self.now in no_data (first_of s.commands) s.receiver.expected.transfers (sym c.first.ensures ∙ c.in-None.is)
