use Rattle.std.proofs.Common.{ℕ, [], unwrap_or, ap, ◌∙◌}
use Rattle.tcp_connection.specs.Transfers.{data_of_command}
use Rattle.tcp_connection.specs.Commands.{first_of}
use Rattle.tcp_connection.proofs.Ready.{data_by_r2t, data_in_capsule}
use Rattle.tcp_connection.proofs.state.ConnectionState.first_data.Goals as goal

pub returns-in-Some : goal.returns-in-Some
returns-in-Some c =
    let s = c.args.self.now in
    let transfers = s.receiver.expected.transfers in
    c.transfer.ensures
    ∙ ap (λ (command : ℕ). unwrap_or (data_of_command command transfers) []) c.identifier.ensures
    ∙ data_by_r2t (first_of s.commands) c.args.first _ transfers c.requires c.in-Some.is

pub returns-in-None : goal.returns-in-None
returns-in-None c =
    let s = c.args.self.now in
    c.first_data.ensures ∙ data_in_capsule (first_of s.commands) c.args.first s.receiver.expected.transfers c.requires c.in-None.is
