use Rattle.std.proofs.Common.{ℕ, List, ap, subst, ◌∙◌}
use Rattle.tcp_pdus.specs.declared.received.HostPdu.TheVariants.{CapsuleCmd}
use Rattle.tcp_connection.specs.declared.state.ConnectionState.{ConnectionState}
use Rattle.tcp_connection.specs.Sending.{Sends}
use Rattle.tcp_connection.proofs.Dealt.{commanded_is, entry_is}
use Rattle.tcp_connection.proofs.state.ConnectionState.command.Goals as goal

pub entry_in-entry-requires : goal.entry_in-entry-requires
entry_in-entry-requires c = c.header.ensures.whole CapsuleCmd c.requires.whole

pub returns-clause-state : goal.returns-clause-state
returns-clause-state c =
    let s = c.args.self.now in
    let entry = entry_is s.receiver c.header.result.now c.entry_in-entry.result c.requires.whole c.header.ensures.bytes c.entry_in-entry.ensures in
    c.take_command.ensures.state
    ∙ ap (λ (step : ConnectionState × List ℕ). step.0) (commanded_is s c.entry_in-entry.result entry)

pub returns-clause-sent : goal.returns-clause-sent
returns-clause-sent c =
    let s = c.args.self.now in
    let entry = entry_is s.receiver c.header.result.now c.entry_in-entry.result c.requires.whole c.header.ensures.bytes c.entry_in-entry.ensures in
    let P : ConnectionState × List ℕ → Type 0 = λ step. Sends c.args.out.now c.take_command.new.out step.1 in
    subst P (commanded_is s c.entry_in-entry.result entry) c.take_command.ensures.sent
