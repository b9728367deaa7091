use Rattle.std.proofs.Common.{◌≡◌, ap, sym, subst, ◌∙◌}
use Rattle.tcp_pdus.specs.declared.received.HostPdu.TheVariants.{CapsuleCmd}
use Rattle.tcp_connection.specs.declared.expected.Progress.{Progress}
use Rattle.tcp_connection.specs.declared.expected.Progress.TheVariants.{Whole}
use Rattle.tcp_connection.specs.Dealing.{dealt_by}
use Rattle.tcp_connection.specs.Sending.{Sends}
use Rattle.tcp_connection.proofs.state.ConnectionState.deal.Goals as goal

pub returns-in-Whole-CapsuleCmd-clause-state : goal.returns-in-Whole-CapsuleCmd-clause-state
returns-in-Whole-CapsuleCmd-clause-state c =
    let s = c.args.self.now in
    let is : s.receiver.progress ≡ Whole CapsuleCmd = cc in
    c.command.ensures.state ∙ ap (λ (p : Progress). (dealt_by p s).0) (sym is)

pub returns-in-Whole-CapsuleCmd-clause-sent : goal.returns-in-Whole-CapsuleCmd-clause-sent
returns-in-Whole-CapsuleCmd-clause-sent c =
    let s = c.args.self.now in
    let is : s.receiver.progress ≡ Whole CapsuleCmd = cc in
    let P : Progress → Type 0 = λ p. Sends c.args.out.now c.command.new.out (dealt_by p s).1 in
    subst P (sym is) c.command.ensures.sent
