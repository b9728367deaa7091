use Rattle.std.proofs.Common.{ap, ◌∙◌}
use Rattle.tcp_target.specs.declared.connect_request.ConnectRequest.{ConnectRequest}
use Rattle.tcp_target.specs.Commands.{connected_with}
use Rattle.tcp_target.proofs.target.Target.connect.Goals as goal

pub returns : goal.returns
returns c =
    c.connect_as.ensures
    ∙ ap (λ (request : ConnectRequest). connected_with c.args.number c.args.entry.now request c.args.self.now) c.read-request.ensures
