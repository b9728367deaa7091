use Rattle.std.proofs.Common.{ℕ, List, length, ap, ◌∙◌}
use Rattle.tcp_pdus.specs.Sgl.{wanted_checked}
use Rattle.tcp_connection.proofs.Dealt.{inside_is}
use Rattle.tcp_connection.proofs.state.ConnectionState.check.Goals as goal

pub returns : goal.returns
returns c =
    c.wanted_data.ensures
    ∙ ap (λ (bytes : List ℕ). wanted_checked c.args.entry (length bytes))
    (inside_is c.args.self.now.receiver c.data.result.now c.requires c.data.ensures)
