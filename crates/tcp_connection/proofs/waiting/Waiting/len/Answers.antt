use Rattle.std.proofs.Common.{◌≡◌, length, vec_len, ap, arith, rules}
use Rattle.tcp_connection.specs.Commands.{WaitingCommand}
use Rattle.tcp_connection.proofs.Held.{length_waiting}
use Rattle.tcp_connection.proofs.waiting.Waiting.len.Goals as goal

pub returns : goal.returns
returns c =
    let kept = c.self.inside.kept in
    let counted : vec_len kept ≡ length kept.items = search rules in
    omega (arith, c.len.ensures, counted, length_waiting kept.items, ap (length {A = WaitingCommand}) c.self.view_is)
