use Rattle.std.proofs.Common.{◌≡◌, length, vec_len, ap, arith, rules}
use Rattle.tcp_connection.specs.Commands.{WaitingCommand}
use Rattle.tcp_connection.proofs.Held.{length_waiting}
use Rattle.tcp_connection.proofs.waiting.Waiting.push.Goals as goal

pub keep-requires-clause-few : goal.keep-requires-clause-few
keep-requires-clause-few c =
    let kept = c.self.inside.kept in
    let counted : vec_len kept ≡ length kept.items = search rules in
    omega (arith, c.requires.few, counted, length_waiting kept.items, ap (length {A = WaitingCommand}) c.self.view_is)
