use Rattle.std.proofs.lemmas.List.{get_or-replicate}
use Rattle.std.proofs.Common.{false}
use Rattle.tcp_loop.proofs.hosts.none.Goals as goal

pub returns : goal.returns
returns c = λ place low. get_or-replicate 40 place false false low
