use Rattle.std.proofs.Common.{◌≡◌, [], length}
use Rattle.std.specs.Prelude.{All}
use Rattle.tcp_loop.proofs.serving.no_bytes.Given as goal

abbrev pub invariant-loop : goal.invariant-loop
invariant-loop l = (length l.incoming.items ≡ l.counter) × All (λ bytes. bytes ≡ []) l.incoming.items
