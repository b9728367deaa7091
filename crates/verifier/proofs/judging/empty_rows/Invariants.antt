use Rattle.std.proofs.Common.{◌≡◌, ℕ, length, get_or, None}
use Rattle.verifier.proofs.judging.empty_rows.Given as goal

abbrev pub invariant-loop : goal.invariant-loop
invariant-loop g l = record {
  long : length l.rows.items ≡ l.counter;
  empty : (s : ℕ) → get_or l.rows.items s None ≡ None;
}
