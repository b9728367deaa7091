use Rattle.std.proofs.Common.{◌≡◌, ◌<◌, ◌≤◌, ℕ, length, get_or, None}
use Rattle.accepted_programs.specs.Accepted.{refusal_below}
use Rattle.accepted_programs.specs.Facts.{facts_at, given_below}
use Rattle.verifier.specs.steps.Rows.{held_at}
use Rattle.verifier.proofs.known.known_over.Given as goal

-- the rows of the slots that are left hold what those before give to them, and the facts of those are told
abbrev pub invariant-loop-slot : goal.invariant-loop-slot
invariant-loop-slot g l = record {
  long : length l.rows ≡ length l.program;
  rows : (s : ℕ) → l.slot ≤ s → s < length l.rows → held_at l.rows s ≡ given_below g.D.Domain.operations l.sizes.block l.program l.slot s;
  none : refusal_below g.D.Domain.operations l.program l.sizes l.slot ≡ None;
  told : length l.known.items ≡ l.slot;
  known : (s : ℕ) → s < l.slot → get_or l.known.items s None ≡ facts_at g.D.Domain.operations l.sizes.block l.program s;
}
