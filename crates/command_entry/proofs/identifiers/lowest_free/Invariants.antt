use Rattle.std.proofs.Common.{◌≡◌, ◌<◌, ℕ, true}
use Rattle.command_entry.specs.Identifiers.{identifiers, is_used}
use Rattle.command_entry.proofs.identifiers.lowest_free.Given as goal

abbrev pub invariant-loop-number : goal.invariant-loop-number
invariant-loop-number l = (lower : ℕ) → lower < l.number → is_used lower (identifiers l.queue l.events) ≡ true
