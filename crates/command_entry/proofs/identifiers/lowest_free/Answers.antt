use Rattle.std.proofs.Common.{◌≡◌, ℕ, true, sym}
use borrow.Author.Count.{below_more}
use Rattle.command_entry.specs.Identifiers.{identifiers, is_used}
use Rattle.command_entry.proofs.identifiers.lowest_free.Goals as goal

pub loop-number-preserved : goal.loop-number-preserved
loop-number-preserved c =
    below_more (λ (lower : ℕ). is_used lower (identifiers c.args.queue c.args.events.now) ≡ true) c.loop-number.number c.loop-number.invariant (sym c.if-not-is_used.ensures)
