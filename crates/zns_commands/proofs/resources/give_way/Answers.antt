use Rattle.std.proofs.Common.{Option, ℕ, subst}
use Rattle.image_store.specs.Namespace.{IsWithinLimits}
use Rattle.zns_commands.specs.Resources.{closed}
use Rattle.zns_commands.proofs.resources.give_way.Goals as goal

pub set_state-requires-clause-inside : goal.set_state-requires-clause-inside
set_state-requires-clause-inside c = c.requires.inside c.in-Some.other c.in-Some.is

pub set_state-requires-clause-fits : goal.set_state-requires-clause-fits
set_state-requires-clause-fits c = c.requires.fits c.in-Some.other c.in-Some.is

pub set_state-requires-clause-allowed : goal.set_state-requires-clause-allowed
set_state-requires-clause-allowed c = subst (λ (gives : Option ℕ). IsWithinLimits (closed c.args.image.now gives)) c.in-Some.is c.requires.limits
