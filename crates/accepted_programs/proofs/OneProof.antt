-- A verified program keeps that it never traps, and where it accesses memory, as facts that have one proof at most.
use Rattle.std.proofs.Props.{props}
use Rattle.program_meaning.specs.TrapFree.{IsExit}
use Rattle.program_meaning.specs.declared.end.End.{End}
use Rattle.program_meaning.specs.declared.end.End.TheVariants as end
use Rattle.word_domain.specs.Domain.{Operations}
use Rattle.accepted_programs.proofs.Statements.{AccessesLieIsProp, ArePlacesIsProp, NeverTrapsIsProp}

exit_is_prop : (e : End) → IsProp (IsExit e)
exit_is_prop (end.Exit r0) = hlevel props
exit_is_prop (end.Trap slot cause) = hlevel props
exit_is_prop end.OutOfFuel = hlevel props

pub never_traps_is_prop : NeverTrapsIsProp
never_traps_is_prop program limit block = hlevel (exit_is_prop, props)

pub accesses_lie_is_prop : AccessesLieIsProp
accesses_lie_is_prop program limit block place = hlevel props

pub are_places_is_prop : {D : Type 0} (operations : Operations D) → ArePlacesIsProp operations
are_places_is_prop operations block program places = hlevel props
