-- What holds after a command, by what holds before it and after its change.
use Rattle.std.proofs.Common.{◌≡◌, ℕ, List, Option, Some, None, refl, ap, sym, subst}
use Rattle.zone_state.specs.declared.status.Status.{Status}
use Rattle.zone_resources.specs.declared.holds.Holds.{Holds}
use Rattle.nvme_entry.specs.declared.command.StandardCommand.{StandardCommand}
use Rattle.image_store.specs.Namespace.{ZonedNamespace}
use Rattle.zns_commands.specs.Change.{Change, changed}
use Rattle.zns_commands.specs.Effect.{Effect, concluded}
use Rattle.zns_commands.specs.Left.{QueriesChangeNothing}
use Rattle.zns_commands.specs.Meaning.{change_of, effect_of, meaning, refusal_of}
use Rattle.zns_commands.proofs.EachCommand.{change_passed, effect_changes}
use Rattle.zns_commands.proofs.PassedChecks.{IsPassed}

concluded_so : (P : ZonedNamespace → Type 0) (refusal : Option Status) (ns : ZonedNamespace) (effect : Effect)
    → P ns → (refusal ≡ None → P effect.namespace) → P (concluded refusal ns effect).namespace
concluded_so P None ns effect before done = done refl
concluded_so P (Some status) ns effect before done = before

-- what holds of the namespace before a command, and after its change where no check fails, holds after the command
pub after_command : (P : ZonedNamespace → Type 0) (ns : ZonedNamespace) (holds : Holds) (command : StandardCommand) (input : List ℕ)
    → P ns → (IsPassed ns holds (change_of command) input → P (changed ns holds (change_of command) input))
    → P (meaning ns holds command input).namespace
after_command P ns holds command input before done =
    concluded_so P (refusal_of ns holds command input) ns (effect_of ns holds command input) before
    (λ none. subst P (sym (effect_changes ns holds command input)) (done (change_passed ns holds command input none)))

pub queries_change_nothing : QueriesChangeNothing
queries_change_nothing ns holds command input is =
    after_command (λ m. m ≡ ns) ns holds command input refl (λ passes. ap (λ (change : Change). changed ns holds change input) is)
