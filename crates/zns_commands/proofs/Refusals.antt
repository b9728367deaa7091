-- That just one case of a command holds, that a refused command changes nothing, and what its status is.
use Rattle.std.proofs.Common.{◌≡◌, ◌≢◌, ℕ, List, Option, Some, None, refl, ap, sym, subst, ◌∙◌, inl, arith}
use Rattle.zone_state.specs.declared.status.Status.{Status}
use Rattle.zone_state.specs.declared.status.TheConstants.Status.{SUCCESS}
use Rattle.common_definitions.specs.Checks.{first_failed}
use Rattle.common_definitions.proofs.Proved.{first_failed_is_first, no_fault_where_none_fails}
use Rattle.zone_resources.specs.declared.holds.Holds.{Holds}
use Rattle.nvme_entry.specs.declared.command.StandardCommand.{StandardCommand}
use Rattle.image_store.specs.Namespace.{ZonedNamespace}
use Rattle.zns_commands.specs.Effect.{Effect, concluded}
use Rattle.zns_commands.specs.Meaning.{checks_of, effect_of, meaning}
use Rattle.zns_commands.proofs.EachCommand.{checks_fail, succeeds}
use Rattle.zns_commands.proofs.FailedChecks.{Fails, fault_no_success, fault_standard, some_fails}
use Rattle.zns_commands.specs.Laws.{IsCase, TakesEffect, IsRefused, JustOneCase, ChangesNothing, IsStandardStatus, RefusedCommandsChangeNothing, StatusesAreStandard}

some_case : (ns : ZonedNamespace) (checks : List (Option Status)) (effect : Effect) (refusal : Option Status)
    → first_failed checks ≡ refusal → IsCase ns checks effect (concluded refusal ns effect)
some_case ns checks effect None e = TakesEffect ((no_fault_where_none_fails Status checks).0 e) refl
some_case ns checks effect (Some status) e = IsRefused status ((first_failed_is_first Status checks status).0 e) refl

one_case : (ns : ZonedNamespace) (checks : List (Option Status)) (effect done : Effect)
    → IsCase ns checks effect done → done ≡ concluded (first_failed checks) ns effect
one_case ns checks effect done (TakesEffect none is) =
    is ∙ ap (λ (refusal : Option Status). concluded refusal ns effect) (sym ((no_fault_where_none_fails Status checks).1 none))
one_case ns checks effect done (IsRefused status first is) =
    is ∙ ap (λ (refusal : Option Status). concluded refusal ns effect) (sym ((first_failed_is_first Status checks status).1 first))

pub just_one_case : JustOneCase
just_one_case ns holds command input =
    let checks = checks_of ns holds command input in
    let effect = effect_of ns holds command input in
    (some_case ns checks effect (first_failed checks) refl, one_case ns checks effect)

-- where no check fails the status is that of the effect
refused_concluded : (refusal : Option Status) (ns : ZonedNamespace) (effect : Effect)
    → effect.status ≡ SUCCESS → (concluded refusal ns effect).status ≢ SUCCESS → ChangesNothing ns (concluded refusal ns effect)
refused_concluded None ns effect done not_success = absurd (not_success done)
refused_concluded (Some status) ns effect done not_success = record { namespace = refl; dw0 = refl; dw1 = refl; output = refl }

pub refused_commands_change_nothing : RefusedCommandsChangeNothing
refused_commands_change_nothing ns holds command input =
    refused_concluded (first_failed (checks_of ns holds command input)) ns (effect_of ns holds command input) (succeeds ns holds command input)

-- ---- statuses

-- a command that succeeds is one of which no check fails
no_refusal : (refusal : Option Status) (ns : ZonedNamespace) (effect : Effect) → Fails refusal → (concluded refusal ns effect).status ≡ SUCCESS → refusal ≡ None
no_refusal None ns effect fails done = refl
no_refusal (Some status) ns effect fails done = absurd (fault_no_success status fails done)

pub success_passes : (ns : ZonedNamespace) (holds : Holds) (command : StandardCommand) (input : List ℕ) → (meaning ns holds command input).status ≡ SUCCESS
    → first_failed (checks_of ns holds command input) ≡ None
success_passes ns holds command input =
    let checks = checks_of ns holds command input in
    no_refusal (first_failed checks) ns (effect_of ns holds command input) (some_fails checks (checks_fail ns holds command input))

-- the status of an effect, or of the check that refuses it
concluded_standard : (refusal : Option Status) (ns : ZonedNamespace) (effect : Effect) → Fails refusal → effect.status ≡ SUCCESS
    → IsStandardStatus (concluded refusal ns effect).status
concluded_standard None ns effect fails done = subst IsStandardStatus (sym done) (record { code = omega arith; standard = inl (λ is. cc) })
concluded_standard (Some status) ns effect fails done = fault_standard status fails

pub statuses_are_standard : StatusesAreStandard
statuses_are_standard ns holds command input =
    let checks = checks_of ns holds command input in
    concluded_standard (first_failed checks) ns (effect_of ns holds command input) (some_fails checks (checks_fail ns holds command input))
    (succeeds ns holds command input)
