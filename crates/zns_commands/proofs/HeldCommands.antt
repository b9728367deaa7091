-- That a command on a zone which is held against it is refused.
use Rattle.std.proofs.Common.{◌≡◌, ◌++◌, Bool, true, false, List, [], ◌∷◌, Option, Some, None, refl, ap, ◌∙◌}
use Rattle.std.specs.Prelude.{not, unwrap_or}
use Rattle.zone_state.specs.declared.status.Status.{Status}
use Rattle.zone_state.specs.declared.status.TheConstants.Status.{ZONE_HELD}
use Rattle.common_definitions.specs.Checks.{demand, first_failed}
use Rattle.image_store.specs.Namespace.{ZonedNamespace}
use Rattle.zns_commands.specs.Effect.{Effect, refused_effect, concluded}
use Rattle.zns_commands.specs.Held.{HeldCommandsAreRefused, is_held_against}
use Rattle.zns_commands.specs.Meaning.{change_of, checks_before_holds, effect_of}
use Rattle.zns_commands.proofs.EachCommand.{tests_holds}

-- a check that fails refuses, where none before it does
decides : (before rest : List (Option Status)) (ns : ZonedNamespace) (effect : Effect)
    → concluded (first_failed (before ++ Some ZONE_HELD ∷ rest)) ns effect ≡ refused_effect ns (unwrap_or (first_failed before) ZONE_HELD)
decides [] rest ns effect = refl
decides (None ∷ before) rest ns effect = decides before rest ns effect
decides (Some status ∷ before) rest ns effect = refl

-- so does the check of the holds, where the zone is held
held_decides : (before rest : List (Option Status)) (held : Bool) (ns : ZonedNamespace) (effect : Effect) → held ≡ true
    → concluded (first_failed (before ++ demand (not held) ZONE_HELD ∷ rest)) ns effect ≡ refused_effect ns (unwrap_or (first_failed before) ZONE_HELD)
held_decides before rest true ns effect is = decides before rest ns effect
held_decides before rest false ns effect is = cc

pub held_commands_are_refused : HeldCommandsAreRefused
held_commands_are_refused ns holds command input held =
    let effect = effect_of ns holds command input in
    let tests = tests_holds ns holds command input held in
    ap (λ (checks : List (Option Status)). concluded (first_failed checks) ns effect) tests.is
    ∙ held_decides (checks_before_holds ns command input) tests.others (is_held_against ns holds (change_of command)) ns effect held
