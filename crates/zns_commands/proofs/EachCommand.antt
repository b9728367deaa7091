-- What is proved command by command: each other lemma on all commands splits their changes.
use Rattle.std.proofs.Common.{◌≡◌, ℕ, ◌*◌, ◌++◌, true, false, List, [], ◌∷◌, length, drop, Option, None, refl}
use Rattle.std.specs.Prelude.{not}
use Rattle.std.specs.List.{AllByRecursion}
use Rattle.zone_state.specs.declared.status.Status.{Status}
use Rattle.zone_state.specs.declared.status.TheConstants.Status.{SUCCESS, ZONE_HELD}
use Rattle.zone_resources.specs.declared.holds.Holds.{Holds}
use Rattle.nvme_entry.specs.declared.command.StandardCommand.{StandardCommand}
use Rattle.nvme_entry.specs.declared.command.StandardCommand.TheVariants.{Write, Read, Send, Receive, Append}
use Rattle.common_definitions.specs.Checks.{demand, first_failed}
use Rattle.common_definitions.proofs.Proved.{all_append}
use Rattle.image_store.specs.Namespace.{ZonedNamespace, zone_at}
use Rattle.zns_commands.specs.Address.{zone_number, zone_offset}
use Rattle.zns_commands.specs.Change.{changed}
use Rattle.zns_commands.specs.Held.{is_held_against}
use Rattle.zns_commands.specs.Read.{read_refusal}
use Rattle.zns_commands.specs.steps.Checks.{address_check, lowest_checks, range_checks, transfer_checks, zone_write_checks}
use Rattle.zns_commands.specs.Meaning.{change_of, checks_before_holds, checks_of, effect_of}
use Rattle.zns_commands.proofs.FailedChecks.{Fails, address_fails, all_fails, data_fails, lowest_fails, range_fails, read_refusal_fails, transfer_fails, zone_fails, zone_write_fails}
use Rattle.zns_commands.proofs.PassedChecks.{IsPassed, append_writes, write_writes}

-- a command that is not refused succeeds,
pub succeeds : (ns : ZonedNamespace) (holds : Holds) (command : StandardCommand) (input : List ℕ) → (effect_of ns holds command input).status ≡ SUCCESS
succeeds ns holds (Write lba blocks) input = refl
succeeds ns holds command input = refl

-- and leaves its change
pub effect_changes : (ns : ZonedNamespace) (holds : Holds) (command : StandardCommand) (input : List ℕ)
    → (effect_of ns holds command input).namespace ≡ changed ns holds (change_of command) input
effect_changes ns holds (Write lba blocks) input = refl
effect_changes ns holds command input = refl

-- what its checks say of that
pub change_passed : (ns : ZonedNamespace) (holds : Holds) (command : StandardCommand) (input : List ℕ)
    → first_failed (checks_of ns holds command input) ≡ None → IsPassed ns holds (change_of command) input
change_passed ns holds (Write lba blocks) input none = write_writes ns holds lba blocks input none
change_passed ns holds (Append lba blocks) input none = append_writes ns holds lba blocks input none
change_passed ns holds (Send lba a select_all) input none = none
change_passed ns holds command input none = tt

-- each of its checks that fails tells a fault
pub checks_fail : (ns : ZonedNamespace) (holds : Holds) (command : StandardCommand) (input : List ℕ) → AllByRecursion Fails (checks_of ns holds command input)
checks_fail ns holds (Write lba blocks) input =
    let bytes = blocks * ns.block in
    let offset = zone_offset ns lba in
    all_append Fails (transfer_checks bytes bytes input ++ range_checks ns lba blocks) (zone_write_checks ns holds (zone_number ns lba) offset blocks)
    (all_append Fails (transfer_checks bytes bytes input) (range_checks ns lba blocks) (transfer_fails bytes bytes input) (range_fails ns lba blocks))
    (zone_write_fails ns holds (zone_number ns lba) offset blocks)
checks_fail ns holds (Append lba blocks) input =
    let bytes = blocks * ns.block in
    let written = length (zone_at ns (zone_number ns lba)).blocks in
    all_append Fails (transfer_checks bytes bytes input ++ lowest_checks ns lba) (zone_write_checks ns holds (zone_number ns lba) written blocks)
    (all_append Fails (transfer_checks bytes bytes input) (lowest_checks ns lba) (transfer_fails bytes bytes input) (lowest_fails ns lba))
    (zone_write_fails ns holds (zone_number ns lba) written blocks)
checks_fail ns holds (Read lba blocks) input =
    let state = (zone_at ns (zone_number ns lba)).state in
    let bytes = blocks * ns.block in
    all_append Fails (transfer_checks bytes 0 input) (range_checks ns lba blocks ++ read_refusal state ∷ []) (transfer_fails bytes 0 input)
    (all_append Fails (range_checks ns lba blocks) (read_refusal state ∷ []) (range_fails ns lba blocks) (read_refusal_fails state, tt))
checks_fail ns holds (Receive lba dwords filter partial) input =
    all_append Fails (transfer_checks (4 * dwords) 0 input) (address_check ns lba ∷ []) (transfer_fails (4 * dwords) 0 input) (address_fails ns lba, tt)
checks_fail ns holds (Send lba a true) input =
    (data_fails 0 input, all_fails ns holds a)
checks_fail ns holds (Send lba a false) input =
    (data_fails 0 input, zone_fails ns holds lba a)

-- the check of the holds stands behind those before it, and before others
pub record TestsHolds (ns : ZonedNamespace) (holds : Holds) (command : StandardCommand) (input : List ℕ) : Type 0 where
  pub others : List (Option Status)
  pub is : checks_of ns holds command input
      ≡ checks_before_holds ns command input ++ demand (not (is_held_against ns holds (change_of command))) ZONE_HELD ∷ others

pub tests_holds : (ns : ZonedNamespace) (holds : Holds) (command : StandardCommand) (input : List ℕ) → is_held_against ns holds (change_of command) ≡ true
    → TestsHolds ns holds command input
tests_holds ns holds (Write lba blocks) input held = record { others = drop 5 (checks_of ns holds (Write lba blocks) input); is = refl }
tests_holds ns holds (Append lba blocks) input held = record { others = drop 5 (checks_of ns holds (Append lba blocks) input); is = refl }
tests_holds ns holds (Send lba a true) input held = record { others = drop 2 (checks_of ns holds (Send lba a true) input); is = refl }
tests_holds ns holds (Send lba a false) input held = record { others = drop 4 (checks_of ns holds (Send lba a false) input); is = refl }
tests_holds ns holds command input held = cc
