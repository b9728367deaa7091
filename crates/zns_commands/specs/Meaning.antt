-- The meaning of each command: what it comes to on a namespace, with the data beside its entry.
use Rattle.std.specs.Prelude.{ℕ, true, false, List, [], take, Option}
use Rattle.zone_state.specs.declared.status.Status.{Status}
use Rattle.common_definitions.specs.Checks.{first_failed}
use Rattle.zone_resources.specs.Holds.{no_holds}
use Rattle.zone_resources.specs.declared.holds.Holds.{Holds}
use Rattle.nvme_entry.specs.declared.command.StandardCommand.{StandardCommand}
use Rattle.nvme_entry.specs.declared.command.StandardCommand.TheVariants.{Write, Read, Send, Receive, Append}
use Rattle.image_store.specs.Namespace.{ZonedNamespace}
use Rattle.zns_commands.specs.Change.{Change, Nothing, Writing, Moving}
use Rattle.zns_commands.specs.Effect.{Effect, concluded, success_effect}
use Rattle.zns_commands.specs.Append.{append_checks, append_effect}
use Rattle.zns_commands.specs.Read.{read_checks, read_effect}
use Rattle.zns_commands.specs.Receive.{receive_checks, receive_effect}
use Rattle.zns_commands.specs.Send.{send_checks, send_effect}
use Rattle.zns_commands.specs.Write.{write_checks, write_effect}

-- the checks of a command, in their order, under the holds of the active runs
abbrev pub checks_of : ZonedNamespace → Holds → StandardCommand → List ℕ → List (Option Status)
checks_of ns holds (Write lba blocks) input = write_checks ns holds lba blocks input
checks_of ns holds (Read lba blocks) input = read_checks ns lba blocks input
checks_of ns holds (Send lba action select_all) input = send_checks ns holds lba action select_all input
checks_of ns holds (Receive lba dwords filter partial) input = receive_checks ns lba dwords input
checks_of ns holds (Append lba blocks) input = append_checks ns holds lba blocks input

-- how many of them come before the check of the holds, where the command changes zones: those of its data and of its address
abbrev pub count_before_holds : StandardCommand → ℕ
count_before_holds (Send lba action true) = 1
count_before_holds (Send lba action false) = 3
count_before_holds _ = 4

-- these
abbrev pub checks_before_holds : ZonedNamespace → StandardCommand → List ℕ → List (Option Status)
checks_before_holds ns command input = take (count_before_holds command) (checks_of ns no_holds command input)

-- why a command is refused, if it is: the first check that fails
abbrev pub refusal_of : ZonedNamespace → Holds → StandardCommand → List ℕ → Option Status
refusal_of ns holds command input = first_failed (checks_of ns holds command input)

-- what a command comes to that is not refused
abbrev pub effect_of : ZonedNamespace → Holds → StandardCommand → List ℕ → Effect
effect_of ns holds (Write lba blocks) input = write_effect ns holds lba input
effect_of ns holds (Read lba blocks) input = read_effect ns lba blocks
effect_of ns holds (Send lba action select_all) input = success_effect (send_effect ns holds lba action select_all) 0 []
effect_of ns holds (Receive lba dwords filter partial) input = receive_effect ns lba dwords filter partial
effect_of ns holds (Append lba blocks) input = append_effect ns holds lba input

-- the change of the namespace that a command makes which is not refused; one that only reads makes none
abbrev pub change_of : StandardCommand → Change
change_of (Write lba blocks) = Writing lba blocks
change_of (Append lba blocks) = Writing lba blocks
change_of (Send lba action select_all) = Moving lba action select_all
change_of _ = Nothing

-- a command is refused, or takes effect
abbrev pub meaning : ZonedNamespace → Holds → StandardCommand → List ℕ → Effect
meaning ns holds command input = concluded (refusal_of ns holds command input) ns (effect_of ns holds command input)
