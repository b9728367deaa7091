-- That a Write, an Append and a Run that an entry is decoded to have at least one block, and that a command which has so,
-- with bytes beside it, is one that entries can spell.
use Rattle.std.proofs.Common.{◌≡◌, ℕ, ◌+◌, ◌≤◌, List, Ok, arith}
use Rattle.zone_resources.specs.declared.holds.Holds.{Holds}
use Rattle.nvme_entry.specs.Entry.{decoded}
use Rattle.nvme_entry.specs.declared.command.Command.{Command}
use Rattle.nvme_entry.specs.declared.command.Command.TheVariants as commands
use Rattle.nvme_entry.specs.declared.command.StandardCommand.{StandardCommand}
use Rattle.nvme_entry.specs.declared.command.StandardCommand.TheVariants.{Write, Append}
use Rattle.nvme_entry.proofs.Proved.{fields_are_spelled}
use Rattle.common_definitions.specs.Bytes.{AreBytes, field}
use Rattle.zns_commands.specs.Change.{CanBeAsked, Change, Writing}
use Rattle.zns_commands.specs.Laws.{Commanded, IsSpelled}
use Rattle.zns_commands.specs.Meaning.{change_of}

-- what writes blocks writes at least one
abbrev pub WritesSome : Change → Type 0
WritesSome (Writing lba blocks) = 1 ≤ blocks
WritesSome _ = Unit {0}

-- a command that writes blocks, or runs over some, has at least one
abbrev pub HasBlocks : Command → Type 0
HasBlocks (commands.Standard c) = WritesSome (change_of c)
HasBlocks (commands.Run command) = 1 ≤ command.blocks
HasBlocks _ = Unit {0}

-- a number that stands zero-based is at least 1
at_least_one : (n k : ℕ) → n ≡ k + 1 → 1 ≤ n
at_least_one n k e = omega (arith, e)

-- a command that an entry is decoded to has at least one block, where it writes some or runs over some
pub decoded_has : (entry : List ℕ) (c : Command) → decoded entry ≡ Ok c → HasBlocks c
decoded_has entry (commands.Standard (Write lba blocks)) e =
    let told = fields_are_spelled entry (commands.Standard (Write lba blocks)) e in
    at_least_one blocks (field entry 48 2) told.2.2
decoded_has entry (commands.Standard (Append lba blocks)) e =
    let told = fields_are_spelled entry (commands.Standard (Append lba blocks)) e in
    at_least_one blocks (field entry 48 2) told.2.2
decoded_has entry (commands.Run command) e =
    let told = fields_are_spelled entry (commands.Run command) e in
    at_least_one command.blocks (field entry 48 2) told.2.2
decoded_has entry c e = tt

asked_by : (change : Change) (input : List ℕ) → WritesSome change → AreBytes input → CanBeAsked change input
asked_by (Writing lba blocks) input some fit = (some, fit)
asked_by change input some fit = tt

pub spelled : (holds : Holds) (c : StandardCommand) (input : List ℕ) → HasBlocks (commands.Standard c) → AreBytes input
    → IsSpelled (Commanded holds c input)
spelled holds c input some fit = asked_by (change_of c) input some fit
