-- Reads whose data lies in the image as it is given.
use Rattle.std.specs.Prelude.{ℕ, Bool, false, List, Result, Ok}
use Rattle.zone_state.specs.declared.status.Status.{Status}
use Rattle.nvme_entry.specs.declared.command.Command.{Command}
use Rattle.nvme_entry.specs.declared.command.Command.TheVariants as commands
use Rattle.nvme_entry.specs.declared.command.StandardCommand.TheVariants.{Read}
use Rattle.image_store.specs.Namespace.{ZonedNamespace}
use Rattle.zns_commands.specs.Read.{is_stored}

-- does an entry name a Read, with this data beside it, that isn't refused and whose blocks are all written?
abbrev pub asks_for_stored : ZonedNamespace → Result Command Status → List ℕ → Bool
asks_for_stored ns (Ok (commands.Standard (Read lba blocks))) input = is_stored ns lba blocks input
asks_for_stored ns _ input = false
