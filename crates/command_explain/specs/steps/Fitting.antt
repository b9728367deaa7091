-- Which answers a command can have.
use Rattle.std.specs.Prelude.{ℕ, Bool, ◌==◌, ◌&&◌, ◌*◌}
use Rattle.std.specs.List.{list_any}
use Rattle.program_interface.specs.declared.area.TheConstants.{SCRATCH_BYTES}
use Rattle.program_interface.specs.declared.block_size.TheConstants.{BLOCK_SIZES}
use Rattle.nvme_entry.specs.declared.command.Command.{Command}
use Rattle.nvme_entry.specs.declared.command.Command.TheVariants as command
use Rattle.nvme_entry.specs.declared.command.StandardCommand.{StandardCommand}
use Rattle.nvme_entry.specs.declared.command.StandardCommand.TheVariants as standard
use Rattle.nvme_entry.specs.declared.completion.Completion.{Completion}

-- Dwords 0 and 1 are 0
abbrev pub has_no_dwords : Completion → Bool
has_no_dwords c = (c.dw0 == 0) && (c.dw1 == 0)

-- so many bytes are as many blocks, of one of the sizes that blocks have
abbrev pub is_of_blocks : ℕ → ℕ → Bool
is_of_blocks bytes blocks = list_any (λ size. blocks * size == bytes) BLOCK_SIZES

-- a command of the standards can succeed with this completion and so many bytes of data: an append tells something in the
-- dwords, a read gives its blocks, a report as many dwords as were asked for, and any other nothing
abbrev pub can_succeed_standard : Completion → ℕ → StandardCommand → Bool
can_succeed_standard c bytes (standard.Append lba blocks) = bytes == 0
can_succeed_standard c bytes (standard.Read lba blocks) = has_no_dwords c && is_of_blocks bytes blocks
can_succeed_standard c bytes (standard.Receive lba dwords filter partial) = has_no_dwords c && (bytes == 4 * dwords)
can_succeed_standard c bytes _ = has_no_dwords c && (bytes == 0)

-- a command can: a run tells something in the dwords, and a result gives the scratch bytes
abbrev pub can_succeed : Completion → ℕ → Command → Bool
can_succeed c bytes (command.Standard asked) = can_succeed_standard c bytes asked
can_succeed c bytes (command.Run run) = bytes == 0
can_succeed c bytes (command.Load load) = has_no_dwords c && (bytes == 0)
can_succeed c bytes (command.Result slot) = has_no_dwords c && (bytes == SCRATCH_BYTES)
