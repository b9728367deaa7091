use Rattle.std.proofs.Common.{sym}
use Rattle.command_files.specs.declared.memory_files.TheConstants.{NEW_MODE}
use Rattle.command_files.proofs.FilesBehind.{modes_behind, replaced_behind}
use Rattle.command_files.proofs.memory_files.MemoryFiles.put.Goals as goal

pub returns-clause-replaced : goal.returns-clause-replaced
returns-clause-replaced c =
    rw (c.in_ok-push.ensures.items, sym c.in_ok-from_str.ensures.ok, sym c.in_ok-from_slice.ensures.items)
    (replaced_behind c.args.self.now.files.items _)

pub returns-clause-modes : goal.returns-clause-modes
returns-clause-modes c =
    rw c.in_ok-push.ensures.items
    (modes_behind c.args.self.now.files.items _ NEW_MODE
    (rw c.in_ok-from_str.ensures.ok c.mode.ensures))
