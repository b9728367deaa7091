use Rattle.std.proofs.Common.{◌≡◌, List, subst, sym}
use Rattle.placed_file.specs.Placing.{Attempt}
use Rattle.command_files.specs.Crash.{LeavesOldOrNew}
use Rattle.command_files.proofs.disk.Disk.place.Goals as goal

pub returns-in-Err-clause-crash : goal.returns-in-Err-clause-crash
returns-in-Err-clause-crash g c = λ name is.
    subst (λ (tried : List Attempt). LeavesOldOrNew name (λ bytes. bytes ≡ c.args.file.written.bytes) c.args.self.now.tried.attempts tried) (sym c.discard.ensures.tried)
    (c.put_in_place.ensures.crash name is)
