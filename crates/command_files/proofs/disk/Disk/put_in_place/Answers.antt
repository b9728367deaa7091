use Rattle.std.proofs.Common.{◌≡◌, List, ℕ, subst, rules}
use Rattle.std.specs.Prelude.{string_bytes}
use Rattle.command_files.specs.Crash.{LeavesOldOrNew}
use Rattle.command_files.proofs.disk.Disk.put_in_place.Goals as goal

pub returns-clause-crash : goal.returns-clause-crash
returns-clause-crash g c = λ name is.
    let same : string_bytes c.unwrap-held.result.now.name ≡ name = search rules in
    subst (λ (n : List ℕ). LeavesOldOrNew n (λ bytes. bytes ≡ c.args.file.now.written.bytes) c.args.self.now.tried.attempts c.put_under.new.tried.attempts)
    same c.put_under.ensures.crash
