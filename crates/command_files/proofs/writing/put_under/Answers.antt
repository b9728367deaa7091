use Rattle.std.proofs.Common.{◌≡◌, rules}
use Rattle.std.specs.Prelude.{string_bytes}
use Rattle.command_files.proofs.Crashes.{placed}
use Rattle.command_files.proofs.writing.put_under.Goals as goal

pub returns-clause-crash : goal.returns-clause-crash
returns-clause-crash g c =
    let same : c.as_bytes.result.now ≡ string_bytes c.args.held.now.name = search rules in
    placed c.as_bytes.result.now (string_bytes c.args.held.now.name) c.args.file.now.written.bytes c.place_under-done.result.1 c.is_ok.result
    c.args.tried.now.attempts _ same c.place_under-done.ensures (search rules)
