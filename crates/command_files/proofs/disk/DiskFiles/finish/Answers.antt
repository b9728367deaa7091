use Rattle.std.proofs.Common.{◌≡◌, Some, ap}
use Rattle.std.proofs.lemmas.Result.{on_ok_weaker}
use Rattle.command_files.proofs.Proved.{leaves_weaker}
use Rattle.command_files.proofs.disk.DiskFiles.finish.Goals as goal

pub returns-clause-made : goal.returns-clause-made
returns-clause-made g c = on_ok_weaker c.place.result (λ made. ap Some made) (c.place.ensures.made c.args._path.now c.requires)

pub returns-clause-crash : goal.returns-clause-crash
returns-clause-crash g c =
    leaves_weaker c.args._path.now (λ bytes. bytes ≡ c.args.file.written.bytes) _ (λ bytes is told. is) c.args.self.now.tried.attempts c.place.new.self.tried.attempts
    (c.place.ensures.crash c.args._path.now c.requires)
