use Rattle.command_images.proofs.Devices.{fails_cut}
use Rattle.command_images.proofs.device_file.cut.Goals as goal

pub returns-in-Ok-clause-failed : goal.returns-in-Ok-clause-failed
returns-in-Ok-clause-failed g c =
    fails_cut g.F.Reader.Source.tells (g.F.Files.contents c.args.files.now c.args.path.now) c.in-Ok.bytes.items c.deref.result.now c.args.path
    c.cut_after.result c.deref.ensures.value c.in-Ok.ensures.bytes c.requires c.cut_after.ensures.told
