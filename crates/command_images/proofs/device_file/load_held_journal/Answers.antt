use Rattle.command_images.proofs.Devices.{refused_as_journal}
use Rattle.command_images.proofs.device_file.load_held_journal.Goals as goal

pub returns-clause-failed : goal.returns-clause-failed
returns-clause-failed g c =
    refused_as_journal g.F.Reader.Source.tells (g.F.Files.contents c.args.files.now c.args.path.now) c.in_ok-bytes.bytes.items c.deref.result.now c.args.path
    c.deref.ensures.value c.in_ok-bytes.ensures.bytes c.requires.none c.journal_device.result c.journal_device.ensures.refused
