use Rattle.std.proofs.Common.{arith}
use Rattle.command_images.proofs.Devices.{all_taken}
use Rattle.command_images.proofs.device_file.read_held.Goals as goal

pub returns-in-Ok-clause-bytes : goal.returns-in-Ok-clause-bytes
returns-in-Ok-clause-bytes g c =
    all_taken 1073741825 c.in-Ok.bytes.items (g.F.Files.contents c.args.files.now c.args.path.now)
    (omega (arith, c.in-Ok.bytes.ok, c.len.ensures, c.if-len-le-MOST_OF_JOURNAL.true)) c.in-Ok.ensures.bytes
