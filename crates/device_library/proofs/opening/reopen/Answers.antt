use Rattle.std.proofs.Common.{subst}
use Rattle.stored_file.specs.File.{FileState}
use Rattle.handed_file.specs.Handed.{noted}
use Rattle.durable_device.specs.Kept.{KeepsRestarted}
use Rattle.device_library.specs.Files.{known_by, promised_of}
use Rattle.device_library.proofs.Knowing.{known_alone}
use Rattle.device_library.proofs.Refusing.{refused_journal}
use Rattle.device_library.proofs.Reopening.{reopened_keeps}
use Rattle.device_library.proofs.opening.reopen.Goals as goal

pub returns-in-Ok-clause-opened : goal.returns-in-Ok-clause-opened
returns-in-Ok-clause-opened c =
    let store = c.in-Ok.device.store in
    let new = promised_of store.events.journal.file in
    let moments = subst (λ (old : FileState). KeepsRestarted old new) (known_alone c.args.file c.requires.settled) c.in-Ok.ensures.any_moment in
    record {
      is = c.in-Ok.ensures.state;
      moments = moments;
      found = reopened_keeps (known_by (noted c.args.file)) new store.machine c.in-Ok.ensures.state moments;
    }

pub returns-in-Err-clause-refused : goal.returns-in-Err-clause-refused
returns-in-Err-clause-refused c =
    refused_journal (promised_of c.args.file) (promised_of c.in-Err._left) c.args.bytes.now c.in-Err.fault c.number_of.result c.requires.read
    c.in-Err.ensures.refused c.number_of.ensures
