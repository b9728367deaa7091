use Rattle.std.proofs.Common.{[], refl}
use Rattle.durable_machine.proofs.Waiting.{all_committed, is_durable}
use Rattle.durable_machine.proofs.Files.{rests_before}
use Rattle.durable_machine.proofs.in_file.InFileStore.rests.Goals as goal

pub returns-clause-at_rest : goal.returns-clause-at_rest
returns-clause-at_rest g c machine journal settled = all_committed g.M.Machine.loads g.M.Machine.next [] machine journal.gate (g.F.StoredFile.told journal.file) refl settled

pub returns-clause-all_settled : goal.returns-clause-all_settled
returns-clause-all_settled g c machine journal kept = is_durable g.M.Machine.loads g.M.Machine.next [] machine journal.gate (g.F.StoredFile.told journal.file) refl kept

pub returns-clause-stands : goal.returns-clause-stands
returns-clause-stands g c machine journal file settled left =
    rests_before g.M.Machine.loads g.M.Machine.next machine journal.gate (g.F.StoredFile.told journal.file) settled file left
