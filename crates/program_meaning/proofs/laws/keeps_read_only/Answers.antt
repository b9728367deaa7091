use Rattle.program_meaning.proofs.StateLemmas.{read_only_kept}
use Rattle.program_meaning.proofs.laws.keeps_read_only.Goals as goal

pub returns : goal.returns
returns c = read_only_kept
