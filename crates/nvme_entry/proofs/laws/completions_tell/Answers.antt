use Rattle.nvme_entry.proofs.CompletionFields.{completions_tell}
use Rattle.nvme_entry.proofs.laws.completions_tell.Goals as goal

pub returns : goal.returns
returns c = completions_tell
