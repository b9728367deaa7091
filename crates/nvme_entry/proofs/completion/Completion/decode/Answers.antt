use Rattle.std.proofs.Common.{sym, ◌∙◌}
use Rattle.nvme_entry.specs.Completion.{completion_bytes}
use Rattle.nvme_entry.specs.CompletionFields.{AreCompletionFields, completion_in}
use Rattle.nvme_entry.proofs.CompletionFields.{completions_read_back}
use Rattle.nvme_entry.proofs.WrittenAgain.{no_other_is_read}
use Rattle.nvme_entry.proofs.completion.Completion.decode.Goals as goal

pub returns-else-eq-clause-read_back : goal.returns-else-eq-clause-read_back
returns-else-eq-clause-read_back c =
    no_other_is_read AreCompletionFields completion_in completion_bytes completions_read_back c.args.bytes.now c.encode.result c.in_ok-completion.completion c.in_ok-completion.ensures c.encode.ensures (sym c.eq.ensures ∙ c.if-eq.false)
