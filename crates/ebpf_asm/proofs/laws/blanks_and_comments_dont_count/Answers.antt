use Rattle.ebpf_asm.proofs.Blanks.{blanks_dont_count, comments_dont_count}
use Rattle.ebpf_asm.proofs.laws.blanks_and_comments_dont_count.Goals as goal

pub returns-clause-blanks : goal.returns-clause-blanks
returns-clause-blanks c = blanks_dont_count

pub returns-clause-comments : goal.returns-clause-comments
returns-clause-comments c = comments_dont_count
