use Rattle.ebpf_link.proofs.Widths.{equal, greater, less, no_greater, no_less, not_equal}
use Rattle.ebpf_link.proofs.widening.is_unsigned.Goals as goal

pub returns-in-Equal : goal.returns-in-Equal
returns-in-Equal c = λ _. rw c.in-Equal.is equal

pub returns-in-NotEqual : goal.returns-in-NotEqual
returns-in-NotEqual c = λ _. rw c.in-NotEqual.is not_equal

pub returns-in-Greater : goal.returns-in-Greater
returns-in-Greater c = λ _. rw c.in-Greater.is greater

pub returns-in-GreaterOrEqual : goal.returns-in-GreaterOrEqual
returns-in-GreaterOrEqual c = λ _. rw c.in-GreaterOrEqual.is no_less

pub returns-in-Less : goal.returns-in-Less
returns-in-Less c = λ _. rw c.in-Less.is less

pub returns-in-LessOrEqual : goal.returns-in-LessOrEqual
returns-in-LessOrEqual c = λ _. rw c.in-LessOrEqual.is no_greater
