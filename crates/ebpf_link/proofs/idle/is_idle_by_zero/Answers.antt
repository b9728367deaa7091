use Rattle.std.specs.Int.Bits.{or_zero_r, xor_zero_r}
use Rattle.ebpf_link.proofs.Unchanged.{added, lowered, raised, taken}
use Rattle.ebpf_link.proofs.idle.is_idle_by_zero.Goals as goal

pub returns-in-Add : goal.returns-in-Add
returns-in-Add c = λ _. rw c.in-Add.is added

pub returns-in-Subtract : goal.returns-in-Subtract
returns-in-Subtract c = λ _. rw c.in-Subtract.is taken

pub returns-in-Or : goal.returns-in-Or
returns-in-Or c = λ _. rw c.in-Or.is (λ width n below. or_zero_r n)

pub returns-in-Xor : goal.returns-in-Xor
returns-in-Xor c = λ _. rw c.in-Xor.is (λ width n below. xor_zero_r n)

pub returns-in-LeftShift : goal.returns-in-LeftShift
returns-in-LeftShift c = λ _. rw c.in-LeftShift.is raised

pub returns-in-RightShift : goal.returns-in-RightShift
returns-in-RightShift c = λ _. rw c.in-RightShift.is lowered
