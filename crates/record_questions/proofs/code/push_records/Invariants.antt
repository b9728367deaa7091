use Rattle.std.proofs.Common.{◌≡◌, ◌++◌, ◌+◌, ◌-◌, ◌*◌}
use Rattle.record_questions.specs.Code.{records_code}
use Rattle.record_questions.proofs.code.push_records.Given as goal

-- what is pushed, and what is left to push
abbrev pub invariant-loop-index : goal.invariant-loop-index
invariant-loop-index l =
    l.code.items ++ records_code l.question (l.question.count - l.index) (l.question.first + l.index * l.question.size)
    ≡ l.initial.code.items ++ records_code l.question l.question.count l.question.first
