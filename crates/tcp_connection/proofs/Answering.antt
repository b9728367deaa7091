-- The completion that is sent.
use Rattle.std.proofs.Common.{◌≡◌, ℕ, List, ap, ◌∙◌}
use Rattle.tcp_pdus.specs.Sent.{capsule_resp}
use Rattle.tcp_pdus.specs.Answer.{answer_bytes}
use Rattle.tcp_connection.specs.declared.queue.Outcome.{Outcome}
use Rattle.tcp_connection.specs.declared.queue.Queue.{Queue}
use Rattle.tcp_connection.specs.Sending.{completion, told_head}

-- the bytes of a completion, whose head is told
abbrev pub bytes_with : Queue → ℕ → ℕ → Outcome → List ℕ
bytes_with queue told command outcome =
    answer_bytes (record { dw0 = outcome.dw0; dw1 = outcome.dw1; head = told; queue = queue.id; command = command; status = outcome.status })

pub completion_is : (queue : Queue) (head next told command : ℕ) (outcome : Outcome) (bytes : List ℕ) → head ≡ next → told ≡ told_head queue head
    → bytes ≡ bytes_with queue told command outcome → capsule_resp bytes ≡ completion queue next command outcome
completion_is queue head next told command outcome bytes same_head same_told is =
    ap capsule_resp
    (is ∙ ap (λ (t : ℕ). bytes_with queue t command outcome) (same_told ∙ ap (told_head queue) same_head))
