use Rattle.std.proofs.Common.{◌≡◌, ℕ, List, length, ap, sym, subst, ◌∙◌, arith}
use Rattle.tcp_connection.specs.declared.expected.Progress.{Progress}
use Rattle.tcp_connection.specs.declared.expected.Progress.TheVariants.{Whole}
use Rattle.tcp_connection.specs.Receiving.{IsHeaderOf, ReceiverState}
use Rattle.tcp_connection.specs.steps.Parts.{IsReceiver, pending_of, state_of}
use Rattle.tcp_connection.proofs.Comes.{comes}
use Rattle.tcp_connection.proofs.Standing.{header_of, whole_stands}
use Rattle.tcp_connection.proofs.receiver.Receiver.header.Goals as goal

pub returns-clause-bytes : goal.returns-clause-bytes
returns-clause-bytes c =
    let inside = c.self.inside in
    subst (λ (s : ReceiverState). IsHeaderOf s.progress s c.as_slice.result.now) c.self.view_is
    (subst (λ (bytes : List ℕ). IsHeaderOf inside.progress (state_of inside.expected inside.parts inside.progress) bytes) (sym c.as_slice.ensures.value)
    (header_of inside.expected inside.parts inside.progress c.self.invariant))

pub returns-clause-most : goal.returns-clause-most
returns-clause-most c = omega (arith, ap (length {A = ℕ}) c.as_slice.ensures.value, c.self.invariant.held.few.header)

pub returns-clause-whole : goal.returns-clause-whole
returns-clause-whole c =
    λ pdu is.
    let inside = c.self.inside in
    let P : Progress → Type 0 = λ p. IsReceiver inside.expected inside.parts p in
    let progress : inside.progress ≡ Whole pdu = ap (λ (s : ReceiverState). s.progress) c.self.view_is ∙ is in
    ap (length {A = ℕ}) c.as_slice.ensures.value
    ∙ (whole_stands inside.expected inside.parts pdu (subst P progress c.self.invariant)
    (comes inside.expected (pending_of inside.parts))).long
