use Rattle.std.proofs.Common.{ℕ, List, sym, subst}
use Rattle.tcp_connection.specs.Receiving.{IsDataOf, ReceiverState}
use Rattle.tcp_connection.specs.steps.Parts.{state_of}
use Rattle.tcp_connection.proofs.Standing.{data_of}
use Rattle.tcp_connection.proofs.receiver.Receiver.data.Goals as goal

pub returns : goal.returns
returns c =
    let inside = c.self.inside in
    subst (λ (s : ReceiverState). IsDataOf s.progress s c.as_slice.result.now) c.self.view_is
    (subst (λ (bytes : List ℕ). IsDataOf inside.progress (state_of inside.expected inside.parts inside.progress) bytes) (sym c.as_slice.ensures.value)
    (data_of inside.expected inside.parts inside.progress c.self.invariant))
