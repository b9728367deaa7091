use Rattle.std.proofs.Common.{◌≡◌, sym, ap, subst, ◌∙◌}
use Rattle.tcp_connection.specs.declared.expected.Progress.{Progress}
use Rattle.tcp_connection.specs.declared.expected.Progress.TheVariants.{Whole}
use Rattle.tcp_connection.specs.Receiving.{IsBetween, ReceiverState, next, next_by}
use Rattle.tcp_connection.specs.steps.Parts.{IsReceiver, state_of}
use Rattle.tcp_connection.proofs.Receivers.{data_fits, end_is, end_receiver, next_between}
use Rattle.tcp_connection.proofs.receiver.Receiver.next.Goals as goal

pub end_pdu-requires-clause-fits : goal.end_pdu-requires-clause-fits
end_pdu-requires-clause-fits c =
    let e = c.self.inside.expected in
    let old = c.self.inside.parts in
    let P : Progress → Type 0 = λ p. IsReceiver e old p in
    data_fits e old c.in-Whole.pdu (subst P c.in-Whole.is c.self.invariant)

pub invariant_of-self : goal.invariant_of-self
invariant_of-self c =
    let e = c.self.inside.expected in
    let old = c.self.inside.parts in
    let then = c.end_pdu.ensures in
    end_receiver e c.end_pdu.new.transfers old c.end_pdu.new.parts then.header then.inside then.transfer then.room c.self.invariant.held.bounded

pub returns-in-Whole-clause-state : goal.returns-in-Whole-clause-state
returns-in-Whole-clause-state c =
    let e = c.self.inside.expected in
    let old = c.self.inside.parts in
    let P : Progress → Type 0 = λ p. IsReceiver e old p in
    let then = c.end_pdu.ensures in
    end_is e c.end_pdu.new.transfers old c.end_pdu.new.parts then.header then.inside then.transfer c.in-Whole.pdu then.transfers
    (subst P c.in-Whole.is c.self.invariant)
    ∙ ap (λ (p : Progress). next_by p (state_of e old p)) (sym c.in-Whole.is)
    ∙ ap next c.self.view_is

pub returns-in-Whole-clause-between : goal.returns-in-Whole-clause-between
returns-in-Whole-clause-between c =
    λ pdu is.
    let P : ReceiverState → Type 0 = λ s. IsBetween s in
    subst P (sym (returns-in-Whole-clause-state c)) (next_between c.args.self.now pdu is)
