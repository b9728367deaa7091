use Rattle.std.proofs.Common.{◌≡◌, ◌≤◌, ℕ, List, length, drop, Vec, vec_capacity, sym, ap, refl, subst, ◌∙◌, arith}
use Rattle.std.specs.declared.alloc.Global.{Global}
use Rattle.tcp_pdus.specs.declared.received.HostPdu.TheVariants.{CapsuleCmd}
use Rattle.tcp_connection.specs.declared.expected.Progress.{Progress}
use Rattle.tcp_connection.specs.declared.expected.Progress.TheVariants.{Partial, Whole}
use Rattle.tcp_connection.specs.declared.parts.Parts.{Parts}
use Rattle.tcp_connection.specs.Receiving.{IsBetween, ReceiverState, next, next_by}
use Rattle.tcp_connection.specs.steps.Parts.{HasRoom, IsReceiver, state_of}
use Rattle.tcp_connection.proofs.Receivers.{next_is, next_between, next_receiver}
use Rattle.tcp_connection.proofs.Standing.{data_of}
use Rattle.tcp_connection.proofs.receiver.Receiver.next_with.Goals as goal

pub invariant_of-self : goal.invariant_of-self
invariant_of-self c =
    let e = c.self.inside.expected in
    let old = c.self.inside.parts in
    let new : Parts = record { header = c.clear.new.self; «data» = c.replace.new.dest; transfer = old.transfer } in
    let is : c.self.inside.progress ≡ Whole CapsuleCmd = ap (λ (s : ReceiverState). s.progress) c.self.view_is ∙ c.requires.whole in
    let P : Progress → Type 0 = λ p. IsReceiver e old p in
    let receiver : IsReceiver e old (Whole CapsuleCmd) = subst P is c.self.invariant in
    let room : HasRoom new = record {
      header = omega (arith, c.clear.ensures.capacity, receiver.held.room.header);
      «data» = subst (λ (v : Vec ℕ Global). 8192 ≤ vec_capacity v) (sym c.replace.ensures.after) c.requires.room;
      transfer = receiver.held.room.transfer;
    } in
    next_receiver e old new c.clear.ensures.items
    (ap (λ (v : Vec ℕ Global). v.items) c.replace.ensures.after ∙ c.requires.empty) refl CapsuleCmd room receiver (λ same. absurd cc)

pub returns-clause-state : goal.returns-clause-state
returns-clause-state c =
    let e = c.self.inside.expected in
    let old = c.self.inside.parts in
    let new : Parts = record { header = c.clear.new.self; «data» = c.replace.new.dest; transfer = old.transfer } in
    let is : c.self.inside.progress ≡ Whole CapsuleCmd = ap (λ (s : ReceiverState). s.progress) c.self.view_is ∙ c.requires.whole in
    let P : Progress → Type 0 = λ p. IsReceiver e old p in
    let receiver : IsReceiver e old (Whole CapsuleCmd) = subst P is c.self.invariant in
    next_is e old new c.clear.ensures.items
    (ap (λ (v : Vec ℕ Global). v.items) c.replace.ensures.after ∙ c.requires.empty) refl CapsuleCmd receiver (λ same. absurd cc)
    ∙ ap (λ (p : Progress). next_by p (state_of e old p)) (sym is)
    ∙ ap next c.self.view_is

pub returns-clause-between : goal.returns-clause-between
returns-clause-between c =
    let P : ReceiverState → Type 0 = λ s. IsBetween s in
    subst P (sym (returns-clause-state c)) (next_between c.args.self.now CapsuleCmd c.requires.whole)

pub returns-clause-bytes : goal.returns-clause-bytes
returns-clause-bytes c =
    let e = c.self.inside.expected in
    let old = c.self.inside.parts in
    let is : c.self.inside.progress ≡ Whole CapsuleCmd = ap (λ (s : ReceiverState). s.progress) c.self.view_is ∙ c.requires.whole in
    let P : Progress → Type 0 = λ p. IsReceiver e old p in
    ap (λ (v : Vec ℕ Global). v.items) c.replace.ensures.value
    ∙ data_of e old (Whole CapsuleCmd) (subst P is c.self.invariant)
    ∙ ap (λ (s : ReceiverState). drop 72 s.pending) c.self.view_is

pub returns-clause-room : goal.returns-clause-room
returns-clause-room c =
    subst (λ (v : Vec ℕ Global). 8192 ≤ vec_capacity v) (sym c.replace.ensures.value) c.self.invariant.held.room.«data»
