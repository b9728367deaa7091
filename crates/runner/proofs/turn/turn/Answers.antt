use Rattle.std.proofs.Common.{ℕ, get_or, None, ap, subst, sym, ◌∙◌, arith}
use Rattle.std.proofs.lemmas.List.{get_or_default}
use Rattle.device_meaning.specs.Judging.{judge_by}
use Rattle.device_meaning.specs.EventReplies.{Happening}
use Rattle.device_meaning.specs.Happenings.{turned}
use Rattle.device_meaning.specs.Reached.{IsReached}
use Rattle.device_meaning.specs.State.{State}
use Rattle.runner.proofs.DeviceTurns.{fits_at, idles_past}
use Rattle.runner.proofs.turn.turn.Goals as goal

pub returns-then-place-count-clause-reply : goal.returns-then-place-count-clause-reply
returns-then-place-count-clause-reply g c =
    let d = c.state.inside in
    let idles = idles_past d.namespace d.slots d.runs c.args.state.now c.args.run c.state.view_is (omega arith) in
    sym (ap (λ (h : Happening). h.reply.reply) idles)

pub returns-then-place-count-clause-state : goal.returns-then-place-count-clause-state
returns-then-place-count-clause-state g c =
    let d = c.state.inside in
    let idles = idles_past d.namespace d.slots d.runs c.args.state.now c.args.run c.state.view_is (omega arith) in
    let same = sym (ap (λ (h : Happening). h.state) idles) in
    let view = c.state.view_is in
    cc

pub turn_place-requires : goal.turn_place-requires
turn_place-requires g c =
    let d = c.state.inside in
    let judge = judge_by g.D.Domain.operations in (
      omega arith,
      fits_at judge c.domains_judge_soundly.ensures d.namespace d.slots d.runs c.from-place.result _ c.state.invariant
          (subst (IsReached judge) (sym c.state.view_is) c.requires.reached)
          (get_or_default d.runs c.from-place.result None c.index-state-place.result (omega arith)),
    )

pub invariant_of-state : goal.invariant_of-state
invariant_of-state g c =
    let d = c.state.inside in
    let at = ap (λ (n : ℕ). get_or d.runs n None) (sym c.from-place.ensures)
    ∙ get_or_default d.runs c.from-place.result None c.index-state-place.result (omega arith) in
    rw c.from-place.ensures (c.turn_place.ensures.turned d.runs at c.state.invariant).ready

pub returns-clause-reply : goal.returns-clause-reply
returns-clause-reply g c =
    let d = c.state.inside in
    let at = ap (λ (n : ℕ). get_or d.runs n None) (sym c.from-place.ensures)
    ∙ get_or_default d.runs c.from-place.result None c.index-state-place.result (omega arith) in
    (c.turn_place.ensures.turned d.runs at c.state.invariant).reply
    ∙ ap (λ (s : State). (turned s c.args.run).reply.reply) c.state.view_is

pub returns-clause-state : goal.returns-clause-state
returns-clause-state g c =
    let d = c.state.inside in
    let at = ap (λ (n : ℕ). get_or d.runs n None) (sym c.from-place.ensures)
    ∙ get_or_default d.runs c.from-place.result None c.index-state-place.result (omega arith) in
    rw c.from-place.ensures
    ((c.turn_place.ensures.turned d.runs at c.state.invariant).state
    ∙ ap (λ (s : State). (turned s c.args.run).state) c.state.view_is)
