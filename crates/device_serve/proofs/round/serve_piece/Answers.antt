use Rattle.std.proofs.Common.{List, ℕ, length, subst, sym, ◌∙◌, arith}
use Rattle.std.proofs.lemmas.Bool.{eqb-true}
use Rattle.std.proofs.lemmas.Grind.{common_steps}
use Rattle.std.proofs.lemmas.List.{nil_from_length}
use Rattle.std.proofs.lemmas.Result.{err_from_is_err_and}
use Rattle.device_serve.specs.Rounds.{on}
use Rattle.device_serve.proofs.UnderWay.{ServedFront, front_all, front_breaks, front_more, front_none}
use Rattle.device_serve.proofs.round.serve_piece.Goals as goal

pub loop-rest-init : goal.loop-rest-init
loop-rest-init g c =
    let store = g.S.Store in record {
      front = front_none g.C.Codec.does store.told store.settled c.args.piece.now _ c.args.answer.now.items;
      few = λ some. c.requires.few;
      kept = c.requires.kept;
      ready = c.requires.ready;
      faults = omega arith;
    }

pub loop-rest-preserved : goal.loop-rest-preserved
loop-rest-preserved g c =
    let store = g.S.Store in
    let first = on c.args.codec.now c.args.kept.now.device.value (g.W.Write.contents c.args.out.now) (store.disk c.args.kept.now.events) in
    let now = on c.serve_batch.new.codec c.serve_batch.new.kept.device.value (g.W.Write.contents c.serve_batch.new.out)
    (store.disk c.serve_batch.new.kept.events) in
    record {
      front = subst (λ (l : List ℕ). ServedFront g.C.Codec.does store.told store.settled c.args.piece.now l first c.args.answer.now.items now c.serve_batch.new.answer.items)
          (grind (arith, common_steps))
          (front_more g.C.Codec.does store.told store.settled c.args.piece.now c.loop-rest.rest.now c.args.answer.now.items c.loop-rest.answer.items
          c.serve_batch.new.answer.items c.in_ok-count.count first _ now c.loop-rest.invariant.front c.in_ok-count.ensures.served);
      few = λ some. c.in_ok-count.ensures.few (grind (arith, common_steps));
      kept = c.in_ok-count.ensures.kept;
      ready = c.serve_batch.ensures.ready;
      faults = omega (arith, c.loop-rest.invariant.faults, c.serve_batch.ensures.blames.later);
    }

pub returns-clause-served : goal.returns-clause-served
returns-clause-served g c =
    let store = g.S.Store in
    let none = nil_from_length c.loop-rest.rest.now (eqb-true (length c.loop-rest.rest.now) 0 (sym c.is_empty.ensures ∙ c.loop-rest-test.false)) in
    front_all g.C.Codec.does store.told store.settled c.args.piece.now c.loop-rest.rest.now c.args.answer.now.items c.loop-rest.answer.items _ _
    c.loop-rest.invariant.front none

pub returns-in_err-count-clause-stopped : goal.returns-in_err-count-clause-stopped
returns-in_err-count-clause-stopped g c =
    let store = g.S.Store in
    let p = err_from_is_err_and c.from_residual.result c.from_residual.ensures.1 in
    rw (p.1, p.2) (front_breaks g.C.Codec.does store.told store.settled g.C.Codec.ends g.C.Codec.stops c.args.piece.now c.loop-rest.rest.now
    c.args.answer.now.items c.loop-rest.answer.items _ _ _ c.in_err-count.field-0.0 c.loop-rest.invariant.front c.in_err-count.ensures.stopped)
