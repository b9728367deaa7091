use Rattle.std.proofs.Common.{◌≡◌, ◌+◌, ◌-◌, ◌++◌, ◌∷◌, Bool, List, ℕ, None, drop, length, length-append, ap, subst, sym, take, arith, rules, ◌∙◌}
use Rattle.std.proofs.lemmas.List.{length-drop, take_rest}
use Rattle.std.proofs.lemmas.Result.{err_from_is_err_and}
use Rattle.text_lines.specs.Cut.{cut_at}
use Rattle.device_serve.specs.LineStream.{FailsIn, ends_in}
use Rattle.device_serve.specs.LineSteps.{ServesPiece, ServesText}
use Rattle.device_serve.proofs.LineCodecs.{front_done, line_taken}
use Rattle.device_serve.proofs.LineEnds.{uncut_ends}
use Rattle.device_serve.proofs.LinePieces.{cut_at_end, line_cut_off, piece_fails, piece_goes_on}
use Rattle.device_serve.proofs.lines.LineCodec.take_ended.Goals as goal

pub returns-in_default-clause-unended : goal.returns-in_default-clause-unended
returns-in_default-clause-unended g c few =
    let all = c.args.piece.now in
    let count = c.loop-rest.count in
    let none : None ≡ cut_at 10 (take (length all - count) (drop count all)) = search rules in
    subst (λ (rest : List ℕ). ends_in rest ≡ 0) (take_rest all count) (uncut_ends (take (length all - count) (drop count all)) none)

pub returns-in_default-clause-done : goal.returns-in_default-clause-done
returns-in_default-clause-done g c =
    front_done c.args.self.now c.loop-rest.self c.args.kept.now.device.value c.loop-rest.kept.device.value c.args.piece.now c.loop-rest.count
    c.args.answer.now.items c.loop-rest.answer.items c.loop-rest.invariant.served c.loop-rest.invariant.drains

pub returns-in_err-serve_ended-clause-failed : goal.returns-in_err-serve_ended-clause-failed
returns-in_err-serve_ended-clause-failed g c =
    let p = err_from_is_err_and c.from_residual.result c.from_residual.ensures.1 in
    let first = c.args.self.now in
    let old = c.loop-rest in
    let new = c.serve_ended.new in
    let front = c.in-Some.front.now in
    let behind = c.in-Some.field-0-1.now in
    let all = c.args.piece.now in
    let rest = drop old.count all in
    let left = take (length all - old.count) rest in
    let cut_left : left ≡ front ++ (10 ∷ behind) = cut_at_end left front behind c.in-Some.ensures in
    let cut : rest ≡ front ++ (10 ∷ behind) = sym (take_rest all old.count) ∙ cut_left in
    let line = take (length front + 1) left in
    rw (p.1, p.2)
    (piece_fails first.doer.drains (first.unended.items ++ c.args.piece.now) old.self.unended.items rest front behind line first.count old.self.count
    c.args.kept.now.device.value old.kept.device.value c.args.answer.now.items old.answer.items old.invariant.served cut (line_cut_off front behind left cut_left)
    c.in_err-serve_ended.field-0.0 new.kept.device.value new.answer.items
    (subst (λ (drains : Bool). FailsIn drains (old.self.unended.items ++ line) old.self.count c.in_err-serve_ended.field-0.0 old.kept.device.value
    new.kept.device.value old.answer.items new.answer.items) old.invariant.drains c.in_err-serve_ended.ensures.failed))

pub loop-rest-preserved : goal.loop-rest-preserved
loop-rest-preserved g c =
    let first = c.args.self.now in
    let all = c.args.piece.now in
    let old = c.loop-rest in
    let new = c.serve_ended.new in
    let front = c.in-Some.front.now in
    let behind = c.in-Some.field-0-1.now in
    let rest = drop old.count all in
    let left = take (length all - old.count) rest in
    let cut_left : left ≡ front ++ (10 ∷ behind) = cut_at_end left front behind c.in-Some.ensures in
    let cut : rest ≡ front ++ (10 ∷ behind) = sym (take_rest all old.count) ∙ cut_left in
    let line = take (length front + 1) left in
    let did = c.in_ok-serve_ended.ensures in
    let next = old.count + (length front + 1) in
    record {
      served =
          subst (λ (left : List ℕ). ServesPiece first.doer.drains (first.unended.items ++ all) (new.self.unended.items ++ left) first.count new.self.count
          c.args.kept.now.device.value new.kept.device.value c.args.answer.now.items new.answer.items)
          (sym (line_taken all front behind old.count next cut (omega arith)))
          (piece_goes_on first.doer.drains (first.unended.items ++ all) old.self.unended.items rest front behind line first.count old.self.count
          c.args.kept.now.device.value old.kept.device.value c.args.answer.now.items old.answer.items old.invariant.served cut (line_cut_off front behind left cut_left)
          new.self.unended.items new.self.count new.kept.device.value new.answer.items did.none
          (subst (λ (drains : Bool). ServesText drains (old.self.unended.items ++ line) old.self.count new.self.count old.kept.device.value
          new.kept.device.value old.answer.items new.answer.items) old.invariant.drains did.served));
      ready = did.ready;
      drains = did.drains ∙ old.invariant.drains;
      within = omega (arith, old.invariant.within, length-drop old.count all, ap length cut, length-append front (10 ∷ behind));
      some = λ none. absurd (omega (arith, none));
      kept = did.kept;
      same = did.same ∙ old.invariant.same;
    }

pub returns-clause-done : goal.returns-clause-done
returns-clause-done g c =
    front_done c.args.self.now c.loop-rest.self c.args.kept.now.device.value c.loop-rest.kept.device.value c.args.piece.now c.loop-rest.count
    c.args.answer.now.items c.loop-rest.answer.items c.loop-rest.invariant.served c.loop-rest.invariant.drains
