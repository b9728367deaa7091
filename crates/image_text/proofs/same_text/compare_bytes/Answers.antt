use Rattle.std.proofs.Common.{◌∙◌, take, drop, sym, subst, arith}
use Rattle.std.proofs.lemmas.List.{take-append-drop, take_rest}
use Rattle.std.proofs.lemmas.Result.{err_from_is_err_and}
use Rattle.image_text.specs.SameText.{IsSameSoFar}
use Rattle.image_text.proofs.SameTexts.{goes_on, stops_at}
use Rattle.image_text.proofs.same_text.compare_bytes.Goals as goal

pub returns-in_err-count-clause-compares : goal.returns-in_err-count-clause-compares
returns-in_err-count-clause-compares g c =
    let p = err_from_is_err_and c.from_residual.result c.from_residual.ensures.1 in
    let l = c.loop-rest in
    rw (p.1, p.2) (λ told. stops_at (g.R.Source.rest c.args.source.now) (g.R.Source.rest l.source) (g.R.Source.rest c.compare_piece.new.source) c.args.bytes.now l.rest.now c.in_err-count.field-0.0
    (l.invariant.same told) (c.in_err-count.ensures.compares told))

pub loop-rest-preserved : goal.loop-rest-preserved
loop-rest-preserved g c =
    let l = c.loop-rest in
    let rest = l.rest.now in
    let count = c.in_ok-count.count in
    let before = g.R.Source.rest c.args.source.now in
    let mid = g.R.Source.rest l.source in
    let after = g.R.Source.rest c.compare_piece.new.source in
    let so_far = IsSameSoFar before mid c.args.bytes.now in
    record {
      same = λ told. subst (IsSameSoFar before after c.args.bytes.now) (sym (take_rest rest count))
          (goes_on before mid after c.args.bytes.now (take count rest) (drop count rest) (subst so_far (sym (take-append-drop count rest)) (l.invariant.same told))
          (c.in_ok-count.ensures.compares told));
      room = omega (arith, c.compare_piece.auto.piece, l.invariant.room);
      count = c.in_ok-count.ensures.failures ∙ l.invariant.count;
    }
