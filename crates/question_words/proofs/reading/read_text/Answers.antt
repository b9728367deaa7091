use Rattle.std.proofs.Common.{◌≡◌, ◌∙◌, ap, sym, subst, length, arith}
use Rattle.std.proofs.lemmas.Bool.{eqb-true}
use Rattle.std.proofs.lemmas.Result.{err_from_is_err_and}
use Rattle.common_definitions.specs.Gives.{Gives}
use Rattle.question_words.specs.Condition.{said}
use Rattle.question_words.specs.Cutting.{cuts}
use Rattle.question_words.specs.Fault.{fault_of}
use Rattle.question_words.specs.Layout.{entries}
use Rattle.question_words.specs.Reading.{Wanted, read_words}
use Rattle.question_words.specs.steps.Views.{opens, reading_view}
use Rattle.question_words.proofs.Nearest.{opens_none}
use Rattle.question_words.proofs.Steps.{at_end, word_refused, word_taken}
use Rattle.question_words.proofs.reading.read_text.Goals as goal

pub loop-rest-init : goal.loop-rest-init
loop-rest-init c = record {
  within = omega arith;
  same = ap (λ before. read_words (entries c.args.layout.now) (length c.args.text.now) (cuts c.args.text.now) (record { stage = Wanted; before = before })) (ap opens c.new.ensures.items ∙ opens_none);
}

pub returns-in_err-reading : goal.returns-in_err-reading
returns-in_err-reading c =
    let p = err_from_is_err_and c.from_residual.result c.from_residual.ensures.1 in
    rw (p.1, p.2)
    (word_refused (entries c.args.layout.now) (length c.args.text.now) c.loop-rest.rest.now c.first_word.result.0.now c.first_word.result.1.now (reading_view c.loop-rest.reading) c.in_err-reading.field-0.0 _
    c.first_word.ensures.word c.first_word.ensures.rest c.first_word.ensures.shorter c.loop-rest.invariant.same c.in_err-reading.ensures)

pub loop-rest-preserved : goal.loop-rest-preserved
loop-rest-preserved c = record {
  within = omega (arith, c.first_word.ensures.shorter, c.loop-rest.invariant.within);
  same =
      word_taken (entries c.args.layout.now) (length c.args.text.now) c.loop-rest.rest.now c.first_word.result.0.now c.first_word.result.1.now (reading_view c.loop-rest.reading) (reading_view c.in_ok-reading.reading)
      c.first_word.ensures.word c.first_word.ensures.rest c.first_word.ensures.shorter c.in_ok-reading.ensures
      ∙ c.loop-rest.invariant.same;
}

pub returns : goal.returns
returns c =
    let s = reading_view c.loop-rest.reading in
    let none : length c.loop-rest.rest.now ≡ 0 = eqb-true _ _ (sym c.is_empty.ensures ∙ c.loop-rest-test.false) in
    let same = sym (at_end (entries c.args.layout.now) (length c.args.text.now) c.loop-rest.rest.now s none) ∙ c.loop-rest.invariant.same in
    subst (λ reading. Gives fault_of said c.finish.result reading) same c.finish.ensures
