use Rattle.std.proofs.Common.{◌+◌, ◌%◌, not, inl, inr, refl, ◌∙◌, arith}
use Rattle.std.proofs.lemmas.List.{length-set}
use Rattle.device_serve.proofs.FrameTurns.{free_begun, free_on, free_there, goes_begun, goes_done, goes_grown, goes_on, grown_same, went_on, went_so_far}
use Rattle.device_serve.proofs.frames.turns.give_turns.Goals as goal

pub loop-given-init : goal.loop-given-init
loop-given-init g c = record {
  round = goes_begun c.args.turns c.args.kept.now.device.value c.args.answer.now.items;
  kept = c.requires.kept;
  same = refl;
  free = free_begun c.args.kept.now.device.value;
  all = refl;
}

pub turn_unless-requires-clause-free : goal.turn_unless-requires-clause-free
turn_unless-requires-clause-free g c =
    free_there c.loop-given.free c.loop-given.kept.device.value c.from-place.result c.loop-given.run c.loop-given.invariant.free c.from-place.ensures

pub loop-given-preserved : goal.loop-given-preserved
loop-given-preserved g c = record {
  round = goes_on c.args.turns c.loop-given.given c.counted.result.0 c.loop-given.idle c.counted.result.1 c.loop-given.run ((c.loop-given.run + 1) % 8) c.in_ok-was.was'
      c.args.kept.now.device.value c.loop-given.kept.device.value c.turn_unless.new.kept.device.value
      c.args.answer.now.items c.loop-given.answer.items c.turn_unless.new.answer.items
      c.loop-given.invariant.round c.in_ok-was.ensures.gave c.counted.ensures.given (omega (arith, c.counted.ensures.more, c.loop-given-test.true))
      c.counted.ensures.idle c.counted.ensures.within refl;
  kept = c.turn_unless.ensures.kept;
  same = c.turn_unless.ensures.same ∙ c.loop-given.invariant.same;
  free = free_on c.loop-given.free c.from-place.result c.loop-given.run c.in_ok-was.was' c.loop-given.kept.device.value c.turn_unless.new.kept.device.value
      c.loop-given.answer.items c.turn_unless.new.answer.items (omega (arith, c.loop-given.invariant.round.run_is, c.loop-given.invariant.all))
      c.loop-given.invariant.free c.in_ok-was.ensures.gave c.from-place.ensures;
  all = length-set c.loop-given.free c.from-place.result (not c.in_ok-was.was') ∙ c.loop-given.invariant.all;
}

pub returns-after-loop-given-clause-given : goal.returns-after-loop-given-clause-given
returns-after-loop-given-clause-given g c =
    goes_done c.args.turns c.loop-given.given c.loop-given.idle c.loop-given.run c.args.kept.now.device.value c.loop-given.kept.device.value
    c.args.answer.now.items c.loop-given.answer.items c.loop-given.invariant.round
    (inl (omega (arith, c.loop-given.invariant.round.few, c.loop-given-test.false)))

pub returns-after-loop-given-clause-round : goal.returns-after-loop-given-clause-round
returns-after-loop-given-clause-round g c =
    went_so_far c.args.turns c.loop-given.given c.loop-given.idle c.loop-given.run c.args.kept.now.device.value c.loop-given.kept.device.value
    c.args.answer.now.items c.loop-given.answer.items c.loop-given.invariant.round

pub returns-after-loop-given-clause-grown : goal.returns-after-loop-given-clause-grown
returns-after-loop-given-clause-grown g c =
    goes_grown c.args.turns c.loop-given.given c.loop-given.idle c.loop-given.run c.args.kept.now.device.value c.loop-given.kept.device.value
    c.args.answer.now.items c.loop-given.answer.items c.loop-given.invariant.round

pub returns-else-idle-lt-NUMBERS-clause-given : goal.returns-else-idle-lt-NUMBERS-clause-given
returns-else-idle-lt-NUMBERS-clause-given g c =
    goes_done c.args.turns c.loop-given.given c.loop-given.idle c.loop-given.run c.args.kept.now.device.value c.loop-given.kept.device.value
    c.args.answer.now.items c.loop-given.answer.items c.loop-given.invariant.round
    (inr (omega (arith, c.loop-given.invariant.round.still, c.if-idle-lt-NUMBERS.false)))

pub returns-else-idle-lt-NUMBERS-clause-round : goal.returns-else-idle-lt-NUMBERS-clause-round
returns-else-idle-lt-NUMBERS-clause-round g c =
    went_so_far c.args.turns c.loop-given.given c.loop-given.idle c.loop-given.run c.args.kept.now.device.value c.loop-given.kept.device.value
    c.args.answer.now.items c.loop-given.answer.items c.loop-given.invariant.round

pub returns-else-idle-lt-NUMBERS-clause-grown : goal.returns-else-idle-lt-NUMBERS-clause-grown
returns-else-idle-lt-NUMBERS-clause-grown g c =
    goes_grown c.args.turns c.loop-given.given c.loop-given.idle c.loop-given.run c.args.kept.now.device.value c.loop-given.kept.device.value
    c.args.answer.now.items c.loop-given.answer.items c.loop-given.invariant.round

pub returns-in_err-was-clause-same : goal.returns-in_err-was-clause-same
returns-in_err-was-clause-same g c = c.turn_unless.ensures.same ∙ c.loop-given.invariant.same

pub returns-in_err-was-clause-round : goal.returns-in_err-was-clause-round
returns-in_err-was-clause-round g c =
    went_on c.args.turns c.loop-given.given c.loop-given.idle c.loop-given.run c.args.kept.now.device.value c.loop-given.kept.device.value
    c.turn_unless.new.kept.device.value c.args.answer.now.items c.loop-given.answer.items c.loop-given.invariant.round
    (omega (arith, c.loop-given-test.true)) c.in_err-was.ensures.began

pub returns-in_err-was-clause-grown : goal.returns-in_err-was-clause-grown
returns-in_err-was-clause-grown g c =
    grown_same c.args.answer.now.items c.loop-given.answer.items c.turn_unless.new.answer.items
    (goes_grown c.args.turns c.loop-given.given c.loop-given.idle c.loop-given.run c.args.kept.now.device.value c.loop-given.kept.device.value
    c.args.answer.now.items c.loop-given.answer.items c.loop-given.invariant.round)
    c.in_err-was.ensures.unanswered
