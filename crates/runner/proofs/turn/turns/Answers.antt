use Rattle.std.proofs.Common.{◌≡◌, ◌-◌, ℕ, zero, refl, ap, sym, ◌∙◌, arith}
use Rattle.device_meaning.specs.EventReplies.{Happening}
use Rattle.device_meaning.specs.Happenings.{turned}
use Rattle.device_meaning.specs.Judging.{judge_by}
use Rattle.device_meaning.specs.State.{State}
use Rattle.runner.specs.Turns.{has_turns_left, turned_on}
use Rattle.runner.proofs.ManyTurns.{goes_on, is_last, turn_reached}
use Rattle.runner.proofs.turn.turns.Given as given
use Rattle.runner.proofs.turn.turns.Goals as goal
use Rattle.runner.proofs.turn.turns.Goals.{then-left-eq0-via-then-left-eq0, then-left-eq0-via-else-left-eq0+then-not-has_turns_left}

pub loop-left-init : goal.loop-left-init
loop-left-init g c = record { same = refl; reached = c.requires.reached }

pub turn-reply-requires : goal.turn-reply-requires
turn-reply-requires g c = (omega arith, c.loop-left.invariant.reached)

-- the turn is the last, since no more are asked for or the run has none left
last : (g : given.Over) (c : goal.Joined-then-left-eq0 g)
    → turned_on c.args.more c.args.state.now c.args.run ≡ turned c.loop-left.state c.args.run
last g c =
    sym c.loop-left.invariant.same
    ∙ elim c.then-left-eq0.branch [
      | then-left-eq0-via-then-left-eq0 w ↦
          let none : c.loop-left.left ≡ zero = omega (arith, w.if-left-eq0.true) in
          ap (λ (n : ℕ). turned_on n c.loop-left.state c.args.run) none
      | then-left-eq0-via-else-left-eq0+then-not-has_turns_left w ↦
          is_last c.args.run c.loop-left.state c.loop-left.left
          (ap has_turns_left (sym c.turn-reply.ensures.reply) ∙ sym w.has_turns_left.ensures ∙ w.if-not-has_turns_left.true)
    ]

pub returns-then-left-eq0-clause-reply : goal.returns-then-left-eq0-clause-reply
returns-then-left-eq0-clause-reply g c = c.turn-reply.ensures.reply ∙ ap (λ (h : Happening). h.reply.reply) (sym (last g c))

pub returns-then-left-eq0-clause-state : goal.returns-then-left-eq0-clause-state
returns-then-left-eq0-clause-state g c = c.turn-reply.ensures.state ∙ ap (λ (h : Happening). h.state) (sym (last g c))

pub returns-then-left-eq0-clause-reached : goal.returns-then-left-eq0-clause-reached
returns-then-left-eq0-clause-reached g c =
    turn_reached (judge_by g.D.Domain.operations) c.loop-left.state c.turn-reply.new.state c.args.run c.loop-left.invariant.reached
    c.turn-reply.ensures.state

pub loop-left-smaller : goal.loop-left-smaller
loop-left-smaller g c = omega (arith, c.if-left-eq0.false)

pub loop-left-preserved : goal.loop-left-preserved
loop-left-preserved g c =
    let some = ap has_turns_left (sym c.turn-reply.ensures.reply) ∙ sym c.has_turns_left.ensures ∙ c.if-not-has_turns_left.false in
    record {
      same = ap (λ (s : State). turned_on (c.loop-left.left - 1) s c.args.run) c.turn-reply.ensures.state
          ∙ sym (goes_on c.args.run c.loop-left.state c.loop-left.left (omega (arith, c.if-left-eq0.false)) some) ∙ c.loop-left.invariant.same;
      reached = turn_reached (judge_by g.D.Domain.operations) c.loop-left.state c.turn-reply.new.state c.args.run c.loop-left.invariant.reached
          c.turn-reply.ensures.state;
    }
