-- Turns that a run is given at once, one turn more.
use Rattle.std.proofs.Common.{◌≡◌, ◌<◌, ◌-◌, ℕ, zero, suc, Bool, true, false, refl, ap, ◌∙◌, arith}
use Rattle.std.specs.Prelude.{cond}
use Rattle.device_events.specs.ToldEvents as told
use Rattle.device_meaning.specs.Happenings.{turned}
use Rattle.device_meaning.specs.Judging.{Judge}
use Rattle.device_meaning.specs.Reached.{IsReached}
use Rattle.device_meaning.specs.State.{State}
use Rattle.runner.specs.Turns.{has_turns_left, turned_on}
use Rattle.runner.proofs.Happened.{reached_more}

-- a turn leads from a state that events leave to another
pub turn_reached : (judge : Judge) (s t : State) (run : ℕ) → IsReached judge s → t ≡ (turned s run).state → IsReached judge t
turn_reached judge s t run reached = reached_more judge s t (record { event = told.Turned run; starved = false }) reached tt

module _ (run : ℕ) (s : State) where
  either : (more : ℕ) (left : Bool) → has_turns_left (turned s run).reply.reply ≡ left
      → turned_on (suc more) s run ≡ cond left (turned_on more (turned s run).state run) (turned s run)
  either more left is = ap (λ (b : Bool). cond b (turned_on more (turned s run).state run) (turned s run)) is

  -- where the run has turns left, the others follow
  pub goes_on : (more : ℕ) → 0 < more → has_turns_left (turned s run).reply.reply ≡ true
      → turned_on more s run ≡ turned_on (more - 1) (turned s run).state run
  goes_on more some is =
      let one : more ≡ suc (more - 1) = omega (arith, some) in
      ap (λ (n : ℕ). turned_on n s run) one ∙ either (more - 1) true is

  -- else it is the last
  pub is_last : (more : ℕ) → has_turns_left (turned s run).reply.reply ≡ false → turned_on more s run ≡ turned s run
  is_last zero is = refl
  is_last (suc more) is = either more false is
