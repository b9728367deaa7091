-- A run goes on in a device that was restored.
use Rattle.std.proofs.Common.{◌≡◌, ℕ, zero, suc, ◌<◌, List, [], ◌∷◌, drop, length, refl, ap, sym, ◌∙◌, arith}
use Rattle.device_meaning.specs.Judging.{interval_judge}
use Rattle.device_meaning.specs.Outcome.{Turn, ending_of}
use Rattle.device_meaning.specs.State.{State, place_at}
use Rattle.pushdown.specs.Pushdown.{now, own_turns}
use Rattle.pushdown.proofs.Proved.{pushdown_from_any_beginning}
use Rattle.runner.proofs.Proved.{one_is_restored}
use Rattle.device_laws.specs.Restores.{RunsGoOnAfterRestores}
use Rattle.device_laws.proofs.Reached.{sound}

-- the last of the turns that are left is the last of all
same_ending : (turns : List Turn) (done : ℕ) → done < length turns → ending_of (drop done turns) ≡ ending_of turns
same_ending [] done less = absurd (omega (arith, less))
same_ending (turn ∷ turns) zero less = refl
same_ending (turn ∷ []) (suc done) less = absurd (omega (arith, less))
same_ending (turn ∷ next ∷ turns) (suc done) less = same_ending (next ∷ turns) done (omega (arith, less))

pub runs_go_on_after_restores : RunsGoOnAfterRestores
runs_go_on_after_restores s reached queue entry input starved command run events admitted less programs runs after kept restored =
    let before = now interval_judge s queue entry input starved command run events in
    let is = pushdown_from_any_beginning interval_judge sound s reached queue entry input starved command run events admitted in
    let same : after ≡ before = sym (one_is_restored before.namespace programs runs before after kept restored) in
    record {
      left = ap (λ (t : State). place_at t run) same ∙ (is.does_its_turns less).left;
      ending = same_ending _ (own_turns run events) less;
      same = same;
    }
