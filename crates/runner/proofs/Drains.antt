-- Turns of the lowest active run, one turn more.
use Rattle.std.proofs.Common.{◌≡◌, ℕ, suc, ◌+◌, ◌-◌, ◌*◌, ◌%◌, ◌≤◌, List, [], ◌∷◌, ◌++◌, append-nil, length, map, take, drop, get_or, Option, Some, None, refl, inl, inr, ◌⊎◌, ap, sym, subst, ◌∙◌, arith, length-append}
use Rattle.std.specs.Prelude.{is_some}
use Rattle.std.proofs.lemmas.List.{length-take, take_at, nil_from_length}
use Rattle.std.proofs.lemmas.List.Quantifiers.{position-Some}
use Rattle.std.proofs.lemmas.List.Sums.{fold-append, sum_by-cons}
use Rattle.word_domain.specs.declared.domain.Domain.{Ghosts}
use Rattle.device_meaning.specs.Judging.{IsSoundJudge, Judge}
use Rattle.nvme_entry.specs.declared.command.TheConstants.{MOST_BLOCKS}
use Rattle.image_store.specs.Namespace.{ZonedNamespace, zone_at}
use Rattle.zns_commands.specs.Address.{zone_number}
use Rattle.device_meaning.specs.Admission.{task_of}
use Rattle.device_events.specs.Replies.{Joins, ReplyWithData}
use Rattle.device_meaning.specs.Draining.{AreLowest, HasStoppedDraining, lowest_run, replies_to_turns, state_after_turns, turns_left, turns_left_at}
use Rattle.device_meaning.specs.Happenings.{turned}
use Rattle.device_meaning.specs.State.{State}
use Rattle.device_meaning.specs.View.{seen, to_come}
use Rattle.device_meaning.proofs.Proved.{rest_is_few, turns_leave_fewer}
use Rattle.runner.specs.DeviceState.{active_of, loaded_slot, device_state}
use Rattle.runner.specs.steps.Ready.{FitsNamespace}
use Rattle.device_meaning.specs.Reached.{IsReached}
use Rattle.runner.specs.declared.active_run.ActiveRun.{ActiveRun}
use Rattle.runner.specs.declared.loaded_program.LoadedProgram.{LoadedProgram}

-- ---- fewer turns are left

pub turn_less : (judge : Judge) (sound : IsSoundJudge judge) (s : State) (run : ℕ) → IsReached judge s → lowest_run s ≡ Some run → turns_left (turned s run).state.places + 1 ≤ turns_left s.places
turn_less judge sound s run reached low = turns_leave_fewer judge sound s run reached ((position-Some is_some s.places run None low).1)

module _ {D : Type 0} {domain : Ghosts D} where
  -- a run has at most as many turns left as it has source blocks
  few_of : (ns : ZonedNamespace) (slots : List (Option (LoadedProgram D domain))) (a : ActiveRun) → FitsNamespace ns a
      → turns_left (seen ns (map loaded_slot slots) (Some (active_of a)) ∷ []) ≤ MOST_BLOCKS
  few_of ns slots a fits =
      let b = active_of a in
      let few = rest_is_few (task_of ns (get_or (map loaded_slot slots) a.command.slot None) a.command) b.so_far (to_come ns b) in
      let blocks = drop (a.command.lba % ns.size + a.index) (zone_at ns (zone_number ns a.command.lba)).blocks in
      let left = length-take (a.command.blocks - a.index) blocks in
      omega (arith, few, left, fits.most)

  pub few_left : (ns : ZonedNamespace) (slots : List (Option (LoadedProgram D domain))) (runs : List (Option ActiveRun))
      → ((k : ℕ) (a : ActiveRun) → get_or runs k None ≡ Some a → FitsNamespace ns a)
      → turns_left (device_state ns slots runs).places ≤ MOST_BLOCKS * length runs
  few_left ns slots [] fit = omega arith
  few_left ns slots (None ∷ runs) fit = let rest = few_left ns slots runs (λ k. fit (suc k)) in omega (arith, rest)
  few_left ns slots (Some a ∷ runs) fit =
      let rest = few_left ns slots runs (λ k. fit (suc k)) in
      let first = few_of ns slots a (fit 0 a refl) in
      let all = sum_by-cons turns_left_at (seen ns (map loaded_slot slots) (Some (active_of a))) (device_state ns slots runs).places in
      omega (arith, rest, first, all)

-- ---- turns, one more

turns_replies-append : (first later : List ℕ) (s : State)
    → replies_to_turns (first ++ later) s ≡ replies_to_turns first s ++ replies_to_turns later (state_after_turns first s)
turns_replies-append [] later s = refl
turns_replies-append (run ∷ runs) later s =
    ap (λ (replies : List ReplyWithData). (turned s run).reply ∷ replies) (turns_replies-append runs later (turned s run).state)

lowest-append : (first later : List ℕ) (s : State) → AreLowest first s → AreLowest later (state_after_turns first s) → AreLowest (first ++ later) s
lowest-append [] later s are more = more
lowest-append (run ∷ runs) later s are more = (are.0, lowest-append runs later (turned s run).state are.1 more)

-- what is done so far: so many turns, each of the lowest active run, whose replies were taken
pub record IsDraining (old now : State) (took : List ReplyWithData → Type 0) (done : ℕ) : Type 0 where
  pub runs : List ℕ
  pub lowest : AreLowest runs old
  pub count : length runs ≡ done
  pub state : now ≡ state_after_turns runs old
  pub replies : took (replies_to_turns runs old)
  pub few : done + turns_left now.places ≤ turns_left old.places

module _ {T : Type 0} (took : T → T → List ReplyWithData → Type 0) (joins : Joins took) (old now new : State) (first then after : T) (done run : ℕ) (reply : ReplyWithData) where
  more_state : (d : IsDraining old now (took first then) done) → new ≡ (turned now run).state → new ≡ state_after_turns (d.runs ++ run ∷ []) old
  more_state d step = step ∙ ap (λ (s : State). (turned s run).state) d.state ∙ sym (fold-append _ old d.runs (run ∷ []))

  more_lowest : (d : IsDraining old now (took first then) done) → lowest_run now ≡ Some run → AreLowest (d.runs ++ run ∷ []) old
  more_lowest d low = lowest-append d.runs (run ∷ []) old d.lowest (subst (λ (s : State). lowest_run s ≡ Some run) d.state low, tt)

  more_count : (d : IsDraining old now (took first then) done) → length (d.runs ++ run ∷ []) ≡ done + 1
  more_count d = omega (arith, length-append d.runs (run ∷ []), d.count)

  more_replies : (d : IsDraining old now (took first then) done) → reply ≡ (turned now run).reply
      → replies_to_turns (d.runs ++ run ∷ []) old ≡ replies_to_turns d.runs old ++ reply ∷ []
  more_replies d replied =
      turns_replies-append d.runs (run ∷ []) old
      ∙ ap (λ (x : ReplyWithData). replies_to_turns d.runs old ++ x ∷ []) (sym (replied ∙ ap (λ (s : State). (turned s run).reply) d.state))

  module _ (d : IsDraining old now (took first then) done) (judge : Judge) (sound : IsSoundJudge judge) (reached : IsReached judge now) (low : lowest_run now ≡ Some run) (step : new ≡ (turned now run).state) where
    more_few : done + 1 + turns_left new.places ≤ turns_left old.places
    more_few =
        let less = turn_less judge sound now run reached low in
        let left = ap (λ (s : State). turns_left s.places) step in omega (arith, d.few, less, left)

    pub drained_more : reply ≡ (turned now run).reply → took then after (reply ∷ []) → IsDraining old new (took first after) (done + 1)
    drained_more replied added = record {
      runs = d.runs ++ run ∷ [];
      lowest = more_lowest d low;
      count = more_count d;
      state = more_state d step;
      replies = subst (took first after) (sym (more_replies d replied)) (joins first then after (replies_to_turns d.runs old) (reply ∷ []) d.replies added);
      few = more_few;
    }

    pub drained_stops : took then after [] → HasStoppedDraining old new (took first after) (done + 1)
    drained_stops none =
        let before : done + 1 - 1 ≡ length d.runs = omega (arith, d.count) in
        let those : take (done + 1 - 1) (d.runs ++ run ∷ []) ≡ d.runs =
        ap (λ (n : ℕ). take n (d.runs ++ run ∷ [])) before ∙ take_at d.runs (run ∷ []) (length d.runs) refl in
        let replies = replies_to_turns d.runs old in
        record {
          runs = d.runs ++ run ∷ [];
          lowest = more_lowest d low;
          some = omega arith;
          given = more_count d;
          few = omega (arith, more_few);
          state = more_state d step;
          replies = subst (took first after) (append-nil replies ∙ ap (λ (xs : List ℕ). replies_to_turns xs old) (sym those))
              (joins first then after replies [] d.replies none);
        }

-- before the first turn
pub drained_none : {T : Type 0} (took : T → T → List ReplyWithData → Type 0) (first : T) (s : State) → took first first [] → IsDraining s s (took first first) 0
drained_none took first s none = record { runs = []; lowest = tt; count = refl; state = refl; replies = none; few = omega arith }

-- what bounds the turns that are left before any turn bounded them at first
pub few_at_first : (old now : State) (took : List ReplyWithData → Type 0) (done most : ℕ) → IsDraining old now took done
    → (done ≡ 0) ⊎ (turns_left old.places ≤ most) → turns_left now.places ≤ most → turns_left old.places ≤ most
few_at_first old now took done most d (inr few) left = few
few_at_first old now took done most d (inl none) left =
    subst (λ (s : State). turns_left s.places ≤ most) (d.state ∙ ap (λ (runs : List ℕ). state_after_turns runs old) (nil_from_length d.runs (d.count ∙ none))) left
