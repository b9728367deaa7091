-- The turn that a machine takes is the first of the turns that are left.
use Rattle.std.proofs.Common.{◌≡◌, ℕ, ◌+◌, ◌-◌, ◌%◌, ◌/◌, ◌≤◌, Bool, true, false, List, [], ◌∷◌, take, drop, None, refl, ap, sym, ◌∙◌, arith, inl, inr}
use Rattle.std.specs.Prelude.{nat_lt}
use Rattle.std.proofs.lemmas.Bool.{and_cases, and_parts, ltb-false, ltb-true}
use Rattle.program_meaning.specs.BlockRun.{BlockRun}
use Rattle.program_meaning.specs.declared.end.End.{End}
use Rattle.program_meaning.specs.declared.end.End.TheVariants as end
use Rattle.image_store.specs.Namespace.{block_at, zone_at}
use Rattle.device_meaning.specs.BlockRuns.{goes_on}
use Rattle.device_meaning.specs.Laws.{Ends, further, next_turn}
use Rattle.device_meaning.specs.Outcome.{Emitted, Turn, emitted_by, last_turn_by, rest}
use Rattle.device_meaning.specs.View.{Active, to_come}
use Rattle.device_meaning.proofs.Proved.{rest_ends, rest_goes_on}
use Rattle.turn_machine.specs.Machine.{Machine, block_run_now, goes_on_now, task_now, turn_by}
use Rattle.turn_machine.proofs.UnderWay.{IsUnderWay, first_to_come, one_on}

-- a last turn ends its run
last_ends : (e : End) (block : ℕ) (emitted : Emitted) (run : BlockRun) → (last_turn_by e block emitted run).ending ≡ None → ⊥
last_ends (end.Exit r0) block emitted run none = cc
last_ends (end.Trap slot cause) block emitted run none = cc
last_ends end.OutOfFuel block emitted run none = cc

module _ (m : Machine) where
  -- the turns that are left of a run
  abbrev pub turns_now : Active → List Turn
  turns_now a = rest (task_now m a) a.so_far (to_come m.namespace a)

  -- the run after a turn that doesn't end it
  abbrev pub gone_on : Active → Active
  gone_on a = record { queue = a.queue; cid = a.cid; command = a.command; so_far = further (task_now m a) a.so_far (block_run_now m a) }

  -- a turn is the next of a run, before these: where it doesn't end the run, that is still under way, and they are its turns
  pub record IsNext (a : Active) (turn : Turn) (later : List Turn) : Type 0 where
    pub turns : turns_now a ≡ turn ∷ later
    pub under_way : turn.ending ≡ None → IsUnderWay m.namespace (gone_on a)
    pub later_is : turn.ending ≡ None → turns_now (gone_on a) ≡ later

  module _ (a : Active) (h : IsUnderWay m.namespace a) where
    abbrev first : List ℕ
    first = block_at m.namespace (a.command.lba + a.so_far.index)

    abbrev coming : List (List ℕ)
    coming = to_come m.namespace (gone_on a)

    abbrev run : BlockRun
    run = block_run_now m a

    goes_by : goes_on run.end ≡ true → a.so_far.index + 1 + 1 ≤ a.command.blocks
        → IsNext a (next_turn (task_now m a) a.so_far run) (turns_now (gone_on a))
    goes_by on more =
        let task = task_now m a in
        let under : IsUnderWay m.namespace (gone_on a) = record { left = more; inside = h.inside; written = h.written } in
        let second = block_at m.namespace (a.command.lba + (a.so_far.index + 1)) in
        let others = to_come m.namespace (one_on (gone_on a)) in
        let then : coming ≡ second ∷ others = first_to_come m.namespace (gone_on a) under in
        record {
          turns =
              ap (rest task a.so_far) (first_to_come m.namespace a h ∙ ap (λ (blocks : List (List ℕ)). first ∷ blocks) then)
              ∙ rest_goes_on task a.so_far first second others on
              ∙ ap (λ (blocks : List (List ℕ)). next_turn task a.so_far run ∷ rest task (further task a.so_far run) blocks) (sym then);
          under_way = λ none. under;
          later_is = λ none. refl;
        }

    ends_by : Ends (task_now m a) a.so_far first coming
        → IsNext a (last_turn_by run.end (task_now m a).sizes.block (emitted_by a.so_far) run) []
    ends_by ends =
        let task = task_now m a in
        let over = last_ends run.end task.sizes.block (emitted_by a.so_far) run in
        record {
          turns = ap (rest task a.so_far) (first_to_come m.namespace a h) ∙ rest_ends task a.so_far first coming ends;
          under_way = λ none. absurd (over none);
          later_is = λ none. absurd (over none);
        }

    -- no block is left
    all_done : a.command.blocks ≤ a.so_far.index + 1 → coming ≡ []
    all_done few =
        let blocks = (zone_at m.namespace (a.command.lba / m.namespace.size)).blocks in
        let none : a.command.blocks - (a.so_far.index + 1) ≡ 0 = omega (arith, few) in
        ap (λ (n : ℕ). take n (drop (a.command.lba % m.namespace.size + (a.so_far.index + 1)) blocks)) none

    next_by : (on : Bool) → goes_on_now m a ≡ on → (later : List Turn) × IsNext a (turn_by on (task_now m a) a.so_far run) later
    next_by true is =
        let both = and_parts (goes_on run.end) (nat_lt (a.so_far.index + 1) a.command.blocks) is in
        let more = ltb-true (a.so_far.index + 1) a.command.blocks both.1 in
        (turns_now (gone_on a), goes_by both.0 (omega (arith, more)))
    next_by false is = (
      [],
      ends_by (elim (and_cases (goes_on run.end) (nat_lt (a.so_far.index + 1) a.command.blocks) is) [
        | inl over ↦ inl over
        | inr few ↦ inr (all_done (ltb-false (a.so_far.index + 1) a.command.blocks few))
      ]),
    )

    -- the turn that the machine takes is the next
    pub next_is : (later : List Turn) × IsNext a (turn_by (goes_on_now m a) (task_now m a) a.so_far run) later
    next_is = next_by (goes_on_now m a) refl
