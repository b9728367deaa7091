-- The counts of the programs in the slots, behind a turn.
use Rattle.std.proofs.Common.{◌≡◌, ◌<◌, ◌+◌, ℕ, List, length, get_or, set, Option, Some, None, add-zero, ap, sym, subst, ◌∙◌, inl, inr, get_or-set_other, get_or-set_same}
use Rattle.std.specs.Prelude.{◌==◌}
use Rattle.std.proofs.lemmas.Bool.{cases_eq, cond-false, cond-true, eq-eqb, ne_eqb}
use Rattle.std.proofs.lemmas.List.{get_or_default}
use Rattle.word_domain.specs.declared.domain.Domain.{Ghosts}
use Rattle.image_store.specs.Namespace.{ZonedNamespace}
use Rattle.runner.specs.steps.Turning.{steps_by, steps_in, steps_of_turn}
use Rattle.runner.specs.declared.active_run.ActiveRun.{ActiveRun}
use Rattle.runner.specs.declared.loaded_program.LoadedProgram.{LoadedProgram}

-- the program of the run's slot has counted the steps of the turn, and no other program has counted any
module _ {D : Type 0} {domain : Ghosts D} (ns : ZonedNamespace) (slots : List (Option (LoadedProgram D domain))) (own : ℕ) (a : ActiveRun)
    (default q : Option (LoadedProgram D domain)) (is_own : own ≡ a.command.slot) (within : own < length slots)
    (counted : steps_in q ≡ steps_in (get_or slots own default) + steps_by ns (get_or slots own default) a) where
  abbrev Counts : ℕ → Type 0
  Counts k = steps_in (get_or (set slots own q) k None) ≡ steps_in (get_or slots k None) + steps_of_turn ns slots (Some a) k

  own_counts : Counts own
  own_counts =
      ap steps_in (get_or-set_same slots own q None within)
      ∙ counted
      ∙ ap (λ (o : Option (LoadedProgram D domain)). steps_in o + steps_by ns o a) (get_or_default slots own default None within)
      ∙ ap (λ (n : ℕ). steps_in (get_or slots own None) + n)
      (sym (cond-true (a.command.slot == own) (steps_by ns (get_or slots own None) a) 0 (eq-eqb a.command.slot own (sym is_own))))

  counted_at : (k : ℕ) → Counts k
  counted_at k = elim (cases_eq k own) [
    | inl is ↦ subst Counts (sym is) own_counts
    | inr other ↦
        let before = steps_in (get_or slots k None) in
        ap steps_in (get_or-set_other slots own k q None other)
        ∙ sym (add-zero before)
        ∙ ap (λ (n : ℕ). before + n)
        (sym (cond-false (a.command.slot == k) (steps_by ns (get_or slots k None) a) 0 (ne_eqb a.command.slot k (λ same. other (sym (is_own ∙ same))))))
  ]

  pub counted_there : (place : Option ActiveRun) → place ≡ Some a → (k : ℕ)
      → steps_in (get_or (set slots own q) k None) ≡ steps_in (get_or slots k None) + steps_of_turn ns slots place k
  counted_there place is k =
      counted_at k ∙ ap (λ (o : Option ActiveRun). steps_in (get_or slots k None) + steps_of_turn ns slots o k) (sym is)
