-- What is opened after a crash.
use Rattle.std.proofs.Common.{◌≡◌, inl, inr, ⊎_elim, ℕ, Bool, List, ap, sym, subst, ◌∙◌}
use Rattle.stored_file.specs.File.{FileState}
use Rattle.durable_machine.specs.Files.{IsDurable, IsState}
use Rattle.durable_machine.specs.Restart.{LacksBatch}
use Rattle.durable_machine.specs.Runs.{state_again}
use Rattle.durable_machine.specs.Laws.{OpeningChangesNothing, RestartsComeBack, ComesBack}
use Rattle.durable_machine.proofs.Files.{rests_before}
use Rattle.durable_machine.proofs.Restarting.{left_stands}

module _ {S : Type 0} (loads : List ℕ → S → Type 0) (next : S → Bool → List ℕ → S) where
  pub opening : OpeningChangesNothing loads next
  opening file left first second is keeps again = again.no_other first (keeps first is.is)

  pub restarts : RestartsComeBack loads next
  restarts file left first second is (inl same) again = inl (again.no_other first (subst (λ (l : List ℕ). IsState loads next l first) (sym same) is.is))
  restarts file left first second is (inr lacks) again =
      let named : first ≡ lacks.s = is.no_other lacks.s (lacks.end, lacks.is.is) in
      ⊎_elim
      (λ (stands : IsState loads next left lacks.s). inl (again.no_other lacks.s stands ∙ sym named))
      (λ (before : LacksBatch loads next left lacks.s). inr (before.batch, named ∙ before.leads ∙ ap (state_again next before.batch) (sym (again.no_other before.before before.is))))
      (left_stands loads next file left lacks.s lacks.end lacks.last lacks.is lacks.same)

  pub comes_back : (machine : S) (gate : ℕ) (file : FileState) → IsDurable loads next machine gate file → ComesBack loads next file machine
  comes_back machine gate file durable left opened may is = is.no_other machine (rests_before loads next machine gate file durable left may)
