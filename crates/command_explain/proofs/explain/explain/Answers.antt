use Rattle.std.proofs.Common.{◌≡◌, ◌≢◌, Result, Ok, Err, OnOk, OnErr, IfErr, refl, subst, sym}
use Rattle.command_files.specs.declared.failure.Failure.{Failure}
use Rattle.command_files.specs.declared.failure.Failure.TheVariants.{CannotPrint}
use Rattle.command_explain.proofs.explain.explain.Goals as goal

-- it fails only where the output does
fails_printing : {A B : Type 0} (written : Result A B) (result : Result (Unit {0}) Failure) (same : Type 0) → OnOk written (result ≡ Ok tt)
    → OnErr written (result ≡ Err CannotPrint) → IfErr result (λ failure. failure ≢ CannotPrint → same)
fails_printing (Ok done) result same ok err =
    subst (λ (r : Result (Unit {0}) Failure). IfErr r (λ failure. failure ≢ CannotPrint → same)) (sym ok) tt
fails_printing (Err error) result same ok err =
    subst (λ (r : Result (Unit {0}) Failure). IfErr r (λ failure. failure ≢ CannotPrint → same)) (sym err) (λ differs. absurd (differs refl))

pub returns-clause-silent : goal.returns-clause-silent
returns-clause-silent g c = fails_printing c.write_all.result c.printed.result _ c.printed.ensures.ok c.printed.ensures.err
