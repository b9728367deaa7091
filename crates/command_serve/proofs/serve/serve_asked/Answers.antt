use Rattle.std.proofs.Common.{inl, refl}
use Rattle.std.proofs.lemmas.Result.{err_from_is_err_and}
use Rattle.command_serve.specs.Served.{Unloaded, Unopened}
use Rattle.command_serve.proofs.serve.serve_asked.Goals as goal

pub returns-in_err-form-clause-stopped : goal.returns-in_err-form-clause-stopped
returns-in_err-form-clause-stopped g c = λ asked.
    let p = err_from_is_err_and c.from_residual.result c.from_residual.ensures.1 in
    rw (p.1, p.2) (Unloaded tt (refl, refl) refl)

pub returns-in_err-form-clause-stopped_durably : goal.returns-in_err-form-clause-stopped_durably
returns-in_err-form-clause-stopped_durably g c = λ asked.
    let p = err_from_is_err_and c.from_residual.result c.from_residual.ensures.1 in
    rw (p.1, p.2) (Unopened (inl tt) (refl, refl) refl)
