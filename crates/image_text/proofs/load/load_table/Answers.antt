use Rattle.std.proofs.lemmas.Result.{err_from_is_err_and}
use Rattle.image_text.proofs.Tables.{following_fails, has_table, skipping_fails}
use Rattle.image_text.proofs.load.load_table.Goals as goal

pub returns-in_err-table-clause-table : goal.returns-in_err-table-clause-table
returns-in_err-table-clause-table g c =
    let p = err_from_is_err_and c.from_residual.result c.from_residual.ensures.1 in
    rw (p.1, p.2) (λ told. c.in_err-table.ensures.rows told)

pub returns-in_err-skip_zones-clause-table : goal.returns-in_err-skip_zones-clause-table
returns-in_err-skip_zones-clause-table g c =
    let p = err_from_is_err_and c.from_residual-in_err-skip_zones.result c.from_residual-in_err-skip_zones.ensures.1 in
    let all = g.R.Source.rest c.args.source.now in
    rw (p.1, p.2) (λ told.
    let fails = rw c.deref.ensures.value at c.in_err-skip_zones.ensures.after told in
    skipping_fails all (c.in_ok-table.ensures.rows told) c.in_err-skip_zones.field-0.0 fails)

pub returns-in_err-read_end-clause-table : goal.returns-in_err-read_end-clause-table
returns-in_err-read_end-clause-table g c =
    let p = err_from_is_err_and c.from_residual-in_err-read_end.result c.from_residual-in_err-read_end.ensures.1 in
    let all = g.R.Source.rest c.args.source.now in
    rw (p.1, p.2) (λ told.
    let passed = rw c.deref.ensures.value at c.in_ok-skip_zones.ensures.after told in
    following_fails all (c.in_ok-table.ensures.rows told) c.in_err-read_end.field-0.0 passed (c.in_err-read_end.ensures.end told))

pub returns-clause-table : goal.returns-clause-table
returns-clause-table g c = λ told.
    let all = g.R.Source.rest c.args.source.now in
    let passed = rw c.deref.ensures.value at c.in_ok-skip_zones.ensures.after told in
    has_table all (c.in_ok-table.ensures.rows told) c.in_ok-table.ensures.fit passed (c.in_ok-read_end.ensures.end told)
