use Rattle.std.proofs.lemmas.Result.{err_from_is_err_and}
use Rattle.image_text.proofs.LoadStages.{has_rows, has_zones, header_fails, limits_fail, rows_fail, total_fails, zones_few}
use Rattle.image_text.proofs.load.read_table.Goals as goal

pub returns-in_err-header-clause-rows : goal.returns-in_err-header-clause-rows
returns-in_err-header-clause-rows g c =
    let p = err_from_is_err_and c.from_residual.result c.from_residual.ensures.1 in
    let all = g.R.Source.rest c.args.source.now in
    rw (p.1, p.2) (λ told. header_fails c.in_err-header.field-0.0 all (c.in_err-header.ensures.header told))

pub returns-in_err-zones-clause-rows : goal.returns-in_err-zones-clause-rows
returns-in_err-zones-clause-rows g c =
    let p = err_from_is_err_and c.from_residual-in_err-zones.result c.from_residual-in_err-zones.ensures.1 in
    let all = g.R.Source.rest c.args.source.now in
    rw (p.1, p.2) (λ told. rows_fail all c.in_err-zones.field-0.0 (c.in_ok-header.ensures.header told) (c.in_err-zones.ensures.rows told))

pub check_total-requires : goal.check_total-requires
check_total-requires g c =
    rw c.deref.ensures.value (zones_few c.in_ok-header.header.geometry c.in_ok-zones.zones.items c.in_ok-zones.ensures.fit)

pub returns-in_err-check_total-clause-rows : goal.returns-in_err-check_total-clause-rows
returns-in_err-check_total-clause-rows g c =
    let p = err_from_is_err_and c.from_residual-in_err-check_total.result c.from_residual-in_err-check_total.ensures.1 in
    let over = rw c.deref.ensures.value at c.in_err-check_total.ensures in
    let all = g.R.Source.rest c.args.source.now in
    rw (p.1, p.2) (λ told.
    let rows = has_rows (c.in_ok-header.ensures.header told) (c.in_ok-zones.ensures.rows told) in
    total_fails all c.in_err-check_total.field-0.0 rows over)

pub returns-in_err-check_limits-clause-rows : goal.returns-in_err-check_limits-clause-rows
returns-in_err-check_limits-clause-rows g c =
    let p = err_from_is_err_and c.from_residual-in_err-check_limits.result c.from_residual-in_err-check_limits.ensures.1 in
    let same = rw c.deref.ensures.value at c.in_ok-check_total.ensures in
    let over = rw (c.limits.ensures, c.deref-2.ensures.value) at c.in_err-check_limits.ensures.value in
    let all = g.R.Source.rest c.args.source.now in
    rw (p.1, p.2) (λ told.
    let rows = has_rows (c.in_ok-header.ensures.header told) (c.in_ok-zones.ensures.rows told) in
    limits_fail all c.in_err-check_limits.field-0.0 rows same over)

pub returns-clause-rows : goal.returns-clause-rows
returns-clause-rows g c =
    let same = rw c.deref.ensures.value at c.in_ok-check_total.ensures in
    let kept = rw (c.limits.ensures, c.deref-2.ensures.value) at c.in_ok-check_limits.ensures.value in
    λ told. has_zones (has_rows (c.in_ok-header.ensures.header told) (c.in_ok-zones.ensures.rows told)) same kept
