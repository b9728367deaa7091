use Rattle.std.proofs.lemmas.Result.{err_from_is_err_and}
use Rattle.image_text.proofs.LoadStages.{blocks_fail, end_fails, has_all, has_blocks}
use Rattle.image_text.proofs.load.load.Goals as goal

pub returns-in_err-table-clause-parts : goal.returns-in_err-table-clause-parts
returns-in_err-table-clause-parts g c =
    let p = err_from_is_err_and c.from_residual.result c.from_residual.ensures.1 in
    rw (p.1, p.2) (λ told. c.in_err-table.ensures.rows told)

pub returns-in_err-blocks-clause-parts : goal.returns-in_err-blocks-clause-parts
returns-in_err-blocks-clause-parts g c =
    let p = err_from_is_err_and c.from_residual-in_err-blocks.result c.from_residual-in_err-blocks.ensures.1 in
    let all = g.R.Source.rest c.args.source.now in
    rw (p.1, p.2) (λ told.
    let blocks = rw c.deref.ensures.value at c.in_err-blocks.ensures.blocks told in
    blocks_fail all c.in_err-blocks.field-0.0 (c.in_ok-table.ensures.rows told) blocks)

pub returns-in_err-read_end-clause-parts : goal.returns-in_err-read_end-clause-parts
returns-in_err-read_end-clause-parts g c =
    let p = err_from_is_err_and c.from_residual-in_err-read_end.result c.from_residual-in_err-read_end.ensures.1 in
    let all = g.R.Source.rest c.args.source.now in
    rw (p.1, p.2) (λ told.
    let blocks = rw c.deref.ensures.value at c.in_ok-blocks.ensures.blocks told in
    end_fails all c.in_err-read_end.field-0.0 (has_blocks (c.in_ok-table.ensures.rows told) blocks) (c.in_err-read_end.ensures.end told))

pub returns-clause-parts : goal.returns-clause-parts
returns-clause-parts g c = λ told.
    let blocks = rw c.deref.ensures.value at c.in_ok-blocks.ensures.blocks told in
    has_all (has_blocks (c.in_ok-table.ensures.rows told) blocks) (c.in_ok-read_end.ensures.end told)
