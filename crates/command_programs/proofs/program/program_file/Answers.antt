use Rattle.std.proofs.lemmas.Result.{err_from_is_err_and}
use Rattle.command_programs.proofs.NoPrograms.{none_refused, none_unread}
use Rattle.command_programs.proofs.program.program_file.Goals as goal

pub returns-in_err-bytes-clause-failed : goal.returns-in_err-bytes-clause-failed
returns-in_err-bytes-clause-failed g c =
    let p = err_from_is_err_and c.from_residual.result c.from_residual.ensures.1 in
    rw (p.1, p.2) (none_unread (g.F.Files.contents c.args.files.now c.args.path.now) c.args.path c.in_err-bytes.field-0.0 c.in_err-bytes.ensures.unread)

pub returns-clause-failed : goal.returns-clause-failed
returns-clause-failed g c =
    rw c.refused.ensures.told (none_refused (g.F.Files.contents c.args.files.now) c.args.path c.in_ok-bytes.bytes.items c.as_slice.result.now
    c.as_slice-in-Err.result.now c.in-Err.fault c.as_slice.ensures.value c.in_ok-bytes.ensures.bytes c.in-Err.ensures.exact)
