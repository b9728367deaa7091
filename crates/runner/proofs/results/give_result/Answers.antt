use Rattle.std.proofs.Common.{◌≡◌, ◌++◌, ℕ, drop, length, ap, sym, ◌∙◌, rules}
use Rattle.std.proofs.Math.Seq.{drop-append_seam}
use Rattle.program_interface.specs.declared.area.TheConstants.{SCRATCH_BYTES}
use Rattle.runner.proofs.results.give_result.Goals as goal

pub returns-in-Some-clause-rest : goal.returns-in-Some-clause-rest
returns-in-Some-clause-rest g c =
    let kept = c.in-Some.loaded.result in
    let size : length kept ≡ SCRATCH_BYTES = search rules in
    let behind = drop (length kept) c.args.output.now in
    rw (c.success.ensures, c.put_front.ensures)
    (ap (λ (n : ℕ). drop n (kept ++ behind)) (sym size) ∙ drop-append_seam kept behind ∙ ap (λ (n : ℕ). drop n c.args.output.now) size)
