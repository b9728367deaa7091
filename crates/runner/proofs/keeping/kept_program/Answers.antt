use Rattle.std.proofs.Common.{rules}
use Rattle.instruction_set.specs.Program.{IsProgram}
use Rattle.verifier.specs.Verified.{program_of}
use Rattle.runner.proofs.KeptPrograms.{kept_again}
use Rattle.runner.proofs.keeping.kept_program.Goals as goal

pub returns-in_err-bytes-clause-again : goal.returns-in_err-bytes-clause-again
returns-in_err-bytes-clause-again g c =
    let p = c.args.loaded.now in
    let is : IsProgram (program_of p.prepared) = search rules in
    kept_again p (c.spelled_is_decoded.ensures (program_of p.prepared) is)

pub returns-clause-again : goal.returns-clause-again
returns-clause-again g c =
    let p = c.args.loaded.now in
    let is : IsProgram (program_of p.prepared) = search rules in
    kept_again p (c.spelled_is_decoded.ensures (program_of p.prepared) is)
