use Rattle.std.proofs.Common.{arith}
use Rattle.event_text.proofs.SubmissionLemmas.{submission_tells}
use Rattle.event_text.proofs.submission.submission_line.Goals as goal

pub returns-clause-told : goal.returns-clause-told
returns-clause-told c =
    submission_tells c.args.queue c.args.entry.now c.args.input.now (omega arith) (omega arith) (λ k. c.fits-entry k) (λ k. (c.type_inv.input k).fits)
