use Rattle.tcp_loop.proofs.Progress.{fail_read}
use Rattle.tcp_loop.proofs.Owing.{or_false, read_made}
use Rattle.std.proofs.Common.{[], ◌+◌, refl, sym}
use Rattle.std.proofs.lemmas.List.{get_or-set_other}
use Rattle.tcp_loop.specs.Fair.{Reads}
use Rattle.tcp_loop.specs.declared.operation.Answer.TheVariants.{Came}
use Rattle.tcp_loop.proofs.serving.Loop.take_piece.Goals as goal

pub returns-then-done-clause-fair : goal.returns-then-done-clause-fair
returns-then-done-clause-fair g c = λ carried came o trace f. c.fail.ensures.fair (Reads (c.args.place + 1)) o _
    (read_made g.T.KeptTarget.means g.T.KeptTarget.free o c.args.place carried came Came trace _ _ _ _ _ _ (c.advance-done.ensures.grows o)
    (sym (or_false _)) (λ q other. refl)
    (λ q other. rw c.put_at.ensures (get_or-set_other _ c.args.place q _ [] other)) f)

pub returns-else-done-clause-fair : goal.returns-else-done-clause-fair
returns-else-done-clause-fair g c = λ carried came o trace f. c.read.ensures.fair o _
    (read_made g.T.KeptTarget.means g.T.KeptTarget.free o c.args.place carried came Came trace _ _ _ _ _ _ (c.advance-done.ensures.grows o)
    (sym (or_false _)) (λ q other. refl)
    (λ q other. rw c.put_at.ensures (get_or-set_other _ c.args.place q _ [] other)) f)

pub returns-then-done-clause-ends : goal.returns-then-done-clause-ends
returns-then-done-clause-ends g c = fail_read (c.args.place + 1) _ c.fail.ensures.ends

pub returns-else-done-clause-ends : goal.returns-else-done-clause-ends
returns-else-done-clause-ends g c = c.read.ensures.ends
