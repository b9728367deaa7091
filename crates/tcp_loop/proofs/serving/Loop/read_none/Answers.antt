use Rattle.tcp_loop.proofs.Fairness.{grown_same}
use Rattle.tcp_loop.proofs.Owing.{ends_read_is, read_made}
use Rattle.std.proofs.Common.{ap, refl, sym, ◌||◌, ◌∙◌, Bool}
use Rattle.std.specs.Prelude.{not}
use Rattle.tcp_loop.specs.Rounds.{flag}
use Rattle.tcp_loop.proofs.serving.Loop.read_none.Goals as goal

pub returns-clause-fair : goal.returns-clause-fair
returns-clause-fair g c = λ carried came o trace f.
    c.read.ensures.fair o _
    (read_made g.T.KeptTarget.means g.T.KeptTarget.free o c.args.place carried came c.args.answer trace _ _ _ _ _ _ (grown_same g.T.KeptTarget.means g.T.KeptTarget.free o _ _ refl)
    (c.mark.ensures.here ∙ ap (λ (b : Bool). flag c.args.place c.args.self.now.hosts.lost || b) (ap not c.is_again.ensures ∙ sym (ends_read_is c.args.answer c.requires.none)))
    c.mark.ensures.others (λ q other. refl) f)

pub returns-clause-ends : goal.returns-clause-ends
returns-clause-ends g c = c.read.ensures.ends
