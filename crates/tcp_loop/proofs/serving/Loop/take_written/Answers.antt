use Rattle.std.proofs.Common.{◌≡◌, length, min, rules, subst, sym, [], ap, refl, Bool, ◌∙◌, ◌||◌}
use Rattle.tcp_loop.specs.Deeds.{Sent}
use Rattle.tcp_loop.proofs.Moving.{not_written, taken_is, wrote}
use Rattle.tcp_loop.proofs.Owing.{ends_write_is, or_false, write_made}
use Rattle.std.proofs.lemmas.Bool.{ne_eqb}
use Rattle.std.proofs.lemmas.List.{append-nil}
use Rattle.tcp_loop.specs.Rounds.{flag}
use Rattle.std.specs.Prelude.{not}
use Rattle.tcp_loop.proofs.serving.Loop.take_written.Goals as goal

pub returns-in-Some-clause-made : goal.returns-in-Some-clause-made
returns-in-Some-clause-made g c = λ came opened begun trace h.
    let all = length (g.T.KeptTarget.means.to_send c.args.place (g.T.KeptTarget.at c.args.self.now.target).state) in
    let is : c.min-taken.result ≡ min c.in-Some.count all = search rules in
    rw (taken_is c.args.answer c.in-Some.count (sym c.in-Some.ensures)) (wrote g.T.KeptTarget.means c.args.place c.in-Some.count came opened begun _ _ trace _ _
    (subst (λ n. g.T.KeptTarget.means.does (Sent c.args.place n) (g.T.KeptTarget.at c.args.self.now.target).state (g.T.KeptTarget.at c.sent.new.self).state) is c.sent.ensures.done)
    c.sent.ensures.file c.sent.ensures.kept h)

pub returns-in-None-clause-made : goal.returns-in-None-clause-made
returns-in-None-clause-made g c = λ came opened begun trace h.
    not_written g.T.KeptTarget.means c.args.place _ came c.args.answer opened begun _ trace _ _ (sym c.in-None.ensures) h

pub returns-in-Some-clause-fair : goal.returns-in-Some-clause-fair
returns-in-Some-clause-fair g c = λ carried came o trace f.
    write_made g.T.KeptTarget.means g.T.KeptTarget.free o c.args.place carried came c.args.answer trace _ _ _ _ _ _
    (λ q low. o.stays (Sent c.args.place _) _ _ c.sent.ensures.done q low)
    (λ q low other. o.grows (Sent c.args.place _) _ _ c.sent.ensures.done q low (ne_eqb q c.args.place other))
    (rw (taken_is c.args.answer c.in-Some.count (sym c.in-Some.ensures)) (sym (or_false _))) (λ q other. refl) c.set.ensures.others f

pub returns-in-None-clause-fair : goal.returns-in-None-clause-fair
returns-in-None-clause-fair g c = λ carried came o trace f.
    write_made g.T.KeptTarget.means g.T.KeptTarget.free o c.args.place carried came c.args.answer trace _ _ _ _ _ _
    (λ q low. refl) (λ q low other. ([], sym (append-nil _)))
    (c.mark.ensures.here ∙ ap (λ (b : Bool). flag c.args.place c.args.self.now.hosts.lost || b) (ap not c.is_again-in-None.ensures ∙ sym (ends_write_is c.args.answer (sym c.in-None.ensures))))
    c.mark.ensures.others c.set-in-None.ensures.others f
