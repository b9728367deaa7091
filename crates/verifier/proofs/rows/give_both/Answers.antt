use Rattle.std.proofs.Common.{sym, ap, ◌∙◌, ◌≡◌, None, Some, is_some, refl}
use Rattle.std.proofs.lemmas.List.{get_or_default, length-set}
use Rattle.accepted_programs.specs.Facts.{merge, with_compared}
use Rattle.accepted_programs.specs.declared.facts.Facts.{Facts}
use Rattle.verifier.specs.steps.Rows.{held, held_at}
use Rattle.verifier.proofs.Gifts.{given_in_turn, given_to_both}
use Rattle.verifier.proofs.rows.give_both.Goals as goal

pub returns-then-is_some-clause-given : goal.returns-then-is_some-clause-given
returns-then-is_some-clause-given g c =
    let ops = g.D.Domain.operations in
    let along : g.row.D.Denot × g.row.D.Denot → Facts g.row.D.Denot → Facts g.row.D.Denot =
    λ both facts. with_compared ops c.args.fork.now.dst c.args.fork.now.source facts both in
    let not_taken : c.split.new.facts ≡ along c.args.not_taken c.args.facts.value =
    c.split.ensures.facts ∙ ap (along c.args.not_taken) c.deref_mut.ensures.value in
    let there = ap held (get_or_default c.args.rows.now c.args.fork.now.target c.index-rows-fork-then-is_some.result None c.requires.target) in
    let some = ap is_some (get_or_default c.args.rows.now c.args.fork.now.target c.index-rows-fork-then-is_some.result c.index-rows-fork.result c.requires.target)
    ∙ sym c.is_some.ensures ∙ c.if-is_some.true in
    given_to_both ops c.args.fork.now.behind c.args.fork.now.target c.split.new.facts (along c.args.taken c.args.facts.value) _ _
    c.args.rows.now c.give.new.rows c.split.new.row not_taken refl
    (λ e. c.if-fork.true (sym e)) c.requires.target
    (c.split.ensures.row some ∙ ap (λ r. merge ops r (Some (along c.args.taken c.deref_mut.result.now))) there
    ∙ ap (λ f. merge ops (held_at c.args.rows.now c.args.fork.now.target) (Some (along c.args.taken f))) c.deref_mut.ensures.value)
    (λ s within. c.give.ensures.given s (simp length-set within))

pub returns-in_ok-copy-clause-given : goal.returns-in_ok-copy-clause-given
returns-in_ok-copy-clause-given g c =
    let ops = g.D.Domain.operations in
    let along : g.row.D.Denot × g.row.D.Denot → Facts g.row.D.Denot → Facts g.row.D.Denot =
    λ both facts. with_compared ops c.args.fork.now.dst c.args.fork.now.source facts both in
    given_in_turn ops c.args.fork.now.behind c.args.fork.now.target c.set_both.new.facts c.set_both-else-fork.new.facts _ _
    c.args.rows.now c.give-else-fork.new.rows c.give-else-fork-2.new.rows
    (c.set_both.ensures ∙ ap (along c.args.not_taken) c.deref_mut-else-fork.ensures.value)
    (c.set_both-else-fork.ensures ∙ ap (along c.args.taken) (c.deref_mut-else-fork-2.ensures.value ∙ c.in_ok-copy.ensures ∙ c.deref.ensures))
    c.give-else-fork.ensures.len c.give-else-fork.ensures.given c.give-else-fork-2.ensures.given
