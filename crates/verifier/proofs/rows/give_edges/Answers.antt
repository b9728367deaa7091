use Rattle.std.proofs.Common.{◌∙◌, ap, None, Some}
use Rattle.accepted_programs.specs.Facts.{with_compared}
use Rattle.accepted_programs.specs.declared.facts.Facts.{Facts}
use Rattle.verifier.proofs.Gifts.{given_along, given_behind, given_nowhere, given_to_target}
use Rattle.verifier.proofs.rows.give_edges.Goals as goal

pub returns-in_ok-give_both-in-Some-Some-clause-given :
    goal.returns-in_ok-give_both-in-Some-Some-clause-given
returns-in_ok-give_both-in-Some-Some-clause-given g c =
    let way = c.in-Some-Some in
    given_along g.D.Domain.operations c.args.fork.now c.args.facts.value (Some way.not_taken) (Some way.taken)
    c.args.rows.now c.give_both.new.rows way.is-0 way.is-1 c.in_ok-give_both-in-Some-Some.ensures.given

pub returns-in-Some-None-clause-given : goal.returns-in-Some-None-clause-given
returns-in-Some-None-clause-given g c =
    let ops = g.D.Domain.operations in
    let fork = c.args.fork.now in
    let both = c.in-Some-None.not_taken in
    given_along ops fork c.args.facts.value (Some both) None c.args.rows.now c.give.new.rows c.in-Some-None.is-0 c.in-Some-None.is-1
    (given_behind ops fork.behind fork.target c.set_both.new.facts (with_compared ops fork.dst fork.source c.args.facts.value both)
    c.args.rows.now c.give.new.rows
    (c.set_both.ensures ∙ ap (λ (facts : Facts g.row.D.Denot). with_compared ops fork.dst fork.source facts both) c.deref_mut.ensures.value)
    c.give.ensures.given)

pub returns-in-None-Some-clause-given : goal.returns-in-None-Some-clause-given
returns-in-None-Some-clause-given g c =
    let ops = g.D.Domain.operations in
    let fork = c.args.fork.now in
    let both = c.in-None-Some.taken in
    given_along ops fork c.args.facts.value None (Some both) c.args.rows.now c.give-in-None-Some.new.rows c.in-None-Some.is-0 c.in-None-Some.is-1
    (given_to_target ops fork.behind fork.target c.set_both-in-None-Some.new.facts (with_compared ops fork.dst fork.source c.args.facts.value both)
    c.args.rows.now c.give-in-None-Some.new.rows
    (c.set_both-in-None-Some.ensures
    ∙ ap (λ (facts : Facts g.row.D.Denot). with_compared ops fork.dst fork.source facts both) c.deref_mut-in-None-Some.ensures.value)
    c.give-in-None-Some.ensures.given)

pub returns-in-None-None-clause-given : goal.returns-in-None-None-clause-given
returns-in-None-None-clause-given g c =
    let ops = g.D.Domain.operations in
    let fork = c.args.fork.now in
    given_along ops fork c.args.facts.value None None c.args.rows.now c.args.rows.now c.in-None-None.is-0 c.in-None-None.is-1
    (given_nowhere ops fork.behind fork.target c.args.rows.now)
