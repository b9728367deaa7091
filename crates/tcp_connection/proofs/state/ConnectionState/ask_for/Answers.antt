use Rattle.std.proofs.Common.{List, ℕ, ap, sym, subst, ◌∙◌}
use Rattle.tcp_connection.specs.declared.state.ConnectionState.{ConnectionState}
use Rattle.tcp_connection.specs.Dealing.{asked, unasked}
use Rattle.tcp_connection.specs.Sending.{Sends}
use Rattle.tcp_connection.proofs.Ready.{asked_none, asked_some}
use Rattle.tcp_connection.proofs.state.ConnectionState.ask_for.Goals as goal

pub returns-in-Some-clause-state : goal.returns-in-Some-clause-state
returns-in-Some-clause-state c =
    let s = c.args.self.now in
    let next = c.in-Some.command in
    let same = ap (λ (command : ℕ). asked c.args.tag command next.wanted s) c.identifier.ensures
    ∙ asked_some c.args.tag (unasked s) next s (sym c.unasked.ensures ∙ c.in-Some.is) in
    c.ask.ensures.state ∙ ap (λ (step : ConnectionState × List ℕ). step.0) same

pub returns-in-Some-clause-sent : goal.returns-in-Some-clause-sent
returns-in-Some-clause-sent c =
    let s = c.args.self.now in
    let next = c.in-Some.command in
    let same = ap (λ (command : ℕ). asked c.args.tag command next.wanted s) c.identifier.ensures
    ∙ asked_some c.args.tag (unasked s) next s (sym c.unasked.ensures ∙ c.in-Some.is) in
    subst (λ (step : ConnectionState × List ℕ). Sends c.args.out.now c.ask.new.out step.1) same c.ask.ensures.sent

pub returns-in-None-clause-state : goal.returns-in-None-clause-state
returns-in-None-clause-state c =
    let s = c.args.self.now in
    ap (λ (step : ConnectionState × List ℕ). step.0) (asked_none c.args.tag (unasked s) s (sym c.unasked.ensures ∙ c.in-None.is))
