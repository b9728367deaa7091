use Rattle.std.proofs.Common.{ℕ, Option, Result, sym, subst, ◌∙◌}
use Rattle.zone_state.specs.declared.status.Status.{Status}
use Rattle.tcp_connection.specs.Dealing.{judged, refusal, with_next}
use Rattle.tcp_connection.specs.Sending.{Sends, answered}
use Rattle.tcp_connection.proofs.state.ConnectionState.judge.Goals as goal

pub returns-in-Err-clause-sent : goal.returns-in-Err-clause-sent
returns-in-Err-clause-sent c =
    let s = c.args.self.now in
    let Q : ℕ → Type 0 = λ command. Sends c.args.out.now c.refuse.new.out (answered command (refusal c.in-Err.status) (with_next s)).1 in
    let P : Result (Option ℕ) Status → Type 0 = λ r. Sends c.args.out.now c.refuse.new.out (judged r c.args.entry s).1 in
    subst P (sym (sym c.check.ensures ∙ c.in-Err.is)) (subst Q c.identifier.ensures c.refuse.ensures.sent)
