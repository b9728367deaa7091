use Rattle.std.proofs.Common.{ℕ, List, drop, ap, sym, ◌∙◌, arith}
use Rattle.tcp_connection.specs.Commands.{CommandsState, WaitingCommand, started}
use Rattle.tcp_connection.proofs.Held.{commands_of, none_started, some_waits, started_is}
use Rattle.tcp_connection.proofs.commands.Commands.start.Goals as goal

pub append-requires : goal.append-requires
append-requires c =
    let inside = c.self.inside in
    let some = some_waits inside.waiting c.in-Some.command (sym c.pop_front.ensures.first ∙ c.in-Some.is) in
    omega (arith, some, c.self.invariant.running, c.self.invariant.most)

pub returns-in-Some : goal.returns-in-Some
returns-in-Some c =
    let inside = c.self.inside in
    ap (λ (all : List WaitingCommand). commands_of c.append.new.running.items all) c.pop_front.ensures.rest
    ∙ ap (λ (all : List ℕ). commands_of all (drop 1 inside.waiting)) c.append.ensures.added
    ∙ started_is inside.running.items inside.waiting c.in-Some.command (sym c.pop_front.ensures.first ∙ c.in-Some.is)
    ∙ ap (λ (s : CommandsState). started s) c.self.view_is

pub returns-in-None : goal.returns-in-None
returns-in-None c =
    let inside = c.self.inside in
    ap (λ (all : List WaitingCommand). commands_of inside.running.items all) c.pop_front.ensures.rest
    ∙ none_started inside.running.items inside.waiting (sym c.pop_front.ensures.first ∙ c.in-None.is)
    ∙ ap (λ (s : CommandsState). started s) c.self.view_is
