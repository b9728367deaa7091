use Rattle.std.proofs.Common.{ℕ, List, [], ◌∷◌, ◌++◌, ap, ◌∙◌}
use Rattle.tcp_connection.specs.declared.waiting.KeptCommand.{KeptCommand}
use Rattle.tcp_connection.specs.Commands.{WaitingCommand}
use Rattle.tcp_connection.specs.steps.Commands.{waiting_of}
use Rattle.tcp_connection.proofs.Held.{waiting_more}
use Rattle.tcp_connection.proofs.waiting.keep.Goals as goal

pub returns-clause-added : goal.returns-clause-added
returns-clause-added c =
    let before = c.args.kept.now.items in
    let command = c.args.command in
    let last : KeptCommand = record { command = command; «data» = c.next_with-data.result } in
    let with_bytes : List ℕ → List WaitingCommand =
    λ bytes. waiting_of before ++ (record { entry = command.entry; «data» = bytes; wanted = command.wanted }) ∷ [] in
    ap (λ (all : List KeptCommand). waiting_of all) c.push_reserved.ensures.items
    ∙ waiting_more before last
    ∙ ap with_bytes c.next_with-data.ensures.bytes
