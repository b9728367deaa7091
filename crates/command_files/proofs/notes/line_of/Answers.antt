use Rattle.std.proofs.Common.{string_bytes}
use Rattle.std.proofs.lemmas.Result.{IfOk-weaker}
use Rattle.link_notes.specs.Notes.{told_notes}
use Rattle.command_files.specs.Shown.{shown}
use Rattle.command_files.proofs.LineLemmas.{tells_none, tells_read}
use Rattle.command_files.proofs.notes.line_of.Goals as goal

pub returns-in-Ok : goal.returns-in-Ok
returns-in-Ok c =
    IfOk-weaker c.line_told.result _ _ (λ line told. tells_read (shown c.args.path.now) (shown c.args.program.now) c.args.bytes.now c.args.text.now c.args.given
    (told_notes c.in-Ok.notes) (string_bytes line) c.in-Ok.ensures told) c.line_told.ensures

pub returns-in-Err : goal.returns-in-Err
returns-in-Err c =
    IfOk-weaker c.line_of_damage.result _ _ (λ line some. tells_none (shown c.args.path.now) (shown c.args.program.now) c.args.bytes.now c.args.text.now c.args.given
    c.in-Err.fault (string_bytes line) c.in-Err.ensures some) c.line_of_damage.ensures
