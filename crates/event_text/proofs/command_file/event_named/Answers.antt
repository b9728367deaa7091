use Rattle.std.proofs.Common.{◌≡◌, arith, codes}
use Rattle.std.proofs.lemmas.Slice.Eq.{text_from_reads}
use Rattle.event_text.proofs.command_file.event_named.Goals as goal

pub returns-in-submit : goal.returns-in-submit
returns-in-submit c =
    let text : c.args.name.now ≡ codes "submit" =
    text_from_reads c.args.name.now (codes "submit") (omega arith) (omega arith, (omega arith, (omega arith, (omega arith, (omega arith, (omega arith, tt)))))) in
    rw text c.submit.ensures
