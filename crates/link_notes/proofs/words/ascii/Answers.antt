use Rattle.std.proofs.Common.{sym, ap, ◌∙◌}
use Rattle.std.specs.Option.{option_map}
use Rattle.link_notes.proofs.Ascii.{ascii_read}
use Rattle.link_notes.proofs.words.ascii.Goals as goal

pub returns-then-is_all_ascii : goal.returns-then-is_all_ascii
returns-then-is_all_ascii c =
    ap (option_map (λ text. text.now)) c.ok.ensures.value ∙ ascii_read (λ text. text.now) c.args.text.now c.from_utf8.result _ (sym c.is_all_ascii.ensures ∙ c.if-is_all_ascii.true) c.from_utf8.ensures.cases
