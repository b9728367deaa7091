use Rattle.std.proofs.Common.{◌++◌, ap, ◌∙◌, string_bytes, rules}
use Rattle.link_notes.specs.Notes.{told_notes}
use Rattle.link_notes.proofs.AddedLines.{guard_added, guards_added, guards_text, notes_added}
use Rattle.link_notes.proofs.printing.print.Goals as goal

pub loop-guard-preserved : goal.loop-guard-preserved
loop-guard-preserved c =
    guard_added (string_bytes c.push_optional-3.new.text) (string_bytes c.loop-guard.text) (string_bytes c.push_guard.new.text)
    c.deref-guard-items.result.now c.loop-guard.guard-index _ (search rules) c.loop-guard.invariant c.in_ok-push_guard.ensures

pub returns : goal.returns
returns c =
    notes_added (told_notes c.args.notes.now) (string_bytes c.in_ok-text.text) (string_bytes c.push_optional.new.text) (string_bytes c.push_number.new.text)
    (string_bytes c.push_optional-2.new.text) (string_bytes c.push_number-2.new.text) (string_bytes c.push_optional-3.new.text)
    (string_bytes c.loop-guard.text) c.in_ok-text.ensures.ok c.in_ok-push_optional.ensures c.in_ok-push_number.ensures
    c.in_ok-push_optional-2.ensures c.in_ok-push_number-2.ensures c.in_ok-push_optional-3.ensures
    (guards_added (string_bytes c.push_optional-3.new.text) (string_bytes c.loop-guard.text) c.deref-guard-items.result.now
    c.loop-guard.guard-index (search rules) c.loop-guard.invariant
    ∙ ap (λ guards. string_bytes c.push_optional-3.new.text ++ guards_text guards) c.deref-guard-items.ensures.value)
