use Rattle.std.proofs.Common.{◌≡◌, ◌++◌, take, string_bytes}
use Rattle.link_notes.proofs.AddedLines.{guards_text}
use Rattle.link_notes.proofs.printing.print.Given as goal

abbrev pub invariant-loop-guard : goal.invariant-loop-guard
invariant-loop-guard l = string_bytes l.text ≡ string_bytes l.initial.text ++ guards_text (take l.guard-index l.guard-items)
