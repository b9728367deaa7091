use Rattle.std.proofs.Common.{◌≡◌, drop, map}
use Rattle.question_words.specs.Layout.{entries, entry_of, field_named}
use Rattle.question_words.proofs.layout.Layout.field.Given as goal

abbrev pub invariant-loop-named : goal.invariant-loop-named
invariant-loop-named l = field_named (map entry_of (drop l.named-index l.self.fields.items)) l.name ≡ field_named (entries l.self) l.name
