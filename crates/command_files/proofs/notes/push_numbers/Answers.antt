use Rattle.std.proofs.Common.{ap, refl, append_assoc, string_bytes, ◌∙◌, ◌++◌, ℕ, List}
use Rattle.std.proofs.lemmas.Result.{on_ok_weaker}
use Rattle.command_files.proofs.LineLemmas.{three_added}
use Rattle.command_files.proofs.notes.push_numbers.Goals as goal

pub returns : goal.returns
returns c =
    on_ok_weaker c.writeln.result
    (λ is. three_added (string_bytes c.args.line.now) (string_bytes c.write.new.self) (string_bytes c.push_emit.new.line) (string_bytes c.writeln.new.self) _ _ _
    c.in_ok-write.ensures.bytes c.in_ok-push_emit.ensures is
    ∙ ap (λ (t : List ℕ). string_bytes c.args.line.now ++ t) (simp append_assoc refl)) c.writeln.ensures.bytes
