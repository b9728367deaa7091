use Rattle.std.proofs.Common.{◌≡◌, ℕ, List, Option, append_assoc, refl, subst}
use Rattle.std.specs.Io.KnownBytes.{Appends}
use Rattle.std.proofs.lemmas.Result.{on_ok_weaker}
use Rattle.command_serve.specs.Salvaging.{saved_line}
use Rattle.command_serve.proofs.salvaging.print.Goals as goal

-- what is appended is these bytes too
appends_same : (before after : Option (List ℕ)) (written wanted : List ℕ) → written ≡ wanted → Appends before after written → Appends before after wanted
appends_same before after written wanted same = subst (λ (bytes : List ℕ). Appends before after bytes) same

pub returns : goal.returns
returns g c =
    on_ok_weaker c.writeln.result
    (appends_same (g.O.Write.contents c.args.out.now) (g.O.Write.contents c.writeln.new.self) _
    (saved_line c.args.end c.args.whole c.args.readable) (simp append_assoc refl))
    c.writeln.ensures.bytes
