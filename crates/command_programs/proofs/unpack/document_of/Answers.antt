use Rattle.std.proofs.Common.{◌≡◌, ℕ, ◌<◌, ◌++◌, length, ap, ◌∙◌, arith, rules}
use Rattle.std.specs.Prelude.{codes, Vec}
use Rattle.std.specs.String.{string_bytes}
use Rattle.std.specs.declared.alloc.Global.{Global}
use Rattle.command_programs.specs.Printed.{record_object}
use Rattle.command_programs.proofs.Texts.{object_pushed}
use Rattle.command_programs.proofs.unpack.document_of.Goals as goal
use Rattle.command_programs.proofs.unpack.document_of.Goals.{then-number-gt0+in_ok-push_str, else-number-gt0}

pub loop-number-preserved : goal.loop-number-preserved
loop-number-preserved c =
    let records = c.args.records.now in
    let number = c.loop-number.number in
    let record_at = c.index-records-number.result in
    let between = string_bytes c.if-number-gt0.text in
    let below : number < length records = omega arith in
    let pushed : string_bytes c.push_str-in-loop-number.new.self ≡ between ++ record_object record_at.items = search rules in
    object_pushed records number record_at below (codes "{\"records\":[") (string_bytes c.loop-number.text) between (string_bytes c.push_str-in-loop-number.new.self)
    c.loop-number.invariant
    (λ none. elim c.if-number-gt0.branch [
      | then-number-gt0+in_ok-push_str w ↦ absurd (omega (arith, none))
      | else-number-gt0 w ↦ ap string_bytes w.text-is
    ])
    (λ some. elim c.if-number-gt0.branch [
      | then-number-gt0+in_ok-push_str w ↦
          let comma : string_bytes w.push_str.new.self ≡ string_bytes c.loop-number.text ++ codes "," = search rules in
          ap string_bytes w.text-is ∙ comma
      | else-number-gt0 w ↦ absurd (omega (arith, some))
    ])
    (pushed ∙ ap (λ (r : Vec ℕ Global). between ++ record_object r.items) c.index-records-number.is)
