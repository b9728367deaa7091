use Rattle.std.proofs.Common.{take, refl, ap, ◌∙◌}
use Rattle.emit_append.specs.Packer.{PackerState}
use Rattle.common_definitions.specs.Bytes.{padded}
use Rattle.emit_append.proofs.packer.Packer.padded.Goals as goal

pub returns : goal.returns
returns c =
    let is : PackerState = record { block = c.self.inside.block; pending = take c.self.inside.pending c.self.inside.bytes } in (
      (refl, (λ _. tt), rw (c.pad.ensures.front, ← c.self.view_is) refl),
      record {
        value = c.pad.ensures.block ∙ ap (λ p. padded p.block p.pending) c.self.view_is;
        whole = c.pad.ensures.whole ∙ ap (λ p. p.block) c.self.view_is;
        unchanged = tt;
      },
    )
