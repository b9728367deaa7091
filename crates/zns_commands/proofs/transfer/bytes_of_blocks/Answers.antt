use Rattle.std.proofs.Common.{ap, refl, arith}
use Rattle.image_store.specs.Geometry.{Shape}
use Rattle.image_store.proofs.Proved.{block_some}
use Rattle.zns_commands.proofs.transfer.bytes_of_blocks.Goals as goal

pub returns-clause-value : goal.returns-clause-value
returns-clause-value c =
    let block = ap (λ (s : Shape). s.block) c.geometry.ensures.value in
    rw (c.from.ensures, c.get.ensures.value, c.from-2.ensures, c.bytes.ensures.value, c.block.ensures.value, block) refl

pub returns-clause-some : goal.returns-clause-some
returns-clause-some c =
    let block = ap (λ (s : Shape). s.block) c.geometry.ensures.value in
    rw (← block) (omega (arith, block_some c.geometry.ensures.known))
