use Rattle.std.proofs.Common.{◌≡◌, ◌+◌, ◌-◌, ◌*◌, min, ℕ, length, drop, ap, refl, ◌∙◌, arith}
use Rattle.zone_state.specs.Zone.{CountedZone}
use Rattle.image_store.specs.Geometry.{Shape}
use Rattle.image_store.specs.Namespace.{zone_at}
use Rattle.zns_commands.proofs.ReadBytes.{read_bytes, parts, given_front, given_rest}
use Rattle.zns_commands.proofs.read.give_blocks.Goals as goal

pub give-requires : goal.give-requires
give-requires c =
    let block = c.bytes-block.ensures.value ∙ (c.block.ensures.value ∙ ap (λ (s : Shape). s.block) c.geometry.ensures.value) in
    let whole = parts c.args.blocks c.min-stored.result c.args.image.now.block (omega arith) in
    rw (c.get-2.ensures.value, block, c.blocks-2.ensures.size) (omega arith)

pub returns-clause-front : goal.returns-clause-front
returns-clause-front c =
    let block = c.bytes-block.ensures.value ∙ (c.block.ensures.value ∙ ap (λ (s : Shape). s.block) c.geometry.ensures.value) in
    let bytes = c.blocks-2.result.now in
    let zeros = (c.get-2.result - c.min-stored.result) * c.bytes-block.result in
    let size : length bytes + zeros ≡ c.get-3.result * c.bytes-block.result =
    rw (c.get-2.ensures.value, c.get-3.ensures.value, block, c.blocks-2.ensures.size) (parts c.args.blocks c.min-stored.result c.args.image.now.block (omega arith)) in
    let blocks = (zone_at c.args.image.now c.args.from.zone).blocks in
    let written : c.written-written.result ≡ length blocks = c.written-written.ensures ∙ ap (λ (r : CountedZone). r.written) c.zone.ensures in
    given_front c.give.new.output bytes (drop (length bytes + zeros) c.args.output.now) zeros _ c.give.ensures size
    ∙ rw (c.get-2.ensures.value, block, c.blocks-2.ensures.value)
    (read_bytes c.args.image.now.block blocks c.args.from.offset c.args.blocks c.min-first.result c.min-stored.result
    (c.min-first.ensures ∙ ap (λ (n : ℕ). min c.args.from.offset n) written)
    (c.min-stored.ensures ∙ rw (c.get.ensures.value, written) refl))

pub returns-clause-rest : goal.returns-clause-rest
returns-clause-rest c =
    let block = c.bytes-block.ensures.value ∙ (c.block.ensures.value ∙ ap (λ (s : Shape). s.block) c.geometry.ensures.value) in
    let bytes = c.blocks-2.result.now in
    let zeros = (c.get-2.result - c.min-stored.result) * c.bytes-block.result in
    let size : length bytes + zeros ≡ c.get-3.result * c.bytes-block.result =
    rw (c.get-2.ensures.value, c.get-3.ensures.value, block, c.blocks-2.ensures.size) (parts c.args.blocks c.min-stored.result c.args.image.now.block (omega arith)) in
    given_rest c.give.new.output bytes (drop (length bytes + zeros) c.args.output.now) zeros _ c.give.ensures size ∙ ap (λ (n : ℕ). drop n c.args.output.now) size
