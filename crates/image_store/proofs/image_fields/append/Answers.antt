use Rattle.std.proofs.Common.{◌∙◌}
use Rattle.std.proofs.lemmas.List.{get_or_default}
use Rattle.image_store.specs.ImageInMemory.{no_counted_zone, IsFlat}
use Rattle.common_definitions.proofs.Proved.{spliced_fit}
use Rattle.image_store.proofs.ImageFields.{write_fits, append_seen}
use Rattle.image_store.proofs.KeptLimits.{limits_seen}
use Rattle.image_store.proofs.ReplacedZones.{flat_append}
use Rattle.image_store.proofs.image_fields.append.Goals as goal

pub splice-requires : goal.splice-requires
splice-requires c =
    let read = c.index-zones-zone.is ∙ get_or_default c.args.zones.now c.args.zone c.index-zones-zone.result no_counted_zone c.requires.inside in
    let fits = write_fits c.args.geometry c.args.zones.now c.args.blocks.now c.args.zone c.args.bytes.now c.requires.image.flat c.requires.inside c.requires.whole c.requires.allowed in
    rw (c.zone_room.ensures, c.written.ensures, c.bytes-block.ensures.value, c.block.ensures.value, read) fits

pub returns-clause-state : goal.returns-clause-state
returns-clause-state c =
    let read = c.index-zones-zone.is ∙ get_or_default c.args.zones.now c.args.zone c.index-zones-zone.result no_counted_zone c.requires.inside in
    let seen = append_seen c.args.geometry c.args.zones.now c.args.blocks.now c.args.zone c.args.bytes.now c.requires.image.flat c.requires.inside c.requires.whole c.requires.allowed in
    rw (c.replace.ensures.zones, c.note_written.ensures, c.splice.ensures, c.zone_room.ensures, c.written.ensures, c.bytes-block.ensures.value, c.block.ensures.value, read) seen

pub returns-clause-image : goal.returns-clause-image
returns-clause-image c =
    let read = c.index-zones-zone.is ∙ get_or_default c.args.zones.now c.args.zone c.index-zones-zone.result no_counted_zone c.requires.inside in
    let flat = flat_append c.args.geometry c.args.zones.now c.args.blocks.now c.args.zone c.args.bytes.now c.requires.image.flat c.requires.inside c.requires.some c.requires.whole c.requires.allowed in
    let is : IsFlat c.args.geometry c.replace.new.zones c.splice.new.bytes =
    rw (c.replace.ensures.zones, c.note_written.ensures, c.splice.ensures, c.zone_room.ensures, c.written.ensures, c.bytes-block.ensures.value, c.block.ensures.value, read) flat in
    let bytes = c.requires.image.are_bytes in
    record {
      flat = is;
      counted = c.replace.ensures.counted;
      within = limits_seen c.args.geometry c.replace.new.zones c.splice.new.bytes _ is (returns-clause-state c) c.requires.limits;
      are_bytes = rw c.splice.ensures (spliced_fit _ c.args.bytes.now c.args.blocks.now (λ k. (c.type_inv.bytes k).fits) bytes);
    }
