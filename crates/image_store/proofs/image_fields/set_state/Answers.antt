use Rattle.std.proofs.Common.{get_or, refl}
use Rattle.std.proofs.lemmas.List.{get_or_default}
use Rattle.zone_state.specs.Zone.{CountedZone, kept}
use Rattle.image_store.specs.ImageInMemory.{no_counted_zone, IsFlat}
use Rattle.image_store.proofs.KeptLimits.{limits_seen}
use Rattle.image_store.proofs.ReplacedZones.{state_set, flat_set}
use Rattle.image_store.proofs.image_fields.set_state.Goals as goal

pub returns-clause-state : goal.returns-clause-state
returns-clause-state c =
    let is = rw c.unwrap-is.ensures at c.new.ensures.value in
    let read = get_or_default c.args.zones.now c.args.zone c.index-zones-zone.result no_counted_zone c.requires.inside in
    let seen = state_set c.args.geometry c.args.zones.now c.args.blocks.now c.args.zone c.args.to c.requires.inside in
    rw (c.replace.ensures.zones, is, c.kept-written.ensures, c.written.ensures, c.capacity.ensures, read) seen

pub returns-clause-image : goal.returns-clause-image
returns-clause-image c =
    let is = rw c.unwrap-is.ensures at c.new.ensures.value in
    let read = get_or_default c.args.zones.now c.args.zone c.index-zones-zone.result no_counted_zone c.requires.inside in
    let r : CountedZone = record { state = c.args.to; written = kept c.args.to (get_or c.args.zones.now c.args.zone no_counted_zone).written; capacity = c.args.geometry.capacity } in
    let set = flat_set c.args.geometry c.args.zones.now c.args.blocks.now c.args.blocks.now c.args.zone r c.requires.image.flat refl refl c.requires.fits in
    let flat : IsFlat c.args.geometry c.replace.new.zones c.args.blocks.now =
    rw (c.replace.ensures.zones, is, c.kept-written.ensures, c.written.ensures, c.capacity.ensures, read) set in
    record {
      flat = flat;
      counted = c.replace.ensures.counted;
      within = limits_seen c.args.geometry c.replace.new.zones c.args.blocks.now _ flat (returns-clause-state c) c.requires.allowed;
      are_bytes = c.requires.image.are_bytes;
    }
