-- What the proofs of other crates cite of this one: lemmas of zones, of blocks and of shapes.
pub use Rattle.image_store.proofs.BlocksOfBytes.{blocks-same, blocks_are_counted, blocks_are_cut_again, blocks_have_bytes, blocks_keep_bytes, drop-next, drop-spliced, take-spliced}
pub use Rattle.image_store.proofs.BlocksAreBytes.{blocks_are_bytes}
pub use Rattle.image_store.proofs.ImageFields.{counted_seen, room_end, within, written_is_within}
pub use Rattle.image_store.proofs.ReplacedZones.{each_set, writes_keep_zones}
pub use Rattle.image_store.proofs.Shapes.{block_most, block_some, resized, shape_is, shape_passes, zone_room_is_bounded}
pub use Rattle.image_store.proofs.SoundImages.{blocks_are_parts, blocks_are_whole, blocks_lie_in_zones, is_one_of}
