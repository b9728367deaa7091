use Rattle.std.proofs.Common.{◌≡◌, take, drop}
use Rattle.image_store.specs.ImageInMemory.{zones_of, IsFlat}
use Rattle.image_text.specs.Reading.{blocks_in}
use Rattle.image_text.proofs.BlocksRead.{with_zones}
use Rattle.image_text.proofs.load.fill_zones.Given as goal

abbrev pub invariant-loop-number : goal.invariant-loop-number
invariant-loop-number g l = record {
  read : g.R.Source.tells → with_zones (zones_of l.fn.geometry.block l.fn.geometry.capacity (take l.number l.zones) l.blocks) (blocks_in l.fn.geometry.block (drop l.number l.zones) (g.R.Source.rest l.source)) ≡ blocks_in l.fn.geometry.block l.zones (g.R.Source.rest l.initial.source);
  flat : IsFlat l.fn.geometry l.zones l.blocks;
  count : g.R.Source.failures l.source ≡ g.R.Source.failures l.initial.source;
}
