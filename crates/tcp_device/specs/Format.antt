-- What hosts are told of a namespace.
use Rattle.std.specs.Prelude.{◌≡◌, ◌*◌, ◌^◌}
use Rattle.image_store.specs.Geometry.{Shape}
use Rattle.tcp_admin.specs.declared.subsystem.NamespaceFormat.{NamespaceFormat}

-- the format is that of a namespace of this shape (ZNS 1.1, 2.1.1): Identify tells hosts its blocks, their size, and the zones' size
-- and limits (NVMe Base 2.0, 5.17; ZNS 1.1, 4.1.5.1)
pub record IsFormatOf (s : Shape) (format : NamespaceFormat) : Type 0 where
  pub blocks : format.blocks ≡ s.zones * s.size
  pub block_size : 2 ^ format.block_size_log2 ≡ s.block
  pub zone_blocks : format.zone_blocks ≡ s.size
  pub active_limit : format.active_limit ≡ s.limits.active_limit
  pub open_limit : format.open_limit ≡ s.limits.open_limit
