-- The numbers of the faults of loading an image.
use Rattle.std.specs.Prelude.{ℕ}
use Rattle.image_text.specs.declared.fault.LoadFault.{LoadFault}
use Rattle.image_text.specs.declared.fault.LoadFault.TheVariants.{Truncated, Magic, Header, ZoneRow, Total, Limits, Trailing, Stream, Memory}

-- the number of a fault of loading, by which a user is told of each of a text (profile)
abbrev pub load_number : LoadFault → ℕ
load_number Truncated = 10
load_number Magic = 11
load_number (Header fault) = 12
load_number (ZoneRow zone fault) = 13
load_number (Total told counted) = 18
load_number (Limits opened active limits) = 14
load_number Trailing = 15
load_number Stream = 16
load_number Memory = 17
