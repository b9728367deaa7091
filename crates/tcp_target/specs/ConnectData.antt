-- The data of a Connect (NVMe Base 2.0, 6.3).
use Rattle.std.specs.Prelude.{ℕ, Bool, ◌&&◌, List, take, drop}
use Rattle.std.specs.Str.{bytes_eq}
use Rattle.common_definitions.specs.Bytes.{field}
use Rattle.tcp_target.specs.declared.connect_data.ConnectData.{ConnectData}
use Rattle.tcp_target.specs.declared.connect_data.Host.{Host}
use Rattle.tcp_target.specs.QualifiedName.{name_in}

-- HOSTID in bytes 0 to 15, CNTLID in 16 and 17, SUBNQN in 256 to 511, HOSTNQN in 512 to 767
abbrev pub connect_data_in : List ℕ → ConnectData
connect_data_in bytes = record {
  host = record { identifier = take 16 bytes; nqn = take 256 (drop 512 bytes) };
  controller = field bytes 16 2;
  subsystem_nqn = take 256 (drop 256 bytes);
}

-- a host is known by its identifier and its name
abbrev pub is_same_host : Host → Host → Bool
is_same_host one other = bytes_eq one.identifier other.identifier && bytes_eq (name_in one.nqn) (name_in other.nqn)
