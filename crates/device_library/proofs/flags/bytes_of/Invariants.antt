use Rattle.std.proofs.Common.{◌≡◌, length, map, take}
use Rattle.device_library.specs.Flags.{byte_of}
use Rattle.device_library.proofs.flags.bytes_of.Given as goal

abbrev pub invariant-loop-place : goal.invariant-loop-place
invariant-loop-place l = record {
  bytes : take l.place l.bytes ≡ map byte_of (take l.place l.fn.flags);
  all : length l.bytes ≡ 40;
}
