use Rattle.std.proofs.Common.{◌≡◌, length, map, take}
use Rattle.device_library.specs.Flags.{is_set}
use Rattle.device_library.proofs.flags.flags_of.Given as goal

abbrev pub invariant-loop-place : goal.invariant-loop-place
invariant-loop-place l = record {
  flags : take l.place l.flags ≡ map is_set (take l.place l.fn.bytes);
  all : length l.flags ≡ 40;
}
