use Rattle.std.proofs.Common.{◌≡◌, length, map, take}
use Rattle.tcp_target.specs.Roles.{without}
use Rattle.tcp_target.proofs.role.without_controller.Given as goal

abbrev pub invariant-loop-number : goal.invariant-loop-number
invariant-loop-number l = record {
  made : take l.number l.kept ≡ map (λ role. without l.id role) (take l.number l.roles);
  all : length l.kept ≡ 40;
}
