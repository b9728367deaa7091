-- Instructions of 64 bits in place of such of 32 bits.
use Rattle.std.proofs.Common.{◌^◌, refl}
use Rattle.std.proofs.Math.Nat.{mod-eq_of_lt}
use Rattle.ebpf_link.specs.Widening.{IsUnsigned}
use Rattle.instruction_set.specs.declared.operation.Relation.TheVariants.{Equal, Greater, GreaterOrEqual, Less, LessOrEqual, NotEqual}

pub equal : IsUnsigned Equal
equal x y few less = rw (mod-eq_of_lt {n = x} {m = 2 ^ 32} few) (rw (mod-eq_of_lt {n = y} {m = 2 ^ 32} less) refl)

pub not_equal : IsUnsigned NotEqual
not_equal x y few less = rw (mod-eq_of_lt {n = x} {m = 2 ^ 32} few) (rw (mod-eq_of_lt {n = y} {m = 2 ^ 32} less) refl)

pub greater : IsUnsigned Greater
greater x y few less = rw (mod-eq_of_lt {n = x} {m = 2 ^ 32} few) (rw (mod-eq_of_lt {n = y} {m = 2 ^ 32} less) refl)

pub no_less : IsUnsigned GreaterOrEqual
no_less x y few less = rw (mod-eq_of_lt {n = x} {m = 2 ^ 32} few) (rw (mod-eq_of_lt {n = y} {m = 2 ^ 32} less) refl)

pub less : IsUnsigned Less
less x y few small = rw (mod-eq_of_lt {n = x} {m = 2 ^ 32} few) (rw (mod-eq_of_lt {n = y} {m = 2 ^ 32} small) refl)

pub no_greater : IsUnsigned LessOrEqual
no_greater x y few less = rw (mod-eq_of_lt {n = x} {m = 2 ^ 32} few) (rw (mod-eq_of_lt {n = y} {m = 2 ^ 32} less) refl)
