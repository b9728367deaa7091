-- Bounds of the distances of addresses.
use Rattle.std.proofs.Common.{ℕ, ℤ, pos, ◌≡◌, ◌≤◌, ◌^◌, arith}
use Rattle.std.proofs.lemmas.Int.{ints}
use Rattle.std.specs.Prelude.{◌+ℤ◌, ◌≤ℤ◌}
use Rattle.instruction_set.specs.declared.access.Access.{Access}
use Rattle.ebpf_link.specs.Bounds.{Compares, IsWithin, LieInside, Narrows}
use Rattle.ebpf_link.specs.declared.within.Within.{Within}

-- two bounds of the lowest distance, and two of the greatest
pub record AreBounds (within narrow : Within) (access : Access) (length : ℕ) (lower lowest upper greatest from to offset : ℤ) : Type 0 where
  pub area : narrow.area ≡ within.area
  pub lower_is : lower ≡ within.low
  pub upper_is : upper ≡ within.high
  pub offset_is : offset ≡ access.offset
  pub from_is : lowest ≡ from
  pub to_is : greatest ≡ to
  pub lowest_is : (from +ℤ offset) ≡ pos 0
  pub greatest_fits : (to +ℤ offset +ℤ pos access.size) ≤ℤ pos length
  pub greatest_is : length ≤ 2 ^ 20 → (to +ℤ offset +ℤ pos access.size) ≡ pos length
  pub low_one : lower ≤ℤ narrow.low
  pub low_other : lowest ≤ℤ narrow.low
  pub low_least : (bound : ℤ) → lower ≤ℤ bound → lowest ≤ℤ bound → narrow.low ≤ℤ bound
  pub high_one : narrow.high ≤ℤ upper
  pub high_other : narrow.high ≤ℤ greatest
  pub high_most : (bound : ℤ) → bound ≤ℤ upper → bound ≤ℤ greatest → bound ≤ℤ narrow.high

pub narrows : (within narrow : Within) (access : Access) (length : ℕ) (lower lowest upper greatest from to offset : ℤ)
    → AreBounds within narrow access length lower lowest upper greatest from to offset → Narrows within access length narrow
narrows within narrow access length lower lowest upper greatest from to offset are = record {
  area = are.area;
  kept = λ distance is. record {
    low = omega (arith, ints, is.low, are.low_one, are.lower_is);
    high = omega (arith, ints, is.high, are.high_one, are.upper_is);
  };
  inside = λ distance is. record {
    first = omega (arith, ints, is.low, are.low_other, are.lowest_is, are.from_is, are.offset_is);
    last = omega (arith, ints, is.high, are.high_other, are.greatest_fits, are.to_is, are.offset_is);
  };
  widest = λ distance is lies small. record {
    low = are.low_least distance (omega (arith, ints, is.low, are.lower_is)) (omega (arith, ints, lies.first, are.lowest_is, are.from_is, are.offset_is));
    high = are.high_most distance (omega (arith, ints, is.high, are.upper_is)) (omega (arith, ints, lies.last, are.greatest_is small, are.to_is, are.offset_is));
  };
}

-- numbers between which a distance lies
pub record AreNumbers (within : Within) (low high lower upper : ℤ) : Type 0 where
  pub lower_is : lower ≡ within.low
  pub upper_is : upper ≡ within.high
  pub low_inside : lower ≤ℤ pos 100000 → lower ≤ℤ low
  pub low_least : (n : ℕ) → lower ≤ℤ pos n → low ≤ℤ pos n
  pub high_inside : pos 0 ≤ℤ upper → high ≤ℤ upper
  pub high_most : (n : ℕ) → pos n ≤ℤ upper → n ≤ 100000 → pos n ≤ℤ high

pub compares : (within : Within) (low high lower upper : ℤ) → AreNumbers within low high lower upper → Compares within low high
compares within low high lower upper are = record {
  inside = λ some few distance from to. record {
    low = (let near = are.low_inside (rw are.lower_is few) in omega (arith, ints, from, near, are.lower_is));
    high = (let near = are.high_inside (rw are.upper_is some) in omega (arith, ints, to, near, are.upper_is));
  };
  least = λ distance is small. are.low_least distance (rw are.lower_is is.low);
  most = λ distance is small. are.high_most distance (rw are.upper_is is.high) small;
}
