-- What the checks of a write come to.
use Rattle.std.proofs.Common.{◌≡◌, ℕ, ◌+◌, ◌≤◌, Bool, true, [], ◌∷◌, Option, None, Ok, refl, ap}
use Rattle.std.specs.Prelude.{nat_eq, nat_le}
use Rattle.std.proofs.lemmas.Bool.{eq-eqb, eqb-true, le-leb, leb-true}
use Rattle.common_definitions.specs.Checks.{demand, first_failed, unless_failed}
use Rattle.zone_state.specs.Zone.{CountedZone, checks_of_write, write_check, write_refusal}
use Rattle.zone_state.specs.declared.status.Status.{Status}
use Rattle.zone_state.specs.declared.status.TheConstants.Status.{ZONE_BOUNDARY_ERROR, ZONE_INVALID_WRITE}
use Rattle.common_definitions.proofs.Proved.{demanded, none_failed, passed}

-- a write of n blocks from block `at` of the zone on fails no check
pub record IsAllowed (z : CountedZone) (at n : ℕ) : Type 0 where
  pub writable : write_refusal z.state ≡ None
  pub at_pointer : at ≡ z.written
  pub has_room : z.written + n ≤ z.capacity

-- a write that passes the checks goes to a writable zone, at its write pointer, with room for it
pub is_allowed : (z : CountedZone) (at n : ℕ) → write_check z at n ≡ Ok tt → IsAllowed z at n
is_allowed z at n given =
    let checks = checks_of_write z at n in
    let none = none_failed (first_failed checks) tt tt given in
    record {
      writable = passed checks 0 none;
      at_pointer = eqb-true at z.written (demanded (nat_eq at z.written) ZONE_INVALID_WRITE (passed checks 1 none));
      has_room = leb-true (z.written + n) z.capacity (demanded (nat_le (z.written + n) z.capacity) ZONE_BOUNDARY_ERROR (passed checks 2 none));
    }

all_pass : (why : Option Status) (here fits : Bool) → why ≡ None → here ≡ true → fits ≡ true
    → first_failed (why ∷ demand here ZONE_INVALID_WRITE ∷ demand fits ZONE_BOUNDARY_ERROR ∷ []) ≡ None
all_pass why here fits writable at_pointer has_room = rw (writable, at_pointer, has_room) refl

-- a write to a writable zone, at its write pointer, with room for it, passes the checks
pub allowed_passes : (z : CountedZone) (at n : ℕ) → IsAllowed z at n → write_check z at n ≡ Ok tt
allowed_passes z at n is =
    ap (λ (why : Option Status). unless_failed why tt)
    (all_pass (write_refusal z.state) (nat_eq at z.written) (nat_le (z.written + n) z.capacity)
    is.writable (eq-eqb at z.written is.at_pointer) (le-leb (z.written + n) z.capacity is.has_room))
