-- What is known where no check fails.
use Rattle.std.proofs.Common.{◌≡◌, ℕ, suc, ◌+◌, ◌*◌, ◌/◌, ◌%◌, ◌<◌, ◌≤◌, true, false, List, length, None, Result, Ok, Err, refl, ap, subst, ◌∙◌, arith}
use Rattle.std.specs.Prelude.{◌&&◌, nat_lt, nat_le, nat_eq, not}
use Rattle.std.proofs.Math.Nat.{div-lt_iff_lt-mul, mul-div_cancel, mul-le-mul_right, suc-mul}
use Rattle.std.specs.Result.{result_err, result_unwrap_or}
use Rattle.std.proofs.lemmas.Bool.{and_parts, eqb-true, leb-true, ltb-true, not-true}
use Rattle.std.proofs.lemmas.Nat.{mod-mul-add}
use Rattle.zone_state.specs.Zone.{fault_refusal, write_check}
use Rattle.zone_state.specs.declared.state.FaultState.{FaultState}
use Rattle.zone_state.specs.declared.status.Status.{Status}
use Rattle.zone_resources.specs.Holds.{is_destination, is_held}
use Rattle.zone_resources.specs.declared.holds.Holds.{Holds}
use Rattle.nvme_entry.specs.declared.command.TheConstants.{MOST_TRANSFER}
use Rattle.common_definitions.specs.Checks.{first_failed}
use Rattle.common_definitions.proofs.Proved.{demanded, guarded, passed}
use Rattle.zone_state.proofs.Proved.{is_allowed}
use Rattle.image_store.specs.Namespace.{ZonedNamespace, zone_at, IsNamespace}
use Rattle.zns_commands.specs.Address.{counted_zone_at, zone_number, block_total}
use Rattle.zns_commands.specs.Change.{Change, Writing, Moving}
use Rattle.zns_commands.specs.Append.{append_checks}
use Rattle.zns_commands.specs.Fault.{zone_fault_refusal}
use Rattle.zns_commands.specs.Resources.{room_for}
use Rattle.zns_commands.specs.steps.Plans.{closing_of}
use Rattle.zns_commands.specs.Send.{send_checks}
use Rattle.zns_commands.specs.Write.{write_checks}

-- what isn't refused is given
pub unrefused : {X : Type 0} (r : Result X Status) (other : X) → result_err r ≡ None → r ≡ Ok (result_unwrap_or r other)
unrefused (Ok x) other none = refl
unrefused (Err status) other none = cc

-- a fault that isn't refused is of a zone, and of one that no run uses
pub taken_fault : (ns : ZonedNamespace) (holds : Holds) (z : ℕ) (fault : FaultState) (done : Unit {0}) → zone_fault_refusal ns holds z fault ≡ Ok done
    → (z < length ns.zones) × (is_held holds z ≡ false)
taken_fault ns holds z fault done e =
    let inside = nat_lt z (length ns.zones) in
    let free = not (is_held holds z) in
    let both = and_parts inside free (guarded (inside && free) (fault_refusal fault (zone_at ns z).state) (record {}) done e).0 in
    (ltb-true z (length ns.zones) both.0, not-true (is_held holds z) both.1)

-- an address of the namespace is in one of its zones
pub zone_inside : (ns : ZonedNamespace) (lba : ℕ) → IsNamespace ns → lba < block_total ns → zone_number ns lba < length ns.zones
zone_inside ns lba sound inside =
    let some : 0 < ns.size = omega (arith, sound.shape.size_some) in
    (div-lt_iff_lt-mul {k = ns.size} some).1 inside

-- what holds of the lowest logical block of a zone: it is in that zone, the first there, and the namespace has it
pub record IsLowestBlock (ns : ZonedNamespace) (z lba : ℕ) : Type 0 where
  pub named : zone_number ns lba ≡ z
  pub first : lba % ns.size ≡ 0
  pub inside : lba < block_total ns

pub lowest_of : (ns : ZonedNamespace) (z : ℕ) → IsNamespace ns → z < length ns.zones → IsLowestBlock ns z (z * ns.size)
lowest_of ns z sound inside =
    let size = ns.size in
    let lba = z * size in
    let some : 1 ≤ size = sound.shape.size_some in
    let number : lba / size ≡ z = mul-div_cancel z (omega (arith, some)) in
    let place : lba % size ≡ 0 = ap (λ (n : ℕ). n % size) (omega arith) ∙ mod-mul-add z size 0 (omega (arith, some)) in
    let below : suc z ≤ length ns.zones = omega (arith, inside) in
    let product : suc z * size ≤ length ns.zones * size = mul-le-mul_right size below in
    let start : lba < block_total ns = omega (arith, suc-mul z size, product, some) in
    record { named = number; first = place; inside = start }

-- what holds of a write that isn't refused
pub record Writes (ns : ZonedNamespace) (holds : Holds) (z blocks : ℕ) (input : List ℕ) : Type 0 where
  pub inside : IsNamespace ns → 1 ≤ blocks → z < length ns.zones
  pub size : length input ≡ blocks * ns.block
  pub transfer : nat_le (blocks * ns.block) MOST_TRANSFER ≡ true
  pub free : is_destination holds z ≡ false
  pub fits : write_check (counted_zone_at ns z) (length (zone_at ns z).blocks) blocks ≡ Ok tt
  pub room : room_for ns holds (zone_at ns z).state ≡ Ok (closing_of (room_for ns holds (zone_at ns z).state))

-- an Append that isn't refused writes;
pub append_writes : (ns : ZonedNamespace) (holds : Holds) (lba blocks : ℕ) (input : List ℕ)
    → first_failed (append_checks ns holds lba blocks input) ≡ None → Writes ns holds (zone_number ns lba) blocks input
append_writes ns holds lba blocks input none =
    let checks = append_checks ns holds lba blocks input in
    let z = zone_number ns lba in
    let start = ltb-true lba (block_total ns) (demanded (nat_lt lba (block_total ns)) _ (passed checks 2 none)) in
    record {
      inside = λ sound some. zone_inside ns lba sound start;
      size = eqb-true (length input) (blocks * ns.block) (demanded (nat_eq (length input) (blocks * ns.block)) _ (passed checks 1 none));
      transfer = demanded (nat_le (blocks * ns.block) MOST_TRANSFER) _ (passed checks 0 none);
      free = not-true (is_destination holds z) (demanded (not (is_destination holds z)) _ (passed checks 4 none));
      fits = unrefused (write_check (counted_zone_at ns z) (length (zone_at ns z).blocks) blocks) tt (passed checks 5 none);
      room = unrefused (room_for ns holds (zone_at ns z).state) None (passed checks 6 none);
    }

-- a Write that isn't refused begins at its zone's write pointer,
pub write_begins : (ns : ZonedNamespace) (holds : Holds) (lba blocks : ℕ) (input : List ℕ) → first_failed (write_checks ns holds lba blocks input) ≡ None
    → lba % ns.size ≡ length (zone_at ns (zone_number ns lba)).blocks
write_begins ns holds lba blocks input none =
    let zone = counted_zone_at ns (zone_number ns lba) in
    (is_allowed zone (lba % ns.size) blocks (unrefused (write_check zone (lba % ns.size) blocks) tt (passed (write_checks ns holds lba blocks input) 5 none))).at_pointer

-- and writes
pub write_writes : (ns : ZonedNamespace) (holds : Holds) (lba blocks : ℕ) (input : List ℕ)
    → first_failed (write_checks ns holds lba blocks input) ≡ None → Writes ns holds (zone_number ns lba) blocks input
write_writes ns holds lba blocks input none =
    let checks = write_checks ns holds lba blocks input in
    let z = zone_number ns lba in
    let end = leb-true (lba + blocks) (block_total ns) (demanded (nat_le (lba + blocks) (block_total ns)) _ (passed checks 2 none)) in
    record {
      inside = λ sound some. zone_inside ns lba sound (omega (arith, end, some));
      size = eqb-true (length input) (blocks * ns.block) (demanded (nat_eq (length input) (blocks * ns.block)) _ (passed checks 1 none));
      transfer = demanded (nat_le (blocks * ns.block) MOST_TRANSFER) _ (passed checks 0 none);
      free = not-true (is_destination holds z) (demanded (not (is_destination holds z)) _ (passed checks 4 none));
      fits =
          subst (λ (k : ℕ). write_check (counted_zone_at ns z) k blocks ≡ Ok tt) (write_begins ns holds lba blocks input none)
          (unrefused (write_check (counted_zone_at ns z) (lba % ns.size) blocks) tt (passed checks 5 none));
      room = unrefused (room_for ns holds (zone_at ns z).state) None (passed checks 6 none);
    }

-- what holds of the change of a command of which no check fails
abbrev pub IsPassed : ZonedNamespace → Holds → Change → List ℕ → Type 0
IsPassed ns holds (Writing lba blocks) input = Writes ns holds (zone_number ns lba) blocks input
IsPassed ns holds (Moving lba a select_all) input = first_failed (send_checks ns holds lba a select_all input) ≡ None
IsPassed ns holds _ input = Unit {0}
