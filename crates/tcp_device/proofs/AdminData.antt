-- An admin command gives 4096 bytes at most.
use Rattle.std.proofs.Common.{◌≡◌, ℕ, Bool, true, false, cond, ◌-◌, ◌==◌, ◌≤◌, nat_lt, List, [], length, length-append, take, drop, replicate, Option, Some, None, Result, Ok, Err, slice_index, refl, sym, arith}
use Rattle.std.specs.Option.{ok_or}
use Rattle.std.proofs.lemmas.Bool.{leb-true}
use Rattle.std.proofs.lemmas.List.{length-replicate, length-take}
use Rattle.common_definitions.specs.Checks.{first_failed, unless_failed}
use Rattle.common_definitions.specs.Readings.{◌>>=◌}
use Rattle.common_definitions.proofs.Proved.{demanded, none_failed, passed, value_given}
use Rattle.zone_state.specs.declared.status.Status.{Status}
use Rattle.tcp_admin.specs.Admin.{response, response_by}
use Rattle.tcp_admin.specs.Answers.{Response, data_of}
use Rattle.tcp_admin.specs.Identify.{identified, identify_checks, namespace_in, structure_bytes, structure_in}
use Rattle.tcp_admin.specs.Laws.{IsSubsystem, StructuresAreWhole}
use Rattle.tcp_admin.specs.Logs.{log_bytes, log_checks, log_page_of, logged, part_in, wanted_bytes}
use Rattle.tcp_admin.specs.Pages.{part_of}
use Rattle.tcp_admin.specs.declared.controller.Controller.{Controller}
use Rattle.tcp_admin.specs.declared.status.TheConstants.{INVALID_LOG_PAGE}
use Rattle.tcp_admin.specs.declared.subsystem.NamespaceFormat.{NamespaceFormat}
use Rattle.tcp_admin.specs.declared.subsystem.Subsystem.{Subsystem}

abbrev GivesFew : Result (List ℕ) Status → Type 0
GivesFew r = length (data_of r) ≤ 4096

-- where the checks pass
where_passed : (fault : Option Status) (bytes : List ℕ) → length bytes ≤ 4096 → GivesFew (unless_failed fault bytes)
where_passed None bytes few = few
where_passed (Some status) bytes few = omega arith

-- after what may be refused
after : {X : Type 0} (r : Result X Status) (f : X → Result (List ℕ) Status) → ((x : X) → r ≡ Ok x → GivesFew (f x)) → GivesFew (r >>= f)
after {X} (Err status) f each = omega arith
after {X} (Ok x) f each = each x refl

after_both : {X Y : Type 0} (r : Result X Status) (f : X → Result Y Status) (g : Y → Result (List ℕ) Status)
    → ((x : X) (y : Y) → f x ≡ Ok y → GivesFew (g y)) → GivesFew ((r >>= f) >>= g)
after_both {X} {Y} (Err status) f g each = omega arith
after_both {X} {Y} (Ok x) f g each = after (f x) g (each x)

-- what holds of each of eight holds of the one that is chosen
either : {X : Type 0} (P : X → Type 0) (b : Bool) (x y : X) → P x → P y → P (cond b x y)
either {X} P true x y first second = first
either {X} P false x y first second = second

any_chosen : {X : Type 0} (P : X → Type 0) (b1 b2 b3 b4 b5 b6 b7 : Bool) (x1 x2 x3 x4 x5 x6 x7 other : X)
    → P x1 → P x2 → P x3 → P x4 → P x5 → P x6 → P x7 → P other
    → P (cond b1 x1 (cond b2 x2 (cond b3 x3 (cond b4 x4 (cond b5 x5 (cond b6 x6 (cond b7 x7 other)))))))
any_chosen {X} P b1 b2 b3 b4 b5 b6 b7 x1 x2 x3 x4 x5 x6 x7 other p1 p2 p3 p4 p5 p6 p7 last =
    either P b1 x1 _ p1
    (either P b2 x2 _ p2
    (either P b3 x3 _ p3 (either P b4 x4 _ p4 (either P b5 x5 _ p5 (either P b6 x6 _ p6 (either P b7 x7 other p7 last))))))

none_few : length {A = ℕ} [] ≤ 4096
none_few = omega arith

part_few : (offset size : ℕ) (bytes : List ℕ) → size ≤ 4096 → length (part_of offset size bytes) ≤ 4096
part_few offset size bytes few =
    omega (
      arith,
      few,
      length-append (take size (drop offset bytes)) (replicate (size - length (take size (drop offset bytes))) 0),
      length-replicate {A = ℕ} (size - length (take size (drop offset bytes))) 0,
      length-take size (drop offset bytes),
    )

module _ (law : StructuresAreWhole) (entry : List ℕ) (s : Subsystem) (n : NamespaceFormat) (texts : IsSubsystem s) where
  structures_few : (id : ℕ) → GivesFew (identified entry id s n)
  structures_few id =
      after (structure_in entry) _
      (λ structure is. (let whole = law structure (namespace_in entry) id s n texts in
      where_passed (first_failed (identify_checks structure entry)) (structure_bytes structure (namespace_in entry) id s n) (omega (arith, whole))))

  logs_few : GivesFew (logged entry s)
  logs_few =
      after_both (ok_or (log_page_of (slice_index entry 40)) INVALID_LOG_PAGE) _ _
      (λ log part is.
      let none = none_failed (first_failed (log_checks (part_in log entry) entry)) (part_in log entry) part is in
      let same = value_given (first_failed (log_checks (part_in log entry) entry)) (part_in log entry) part (sym is) in
      let size : part.size ≡ wanted_bytes entry = cc in
      let few : wanted_bytes entry ≤ 4096 =
      leb-true (wanted_bytes entry) 4096 (demanded _ _ (passed (log_checks (part_in log entry) entry) 0 none)) in
      part_few part.offset part.size (log_bytes part.page part.command_set s) (omega (arith, size, few)))

  events_few : (few : Bool) (kept refused : Response) → length kept.«data» ≤ 4096 → length refused.«data» ≤ 4096 → length (cond few kept refused).«data» ≤ 4096
  events_few true kept refused first second = first
  events_few false kept refused first second = second

  pub admin_few : (c : Controller) → length (response entry s n c).«data» ≤ 4096
  admin_few c =
      let opcode : ℕ = slice_index entry 0 in
      any_chosen (λ command. length (response_by command entry s n c).«data» ≤ 4096) (opcode == 0x02) (opcode == 0x06) (opcode == 0x08)
      (opcode == 0x09) (opcode == 0x0A) (opcode == 0x0C) (opcode == 0x18) _ _ _ _ _ _ _ _ logs_few (structures_few c.id) none_few none_few
      none_few (events_few (nat_lt c.event_requests 4) _ _ none_few none_few) none_few none_few
