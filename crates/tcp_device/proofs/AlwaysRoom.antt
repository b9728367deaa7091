-- At each place there is always room for one completion more, however much a host leaves unread.
use Rattle.std.proofs.Common.{◌≡◌, ℕ, ◌≤◌, ◌<◌, ◌+◌, ◌*◌, ◌==◌, ◌&&◌, Bool, true, false, cond, not, nat_le, nat_lt, List, [], ◌∷◌, length, replicate, Option, None, Some, refl, sym, ap, subst, ◌∙◌, inl, inr, length-append, arith}
use Rattle.std.specs.Prelude.{slice_index_or}
use Rattle.std.proofs.lemmas.Bool.{and_parts, cases_lt, eqb-false, eqb-true, le-leb, leb-true, ltb-true}
use Rattle.std.proofs.lemmas.List.{get_or-replicate, get_or-set_other, get_or_past, length-drop}
use Rattle.tcp_pdus.specs.Laws.{DataBeginsAligned}
use Rattle.tcp_target.specs.Connected.{refusal}
use Rattle.tcp_target.specs.declared.connect_checks.TheConstants.{DATA_SGL_LENGTH_INVALID}
use Rattle.tcp_connection.specs.Connection.{taken}
use Rattle.tcp_connection.specs.Executing.{Execution, completed, gone}
use Rattle.tcp_connection.specs.declared.queue.Outcome.{Outcome}
use Rattle.tcp_connection.specs.declared.queue.Queue.{Queue}
use Rattle.tcp_connection.specs.declared.state.ConnectionState.{ConnectionState}
use Rattle.tcp_target.specs.QueueCommands.{fits, is_success, result_of}
use Rattle.tcp_target.specs.PlaceEvents.{answered_at, closed, completed_at, connected_at, executed, handed_over, joined, kept, opened, received, returned, sent, stepped}
use Rattle.tcp_target.specs.Places.{PlaceState, goes_on, has_room, ready_at, vacant}
use Rattle.tcp_target.specs.Queues.{QueuesState, no_queues, place_at, with_place}
use Rattle.tcp_target.proofs.Fine.{here}
use Rattle.tcp_device.proofs.Sending.{IsAligned, comes, completes, goes, most_with}
use Rattle.tcp_device.proofs.Standing.{Stands}

-- ---- a place

-- what is to be sent, and the completions of all that the device has, leave room for one completion more
pub record KeepsRoom (p : PlaceState) : Type 0 where
  pub few : length p.unsent + 24 * p.executing ≤ 397160
  pub aligned : IsAligned p.connection

-- a command went to the device just now
pub record WasHandedOver (p : PlaceState) : Type 0 where
  pub few : length p.unsent ≤ 262168
  pub some : p.executing ≤ 128
  pub aligned : IsAligned p.connection

-- it takes bytes, and lets a command go
pub record GoesOn (p : PlaceState) : Type 0 where
  pub few : length p.unsent ≤ 262144
  pub some : p.executing < 128

goes_parts : (p : PlaceState) → goes_on p ≡ true → GoesOn p
goes_parts p is =
    let parts = and_parts (p.is_open && nat_le (length p.unsent) 262144) (nat_lt p.executing 128) is in
    let inner = and_parts p.is_open (nat_le (length p.unsent) 262144) parts.0 in
    record { few = leb-true (length p.unsent) 262144 inner.1; some = ltb-true p.executing 128 parts.1 }

goes_by : (b : Bool) (o : Option Execution) (execution : Execution) → cond b o None ≡ Some execution → b ≡ true
goes_by true o execution is = refl
goes_by false o execution is = absurd cc

pub goes_where : (p : PlaceState) (execution : Execution) → ready_at p ≡ Some execution → GoesOn p
goes_where p execution is = goes_parts p (goes_by (goes_on p) _ execution is)

-- so many bytes are to be sent beside what was
added : (p : PlaceState) (c : ConnectionState) (sent : List ℕ) (before most : ℕ) → length p.unsent ≤ before → p.executing ≤ 128 → length sent ≤ most
    → before + most + 3072 ≤ 397160 → IsAligned c → KeepsRoom (stepped (c, sent) p)
added p c sent before most few some more within aligned =
    record { few = omega (arith, length-append p.unsent sent, few, some, more, within); aligned = aligned }

-- a command goes
kept_few : (p : PlaceState) → length p.unsent ≤ 262144 → IsAligned p.connection → length (kept p).unsent ≤ 262168
kept_few p few aligned =
    let s = (goes p.connection aligned).few in omega (arith, few, s, length-append p.unsent (gone p.connection).1)

pub keeps : (p : PlaceState) → GoesOn p → KeepsRoom p → KeepsRoom (kept p)
keeps p on room =
    let s = goes p.connection room.aligned in let some = on.some in
    added p (gone p.connection).0 (gone p.connection).1 262144 24 on.few (omega (arith, some)) s.few (omega arith) s.aligned

pub hands_over : (p : PlaceState) → GoesOn p → KeepsRoom p → WasHandedOver (handed_over p)
hands_over p on room =
    let some = on.some in
    record { few = kept_few p on.few room.aligned; some = omega (arith, some); aligned = (goes p.connection room.aligned).aligned }

pub keeps_handed : (p : PlaceState) → WasHandedOver p → KeepsRoom p
keeps_handed p was = let few = was.few in let some = was.some in record { few = omega (arith, few, some); aligned = was.aligned }

-- where there is no such place, what is read there stays, and has as much room
pub goes_as_handed : (p : PlaceState) → GoesOn p → KeepsRoom p → WasHandedOver p
goes_as_handed p on room =
    let few = on.few in let some = on.some in
    record { few = omega (arith, few); some = omega (arith, some); aligned = room.aligned }

-- it is completed
most_at_most : (bytes : List ℕ) → length bytes ≤ 131072 → most_with bytes ≤ 131224
most_at_most [] few = omega arith
most_at_most (byte ∷ bytes) few = omega (arith, few)

completed_few : (command : ℕ) (outcome : Outcome) (bytes : List ℕ) (p : PlaceState) → length p.unsent ≤ 262168 → p.executing ≤ 128
    → IsAligned p.connection → length bytes ≤ 131072 → KeepsRoom (completed_at command outcome bytes p)
completed_few command outcome bytes p few some aligned short =
    let s = completes command outcome bytes p.connection aligned in
    let most = s.few in let least = most_at_most bytes short in
    added p (completed command outcome bytes p.connection).0 (completed command outcome bytes p.connection).1 262168 131224 few some
    (omega (arith, most, least)) (omega arith) s.aligned

pub answers : (command : ℕ) (outcome : Outcome) (bytes : List ℕ) (p : PlaceState) → GoesOn p → KeepsRoom p → length bytes ≤ 131072
    → KeepsRoom (answered_at command outcome bytes p)
answers command outcome bytes p on room short =
    let some = on.some in
    completed_few command outcome bytes (kept p) (kept_few p on.few room.aligned) (omega (arith, some)) (goes p.connection room.aligned).aligned short

pub connects : (queue : Queue) (in_capsule command : ℕ) (outcome : Outcome) (p : PlaceState) → GoesOn p → KeepsRoom p
    → KeepsRoom (connected_at queue in_capsule command outcome p)
connects queue in_capsule command outcome p on room =
    let some = on.some in
    completed_few command outcome [] (joined queue in_capsule (kept p)) (kept_few p on.few room.aligned) (omega (arith, some))
    (goes p.connection room.aligned).aligned (omega arith)

-- by the device, at once,
pub result_few : (entry : List ℕ) (outcome : Outcome) (bytes : List ℕ) → length bytes ≤ 131072 → length (result_of entry outcome bytes).1 ≤ 131072
result_few entry outcome bytes short =
    elim (is_success outcome.status && not (fits entry (length bytes))) as (λ b.
    length (cond {A = Outcome × List ℕ} b (refusal DATA_SGL_LENGTH_INVALID, []) (outcome, bytes)).1 ≤ 131072) [
      | true ↦ omega arith
      | false ↦ short
    ]

pub executes : (command : ℕ) (outcome : Outcome) (bytes : List ℕ) (p : PlaceState) → WasHandedOver p → length bytes ≤ 131072
    → KeepsRoom (executed command outcome bytes p)
executes command outcome bytes p was short =
    let few = was.few in let some = was.some in
    elim p.is_open as (λ b. KeepsRoom (cond b (completed_at command outcome bytes (returned p)) (returned p))) [
      | true ↦ completed_few command outcome bytes (returned p) few (omega (arith, some)) was.aligned short
      | false ↦ record { few = omega (arith, few, some); aligned = was.aligned }
    ]

-- or by the end of a run, of which the device had the command
pub ends : (command : ℕ) (outcome : Outcome) (p : PlaceState) → 1 ≤ p.executing → KeepsRoom p → KeepsRoom (executed command outcome [] p)
ends command outcome p some room =
    let few = room.few in
    let s = completes command outcome [] p.connection room.aligned in
    let most = s.few in
    elim p.is_open as (λ b. KeepsRoom (cond b (completed_at command outcome [] (returned p)) (returned p))) [
      | true ↦ record {
        few = omega (arith, few, some, most, length-append p.unsent (completed command outcome [] p.connection).1);
        aligned = s.aligned;
      }
      | false ↦ record { few = omega (arith, few); aligned = room.aligned }
    ]

-- bytes come, or were sent; and it is closed, and begins anew
pub receives : DataBeginsAligned → (piece : List ℕ) (p : PlaceState) → Stands p.connection → KeepsRoom p → KeepsRoom (received piece p).0
receives law piece p stands room = by (goes_on p) refl
  where
    by : (b : Bool) → goes_on p ≡ b
        → KeepsRoom (cond {A = PlaceState × ℕ} b (let t = taken p.connection piece in (stepped (t.state, t.sent) p, t.count)) (p, 0)).0
    by true is =
        let on = goes_parts p is in let some = on.some in
        let s = comes law p.connection piece room.aligned stands in
        added p (taken p.connection piece).state (taken p.connection piece).sent 262144 152 on.few (omega (arith, some)) s.few (omega arith) s.aligned
    by false is = room

pub sends : (count : ℕ) (p : PlaceState) → KeepsRoom p → KeepsRoom (sent count p)
sends count p room =
    let few = room.few in record { few = omega (arith, few, length-drop count p.unsent); aligned = room.aligned }

pub closes : (p : PlaceState) → KeepsRoom p → KeepsRoom (closed p)
closes p room = let few = room.few in record { few = omega (arith, few); aligned = room.aligned }

pub opens : (p : PlaceState) → KeepsRoom p → KeepsRoom (opened p)
opens p room = let few = room.few in record { few = omega (arith, few); aligned = λ alignment is. absurd cc }

-- so there is room
pub room_there : (p : PlaceState) → KeepsRoom p → has_room 0 p ≡ true
room_there p room = let few = room.few in le-leb (length p.unsent + 152 + 0) 397312 (omega (arith, few))

-- ---- all places

abbrev pub AllKeepRoom : QueuesState → Type 0
AllKeepRoom q = (number : ℕ) → KeepsRoom (place_at number q)

-- one is another
pub room_put : (n : ℕ) (p : PlaceState) (q r : QueuesState) → r.places ≡ (with_place n p q).places → AllKeepRoom q → KeepsRoom p → AllKeepRoom r
room_put n p q r is all put number =
    elim (number == n) as (λ b. (number == n) ≡ b → KeepsRoom (place_at number r)) [
      | true ↦ (λ same.
          subst (λ (m : ℕ). KeepsRoom (place_at m r)) (sym (eqb-true number n same)) (here n p q r is KeepsRoom put (all n)))
      | false ↦ (λ other.
          subst KeepsRoom
          (sym (ap (λ (those : List PlaceState). slice_index_or those number vacant) is
          ∙ get_or-set_other q.places n number p vacant (eqb-false number n other)))
          (all number))
    ] refl

room_first : KeepsRoom vacant
room_first = record { few = omega arith; aligned = λ alignment is. absurd cc }

pub all_keep_room_first : AllKeepRoom no_queues
all_keep_room_first number = elim (cases_lt number 40) [
  | inl less ↦ subst KeepsRoom (sym (get_or-replicate 40 number vacant vacant less)) room_first
  | inr past ↦ subst KeepsRoom (sym (get_or_past (replicate 40 vacant) number vacant past)) room_first
]
