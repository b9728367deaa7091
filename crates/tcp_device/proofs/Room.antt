-- There is room for the completion of a command that goes to the device.
use Rattle.std.proofs.Common.{◌≡◌, ℕ, ◌+◌, ◌≤◌, zero, suc, Bool, true, false, cond, ◌&&◌, List, [], ◌∷◌, length, length-append, Option, None, Some, IsTrue, refl, arith}
use Rattle.std.proofs.lemmas.Bool.{and_parts, le-leb, leb-true}
use Rattle.std.specs.Prelude.{is_some, nat_le, nat_lt, slice_index_or, slice_set}
use Rattle.tcp_pdus.specs.declared.transfer.ReadyToTransfer.{ReadyToTransfer}
use Rattle.tcp_pdus.specs.Sent.{r2t}
use Rattle.tcp_connection.specs.declared.state.ConnectionState.{ConnectionState}
use Rattle.tcp_connection.specs.Transfers.{free_tag}
use Rattle.tcp_connection.specs.Commands.{WaitingCommand}
use Rattle.tcp_connection.specs.Dealing.{asked, asked_for, looked_by, transfer_of, unasked}
use Rattle.tcp_connection.specs.Executing.{Execution, gone, ready, with_started}
use Rattle.tcp_target.specs.PlaceEvents.{handed_over}
use Rattle.tcp_target.specs.Places.{PlaceState, goes_on, has_room, ready_at, vacant}
use Rattle.tcp_target.specs.QueueCommands.{handed_over_at}
use Rattle.tcp_target.specs.Queues.{QueuesState, place_at}

r2t_length : (wanted : ReadyToTransfer) → length (r2t wanted) ≡ 24
r2t_length wanted = refl

-- what a command sends that goes is an R2T at most
few_asked : (tag command : ℕ) (wanted : Option ℕ) (s : ConnectionState) → length (asked tag command wanted s).1 ≤ 24
few_asked tag command None s = omega arith
few_asked tag command (Some size) s = omega (arith, r2t_length (transfer_of tag command size))

few_asked_for : (tag : ℕ) (command : Option WaitingCommand) (s : ConnectionState) → length (asked_for tag command s).1 ≤ 24
few_asked_for tag None s = omega arith
few_asked_for tag (Some command) s = few_asked tag _ command.wanted s

pub few_looked : (tag : Option ℕ) (s : ConnectionState) → length (looked_by tag s).1 ≤ 24
few_looked None s = omega arith
few_looked (Some tag) s = few_asked_for tag (unasked s) s

few_gone : (s : ConnectionState) → length (gone s).1 ≤ 24
few_gone s = let t = with_started s in few_looked (free_tag t.receiver.expected.transfers) t

few_handed : (p : PlaceState) → length p.unsent ≤ 262144 → length (handed_over p).unsent ≤ 262168
few_handed p few = omega (arith, few, few_gone p.connection, length-append p.unsent (gone p.connection).1)

-- it goes while few bytes are to be sent
few_before : (p : PlaceState) (b : Bool) → goes_on p ≡ b → IsTrue (is_some (cond {A = Option Execution} b (ready p.connection) None))
    → length p.unsent ≤ 262144
few_before p true is some =
    let parts = and_parts (p.is_open && nat_le (length p.unsent) 262144) (nat_lt p.executing 128) is in
    let inner = and_parts p.is_open (nat_le (length p.unsent) 262144) parts.0 in
    leb-true (length p.unsent) 262144 inner.1
few_before p false is some = absurd (cc)

-- what is at a place that was changed is what was put there, or there is none
put_at : (P : PlaceState → Type 0) (places : List PlaceState) (number : ℕ) (p : PlaceState) → P p → P vacant
    → P (slice_index_or (slice_set places number p) number vacant)
put_at P [] zero p put none = none
put_at P [] (suc number) p put none = none
put_at P (first ∷ places) zero p put none = put
put_at P (first ∷ places) (suc number) p put none = put_at P places number p put none

room_of : (size : ℕ) (p : PlaceState) → size ≤ 131072 → length p.unsent ≤ 262168 → IsTrue (has_room size p)
room_of size p most few = le-leb (length p.unsent + 152 + size) 397312 (omega (arith, few, most))

pub handed_room : (number size : ℕ) (s : QueuesState) → IsTrue (is_some (ready_at (place_at number s))) → size ≤ 131072
    → IsTrue (has_room size (place_at number (handed_over_at number s)))
handed_room number size s there most =
    let p = place_at number s in
    put_at (λ (q : PlaceState). IsTrue (has_room size q)) s.places number (handed_over p)
    (room_of size (handed_over p) most (few_handed p (few_before p (goes_on p) refl there)))
    (room_of size vacant most (omega arith))
