-- What has come, and what is made of it.
use Rattle.std.proofs.Common.{◌≡◌, ℕ, ◌<◌, ◌≤◌, nat_lt, true, not, List, take, drop, Result, Err, ap, sym, subst, ◌∙◌, arith}
use Rattle.std.proofs.lemmas.Bool.{and_parts, ltb-true}
use Rattle.tcp_pdus.specs.declared.fatal_error.FatalError.{FatalError}
use Rattle.tcp_pdus.specs.declared.received.HostPdu.{HostPdu}
use Rattle.tcp_pdus.specs.declared.received.HostPdu.TheVariants.{CapsuleCmd}
use Rattle.tcp_pdus.specs.Initialize.{initialize_checked, initialize_request_in}
use Rattle.tcp_pdus.specs.Received.{header_bytes}
use Rattle.tcp_pdus.specs.Sent.{c2h_term_req}
use Rattle.tcp_connection.specs.declared.expected.Progress.{Progress}
use Rattle.tcp_connection.specs.declared.expected.Progress.TheVariants.{Whole}
use Rattle.tcp_connection.specs.Receiving.{IsDataOf, IsHeaderOf, ReceiverState}
use Rattle.tcp_connection.specs.declared.state.ConnectionState.{ConnectionState}
use Rattle.tcp_connection.specs.Commands.{count_of, has_command}
use Rattle.tcp_connection.specs.Dealing.{commanded, commanded_by, initialized, initialized_by, may_come}

-- the header of a whole PDU
pub header_is : (r : ReceiverState) (pdu : HostPdu) (header : List ℕ) → r.progress ≡ Whole pdu → IsHeaderOf r.progress r header
    → header ≡ take (header_bytes pdu) r.pending
header_is r pdu header whole bytes =
    let P : Progress → Type 0 = λ p. IsHeaderOf p r header in
    let told : IsHeaderOf (Whole pdu) r header = subst P whole bytes in told

-- an ICReq that is refused
pub initialized_err : (s : ConnectionState) (first second : List ℕ) (error : FatalError) → first ≡ take 128 s.receiver.pending
    → second ≡ take 128 s.receiver.pending → initialize_checked (initialize_request_in first) ≡ Err error
    → c2h_term_req error second ≡ (initialized s).1
initialized_err s first second error same other is =
    ap (c2h_term_req error) other
    ∙ ap (λ (r : Result ℕ FatalError). (initialized_by r s).1) (sym is)
    ∙ ap (λ (header : List ℕ). (initialized_by (initialize_checked (initialize_request_in header)) s).1) same

-- the data of a whole capsule
pub inside_is : (r : ReceiverState) (bytes : List ℕ) → r.progress ≡ Whole CapsuleCmd → IsDataOf r.progress r bytes → bytes ≡ drop 72 r.pending
inside_is r bytes whole told =
    let P : Progress → Type 0 = λ p. IsDataOf p r bytes in
    let is : IsDataOf (Whole CapsuleCmd) r bytes = subst P whole told in is

-- what is made of a capsule's entry and data is made of the capsule
pub entry_is : (r : ReceiverState) (header entry : List ℕ) → r.progress ≡ Whole CapsuleCmd → IsHeaderOf r.progress r header → entry ≡ drop 8 header
    → entry ≡ drop 8 (take 72 r.pending)
entry_is r header entry whole bytes is = is ∙ ap (drop 8) (header_is r CapsuleCmd header whole bytes)

pub commanded_is : (s : ConnectionState) (entry : List ℕ) → entry ≡ drop 8 (take 72 s.receiver.pending) → commanded_by entry s ≡ commanded s
commanded_is s entry same_entry = ap (λ (e : List ℕ). commanded_by e s) same_entry

-- a command that may come is one of few
pub few_then : (command : ℕ) (s : ConnectionState) (most : ℕ) → may_come command s ≡ true → s.queue.entries ≤ most → count_of s.commands < most
few_then command s most may fits =
    let parts = and_parts (nat_lt (count_of s.commands) s.queue.entries) (not (has_command command s.commands)) may in
    let few : count_of s.commands < s.queue.entries = ltb-true _ _ parts.0 in omega (arith, few, fits)
