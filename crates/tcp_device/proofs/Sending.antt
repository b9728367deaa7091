-- How much a connection sends at once.
use Rattle.std.proofs.Common.{◌≡◌, ◌⊎◌, ℕ, ◌≤◌, ◌+◌, ◌-◌, ◌*◌, Bool, true, false, cond, nat_lt, List, [], ◌∷◌, ◌++◌, length, take, drop, replicate, Option, None, Some, Result, Ok, Err, refl, sym, ap, subst, ◌∙◌, inl, inr, length-append, lit≤, arith}
use Rattle.std.proofs.lemmas.Bool.{cases_lt, leb-true}
use Rattle.std.proofs.lemmas.List.{length-replicate, length-take}
use Rattle.common_definitions.specs.Checks.{first_failed}
use Rattle.common_definitions.proofs.Proved.{demanded, none_failed, passed, value_given}
use Rattle.zone_state.specs.declared.status.Status.{Status}
use Rattle.tcp_pdus.specs.CommonHeader.{common_header_in}
use Rattle.tcp_pdus.specs.Direction.{identifier_of}
use Rattle.tcp_pdus.specs.Initialize.{data_begin, initialize_checked, initialize_checks, initialize_request_in}
use Rattle.tcp_pdus.specs.Laws.{DataBeginsAligned}
use Rattle.tcp_pdus.specs.Received.{checked, header_bytes}
use Rattle.tcp_pdus.specs.Sent.{c2h_data, c2h_data_header, c2h_term_req, c2h_term_req_header, ic_resp}
use Rattle.tcp_pdus.specs.declared.common_header.CommonHeader.{CommonHeader}
use Rattle.tcp_pdus.specs.declared.fatal_error.FatalError.{FatalError}
use Rattle.tcp_pdus.specs.declared.fatal_error.FatalError.TheVariants.{PduSequence}
use Rattle.tcp_pdus.specs.declared.initialize.InitializeRequest.{InitializeRequest}
use Rattle.tcp_pdus.specs.declared.received.HostPdu.{HostPdu}
use Rattle.tcp_pdus.specs.declared.received.HostPdu.TheVariants.{IcReq, H2cTermReq, CapsuleCmd, H2cData}
use Rattle.tcp_connection.specs.Reading.{behind_common, behind_header, header_error, reading}
use Rattle.tcp_connection.specs.Receiving.{ReceiverState}
use Rattle.tcp_connection.specs.Receiving as receiving
use Rattle.tcp_connection.specs.Transfers.{free_tag}
use Rattle.tcp_connection.specs.declared.expected.Expected.{Expected}
use Rattle.tcp_connection.specs.declared.expected.Progress.{Progress}
use Rattle.tcp_connection.specs.declared.expected.Progress.TheVariants.{Partial, Whole, Failed}
use Rattle.tcp_connection.specs.Commands.{is_running, without}
use Rattle.tcp_connection.specs.Connection.{Step, taken, takes, took}
use Rattle.tcp_connection.specs.Dealing.{checked as entry_checked, commanded_by, dealt, dealt_by, initialized_by, inside, judged, looked, may_come, queued, refusal, with_next}
use Rattle.tcp_connection.specs.Executing.{completed, completed_in, data_sent, gone, with_started}
use Rattle.tcp_connection.specs.Sending.{answered, completion, failed, next_head}
use Rattle.tcp_connection.specs.declared.queue.Outcome.{Outcome}
use Rattle.tcp_connection.specs.declared.queue.Phase.{Phase}
use Rattle.tcp_connection.specs.declared.queue.Phase.TheVariants.{Initializing, Open, Ended}
use Rattle.tcp_connection.specs.declared.queue.Queue.{Queue}
use Rattle.tcp_connection.specs.declared.state.ConnectionState.{ConnectionState}
use Rattle.tcp_device.proofs.Room.{few_looked}
use Rattle.tcp_device.proofs.Standing.{Stands, Takes, reads_of, takes_parts}
use Rattle.tcp_device.proofs.Standing.{looks as leaves}

-- ---- PDUs

initialized_length : length ic_resp ≡ 128
initialized_length = refl

term_header_length : (error : FatalError) (size : ℕ) → length (c2h_term_req_header error size) ≡ 24
term_header_length error size = refl

data_header_length : (alignment command size : ℕ) → length (c2h_data_header alignment command size) ≡ 24
data_header_length alignment command size = refl

term_length : (error : FatalError) (header : List ℕ) → length (c2h_term_req error header) ≡ 24 + length header
term_length error header =
    omega (
      arith,
      length-append (c2h_term_req_header error (length header)) header,
      term_header_length error (length header),
    )

-- ---- data begins within 128 bytes

abbrev BeginsSoon : ℕ → Type 0
BeginsSoon alignment = data_begin alignment ≤ 128

least_within : (unit begin : ℕ) → (4 ≤ unit × unit ≤ 20) ⊎ (24 ≤ unit × unit ≤ 128) → ((times : ℕ) → 24 ≤ times * unit → begin ≤ times * unit)
    → begin ≤ 128
least_within unit begin (inl small) least =
    (let some = small.0 in let few = small.1 in let most = least 6 (omega (arith, some)) in omega (arith, most, few))
least_within unit begin (inr large) least =
    (let some = large.0 in let few = large.1 in let most = least 1 (omega (arith, some)) in omega (arith, most, few))

begins_soon : DataBeginsAligned → (alignment : ℕ) → alignment ≤ 31 → BeginsSoon alignment
begins_soon law alignment few =
    least_within (4 * (alignment + 1)) (data_begin alignment)
    (elim (cases_lt alignment 5) [
      | inl small ↦ inl (omega arith, omega (arith, small))
      | inr large ↦ inr (omega (arith, large), omega (arith, few))
    ])
    (law alignment).none_below

requests_few : (request : InitializeRequest) (alignment : ℕ) → initialize_checked request ≡ Ok alignment → alignment ≤ 31
requests_few request alignment is =
    let none = none_failed (first_failed (initialize_checks request)) request.alignment alignment is in
    let most : request.alignment ≤ 31 = leb-true request.alignment 31 (demanded _ _ (passed (initialize_checks request) 1 none)) in
    let same : alignment ≡ request.alignment = value_given (first_failed (initialize_checks request)) request.alignment alignment (sym is) in
    omega (arith, most, same)

-- ---- a connection

-- where it sends data that begins within 128 bytes
abbrev pub IsAligned : ConnectionState → Type 0
IsAligned c = (alignment : ℕ) → c.phase ≡ Open alignment → BeginsSoon alignment

-- it comes to a state, and sends so many bytes at most
pub record SendsFew (most : ℕ) (c : ConnectionState) (sent : List ℕ) : Type 0 where
  pub few : length sent ≤ most
  pub aligned : IsAligned c

few_more : (least most : ℕ) (c : ConnectionState) (sent : List ℕ) → least ≤ most → SendsFew least c sent → SendsFew most c sent
few_more least most c sent more s = let few = s.few in record { few = omega (arith, few, more); aligned = s.aligned }

-- data is asked for another command,
looks : (s : ConnectionState) → IsAligned s → SendsFew 24 (looked s).0 (looked s).1
looks s aligned = record {
  few = few_looked (free_tag s.receiver.expected.transfers) s;
  aligned = λ alignment is. aligned alignment (sym (leaves s).phase ∙ is);
}

-- as where a command goes
pub goes : (s : ConnectionState) → IsAligned s → SendsFew 24 (gone s).0 (gone s).1
goes s aligned = looks (with_started s) aligned

-- a command is completed,
completion_few : (queue : Queue) (head command : ℕ) (outcome : Outcome) → length (completion queue head command outcome) ≤ 24
completion_few queue head command outcome =
    let is : length (completion queue head command outcome) ≡ 24 = refl in omega (arith, is)

answers : (command : ℕ) (outcome : Outcome) (s : ConnectionState) → IsAligned s
    → SendsFew 24 (answered command outcome s).0 (answered command outcome s).1
answers command outcome s aligned = record { few = completion_few s.queue (next_head s.head s.queue.entries) command outcome; aligned = aligned }

-- with its data
data_length : (alignment command : ℕ) (bytes : List ℕ) → BeginsSoon alignment → length (c2h_data alignment command bytes) ≤ 128 + length bytes
data_length alignment command bytes soon =
    omega (
      arith,
      soon,
      length-append (c2h_data_header alignment command (length bytes)) (replicate (data_begin alignment - 24) 0 ++ bytes),
      length-append (replicate (data_begin alignment - 24) 0) bytes,
      data_header_length alignment command (length bytes),
      length-replicate {A = ℕ} (data_begin alignment - 24) 0,
    )

abbrev pub most_with : List ℕ → ℕ
most_with [] = 24
most_with (byte ∷ bytes) = 152 + length (byte ∷ bytes)

sends_data : (alignment command : ℕ) (bytes completed : List ℕ) → BeginsSoon alignment → length completed ≤ 24
    → length (data_sent alignment command bytes ++ completed) ≤ most_with bytes
sends_data alignment command [] completed soon few = few
sends_data alignment command (byte ∷ bytes) completed soon few =
    omega (
      arith,
      few,
      length-append (c2h_data alignment command (byte ∷ bytes)) completed,
      data_length alignment command (byte ∷ bytes) soon,
    )

none_sent : (c : ConnectionState) (bytes : List ℕ) → IsAligned c → SendsFew (most_with bytes) c []
none_sent c bytes aligned = record { few = omega arith; aligned = aligned }

module _ (command : ℕ) (outcome : Outcome) (bytes : List ℕ) (c : ConnectionState) (aligned : IsAligned c) where
  completes_in : (phase : Phase) → c.phase ≡ phase
      → SendsFew (most_with bytes) (completed_in phase command outcome bytes c).0 (completed_in phase command outcome bytes c).1
  completes_in Initializing is = none_sent c bytes aligned
  completes_in Ended is = none_sent c bytes aligned
  completes_in (Open alignment) is =
      let t : ConnectionState = record c { commands = without command c.commands } in
      let a = answers command outcome t aligned in
      elim (is_running command c.commands) as (λ b.
      SendsFew (most_with bytes)
      (cond {A = ConnectionState × List ℕ} b ((answered command outcome t).0, data_sent alignment command bytes ++ (answered command outcome t).1) (c, [])).0
      (cond {A = ConnectionState × List ℕ} b ((answered command outcome t).0, data_sent alignment command bytes ++ (answered command outcome t).1) (c, [])).1) [
        | true ↦ record { few = sends_data alignment command bytes (answered command outcome t).1 (aligned alignment is) a.few; aligned = a.aligned }
        | false ↦ none_sent c bytes aligned
      ]

  pub completes : SendsFew (most_with bytes) (completed command outcome bytes c).0 (completed command outcome bytes c).1
  completes = completes_in c.phase refl

-- it ends
fails : (error : FatalError) (header : List ℕ) (s : ConnectionState) → length header ≤ 128
    → SendsFew 152 (failed error header s).0 (failed error header s).1
fails error header s few = record { few = omega (arith, few, term_length error header); aligned = λ alignment is. absurd cc }

taken_few : (count : ℕ) (bytes : List ℕ) → length (take count bytes) ≤ count
taken_few count bytes = omega (arith, length-take count bytes)

-- ---- what has come is dealt with

module _ (law : DataBeginsAligned) (s : ConnectionState) (aligned : IsAligned s) where
  initializes : (r : Result ℕ FatalError) → ((alignment : ℕ) → r ≡ Ok alignment → BeginsSoon alignment)
      → SendsFew 152 (initialized_by r s).0 (initialized_by r s).1
  initializes (Ok alignment) soon = record {
    few = omega (arith, initialized_length);
    aligned = λ other is. (let same : alignment ≡ other = cc in subst (λ (n : ℕ). BeginsSoon n) same (soon alignment refl));
  }
  initializes (Err error) soon = fails error (take 128 s.receiver.pending) s (taken_few 128 s.receiver.pending)

  judges : (r : Result (Option ℕ) Status) (entry : List ℕ) → SendsFew 152 (judged r entry s).0 (judged r entry s).1
  judges (Ok wanted) entry =
      let t : ConnectionState = queued (record { entry = entry; «data» = inside s; wanted = wanted }) s in
      few_more 24 152 _ _ (lit≤ tt) (looks t aligned)
  judges (Err status) entry = few_more 24 152 _ _ (lit≤ tt) (answers (identifier_of entry) (refusal status) (with_next s) aligned)

  commands : (entry : List ℕ) → SendsFew 152 (commanded_by entry s).0 (commanded_by entry s).1
  commands entry =
      let j : ConnectionState × List ℕ = judged (entry_checked entry s) entry s in
      let f : ConnectionState × List ℕ = failed PduSequence (take 72 s.receiver.pending) s in
      let few = taken_few 72 s.receiver.pending in
      elim (may_come (identifier_of entry) s) as (λ b. SendsFew 152 (cond b j f).0 (cond b j f).1) [
        | true ↦ judges (entry_checked entry s) entry
        | false ↦ fails PduSequence (take 72 s.receiver.pending) s (omega (arith, few))
      ]

  deals : (p : Progress) → ((error : FatalError) → p ≡ Failed error → length s.receiver.pending ≤ 128)
      → SendsFew 152 (dealt_by p s).0 (dealt_by p s).1
  deals Partial few = record { few = omega arith; aligned = aligned }
  deals (Failed error) few = fails error s.receiver.pending s (few error refl)
  deals (Whole IcReq) few =
      let request = initialize_request_in (take 128 s.receiver.pending) in
      initializes (initialize_checked request) (λ alignment is. begins_soon law alignment (requests_few request alignment is))
  deals (Whole H2cTermReq) few = record { few = omega arith; aligned = λ alignment is. absurd cc }
  deals (Whole CapsuleCmd) few = commands (drop 8 (take 72 s.receiver.pending))
  deals (Whole H2cData) few = record { few = omega arith; aligned = aligned }

-- ---- bytes come

-- what is given back of a PDU that fails is its header at most
header_most : (pdu : HostPdu) → header_bytes pdu ≤ 128
header_most IcReq = lit≤ tt
header_most H2cTermReq = lit≤ tt
header_most CapsuleCmd = lit≤ tt
header_most H2cData = lit≤ tt

module _ (fault : FatalError) where
  abbrev GivesBack : Progress × ℕ → Type 0
  GivesBack r = r.0 ≡ Failed fault → r.1 ≤ 128

  whole_or_not : (b : Bool) (pdu : HostPdu) (common : CommonHeader) (bytes : List ℕ)
      → GivesBack (cond {A = Progress × ℕ} b (Partial, length bytes) (Whole pdu, common.pdu_length))
  whole_or_not true pdu common bytes is = absurd cc
  whole_or_not false pdu common bytes is = absurd cc

  at_header : (pdu : HostPdu) (common : CommonHeader) (bytes : List ℕ) (error : Option FatalError) → GivesBack (behind_header pdu common bytes error)
  at_header pdu common bytes (Some error) is = header_most pdu
  at_header pdu common bytes None is = whole_or_not (nat_lt (length bytes) common.pdu_length) pdu common bytes is

  not_yet : (b : Bool) (bytes : List ℕ) (later : Progress × ℕ) → GivesBack later → GivesBack (cond {A = Progress × ℕ} b (Partial, length bytes) later)
  not_yet true bytes later gives is = absurd cc
  not_yet false bytes later gives is = gives is

  at_common : (e : Expected) (common : CommonHeader) (bytes : List ℕ) (r : Result HostPdu FatalError) → GivesBack (behind_common e common bytes r)
  at_common e common bytes (Err error) is = lit≤ tt
  at_common e common bytes (Ok pdu) is =
      not_yet (nat_lt (length bytes) (header_bytes pdu)) bytes _
      (at_header pdu common bytes (header_error e common pdu (take (header_bytes pdu) bytes))) is

  reads : (e : Expected) (bytes : List ℕ) → GivesBack (reading e bytes)
  reads e bytes is =
      let common : CommonHeader = common_header_in (take 8 bytes) in
      not_yet (nat_lt (length bytes) 8) bytes _ (at_common e common bytes (checked e.awaits common)) is

module _ (law : DataBeginsAligned) (c : ConnectionState) (piece : List ℕ) (aligned : IsAligned c) (stands : Stands c) where
  abbrev all : List ℕ
  all = c.receiver.pending ++ piece

  abbrev r : Progress × ℕ
  r = reading c.receiver.expected all

  abbrev came : ConnectionState
  came = record c { receiver = record c.receiver { progress = r.0; pending = take r.1 all } }

  dealt_with : SendsFew 152 (dealt came).0 (dealt came).1
  dealt_with =
      deals law came aligned r.0
      (λ (error : FatalError) (is : r.0 ≡ Failed error).
      let few = reads error c.receiver.expected all is in let most = taken_few r.1 all in omega (arith, few, most))

  took_few : Takes c → SendsFew 152 (took c piece).state (took c piece).sent
  took_few t =
      let known = reads_of c t.on stands in
      subst (λ (it : ReceiverState × ℕ). SendsFew 152 (dealt (record c { receiver = it.0 })).0 (dealt (record c { receiver = it.0 })).1)
      (sym (ap (λ (p : Progress). receiving.taken_by p c.receiver piece) known.partial)) dealt_with

  comes_by : (b : Bool) → takes c ≡ b
      → SendsFew 152 (cond {A = Step} b (took c piece) (record { state = c; sent = []; count = 0 })).state
      (cond {A = Step} b (took c piece) (record { state = c; sent = []; count = 0 })).sent
  comes_by true is = took_few (takes_parts c is)
  comes_by false is = record { few = omega arith; aligned = aligned }

  pub comes : SendsFew 152 (taken c piece).state (taken c piece).sent
  comes = comes_by (takes c) refl
