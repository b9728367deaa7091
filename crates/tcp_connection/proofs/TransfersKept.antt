-- What comes for an R2T is kept, with that of no other.
use Rattle.std.proofs.Common.{◌≡◌, ℕ, ◌<◌, ◌==◌, Bool, true, false, cond, List, [], ◌++◌, length, take, drop, Option, None, Some, is_none, is_some, Result, Ok, Err, refl, sym, ap, subst, ◌∙◌, append-nil, get_or-set_other, get_or-set_same, inl, inr}
use Rattle.std.specs.Prelude.{slice_set}
use Rattle.std.proofs.lemmas.Bool.{cases_lt, eqb-false, eqb-true}
use Rattle.std.proofs.lemmas.List.{get_or_past}
use Rattle.std.proofs.lemmas.List.Quantifiers.{position-Some}
use Rattle.zone_state.specs.declared.status.Status.{Status}
use Rattle.tcp_pdus.specs.declared.fatal_error.FatalError.{FatalError}
use Rattle.tcp_pdus.specs.declared.fatal_error.FatalError.TheVariants.{PduSequence}
use Rattle.tcp_pdus.specs.declared.received.HostPdu.TheVariants.{IcReq, H2cTermReq, CapsuleCmd, H2cData}
use Rattle.tcp_pdus.specs.Direction.{identifier_of}
use Rattle.tcp_pdus.specs.Initialize.{initialize_checked, initialize_request_in}
use Rattle.tcp_connection.specs.declared.expected.Progress.{Progress}
use Rattle.tcp_connection.specs.declared.expected.Progress.TheVariants.{Partial, Whole, Failed}
use Rattle.tcp_connection.specs.Receiving.{ReceiverState, next_by, tag_in}
use Rattle.tcp_connection.specs.Receiving as receiving
use Rattle.tcp_connection.specs.Transfers.{Transfer, begun, free_tag, is_for, joined_in, place_of, transfer_at, without_at}
use Rattle.tcp_connection.specs.declared.queue.Outcome.{Outcome}
use Rattle.tcp_connection.specs.declared.queue.Phase.{Phase}
use Rattle.tcp_connection.specs.declared.queue.Phase.TheVariants.{Initializing, Open, Ended}
use Rattle.tcp_connection.specs.declared.state.ConnectionState.{ConnectionState}
use Rattle.tcp_connection.specs.Commands.{WaitingCommand, first_of, is_running, without}
use Rattle.tcp_connection.specs.Connection.{Step, takes, took}
use Rattle.tcp_connection.specs.Dealing.{asked, asked_for, checked, commanded_by, dealt_by, initialized_by, inside, judged, looked, looked_by, may_come, queued, transfer_of, unasked}
use Rattle.tcp_connection.specs.Executing.{Execution, completed_in, data_sent, gone, let_go, ready, with_started}
use Rattle.tcp_connection.specs.Laws.{TransfersAreKept, has_it_go, is_first, sent_by, sent_for}
use Rattle.tcp_connection.specs.Order.{Came, Completed, Happening, Went, after, received}
use Rattle.tcp_connection.specs.Sending.{answered, failed}

-- what came, with more
abbrev pub with_more : List ℕ → Transfer → Transfer
with_more more t = record t { came = t.came ++ more }

same_came : (t : Transfer) → ◌≡◌ {A = Option Transfer} (Some t) (Some (with_more [] t))
same_came t = ap (λ (came : List ℕ). Some (record t { came = came })) (sym (append-nil t.came))

-- ---- one more is asked for

-- the R2T under a tag
abbrev pub Has : ℕ → Transfer → ReceiverState → Type 0
Has tag t r = transfer_at tag r.expected.transfers ≡ Some t

module _ (tag : ℕ) (t : Transfer) where
  -- it has another tag
  differs : (r : ReceiverState) → Has tag t r → (free : ℕ) → free_tag r.expected.transfers ≡ Some free → tag ≡ free → ⊥
  differs r has free is same =
      let none : is_none (transfer_at free r.expected.transfers) ≡ true =
      (position-Some (λ place. is_none place) r.expected.transfers free None is).1 in
      let some : transfer_at free r.expected.transfers ≡ Some t = ap (λ (it : ℕ). transfer_at it r.expected.transfers) (sym same) ∙ has in
      let wrong : false ≡ true = sym (ap (λ (it : Option Transfer). is_none it) some) ∙ none in cc

  asks : (s : ConnectionState) → Has tag t s.receiver → (free : ℕ) → free_tag s.receiver.expected.transfers ≡ Some free → (command : ℕ)
      (wanted : Option ℕ) → Has tag t (asked free command wanted s).0.receiver
  asks s has free is command None = has
  asks s has free is command (Some wanted) =
      get_or-set_other s.receiver.expected.transfers free tag (Some (begun (transfer_of free command wanted))) None (differs s.receiver has free is)
      ∙ has

  asks_for : (s : ConnectionState) → Has tag t s.receiver → (free : ℕ) → free_tag s.receiver.expected.transfers ≡ Some free
      → (command : Option WaitingCommand) → Has tag t (asked_for free command s).0.receiver
  asks_for s has free is None = has
  asks_for s has free is (Some command) = asks s has free is (identifier_of command.entry) command.wanted

  looks_by : (s : ConnectionState) → Has tag t s.receiver → (free : Option ℕ) → free_tag s.receiver.expected.transfers ≡ free
      → Has tag t (looked_by free s).0.receiver
  looks_by s has None is = has
  looks_by s has (Some free) is = asks_for s has free is (unasked s)

  pub looks : (s : ConnectionState) → Has tag t s.receiver → Has tag t (looked s).0.receiver
  looks s has = looks_by s has (free_tag s.receiver.expected.transfers) refl

  -- ---- another command goes

  other_place : (r : ReceiverState) (command : ℕ) → Has tag t r → (t.wanted.command == command) ≡ false → (place : Option ℕ)
      → place_of command r.expected.transfers ≡ place
      → transfer_at tag (without_at place r.expected.transfers) ≡ Some t
  other_place r command has other None is = has
  other_place r command has other (Some place) is =
      get_or-set_other r.expected.transfers place tag None None
      (λ same.
      (let own : is_for command (transfer_at place r.expected.transfers) ≡ true =
      (position-Some (λ it. is_for command it) r.expected.transfers place None is).1 in
      let at : transfer_at place r.expected.transfers ≡ Some t = ap (λ (it : ℕ). transfer_at it r.expected.transfers) (sym same) ∙ has in
      let wrong : (t.wanted.command == command) ≡ true = sym (ap (λ (it : Option Transfer). is_for command it) at) ∙ own in cc))
      ∙ has

  lets_go : (r : ReceiverState) → Has tag t r → (first : Option WaitingCommand) → is_first t.wanted.command first ≡ false → Has tag t (let_go first r)
  lets_go r has None other = has
  lets_go r has (Some first) other =
      other_place r (identifier_of first.entry) has other
      (place_of (identifier_of first.entry) r.expected.transfers) refl

  -- ---- what has come is dealt with

  -- a PDU that is no H2CData brings nothing
  next_ic_req : (r : ReceiverState) → r.progress ≡ Whole IcReq → Has tag t r → Has tag t (next_by r.progress r)
  next_ic_req r is has = let P : Progress → Type 0 = λ p. Has tag t (next_by p r) in subst P (sym is) has

  next_capsule : (r : ReceiverState) → r.progress ≡ Whole CapsuleCmd → Has tag t r → Has tag t (next_by r.progress r)
  next_capsule r is has = let P : Progress → Type 0 = λ p. Has tag t (next_by p r) in subst P (sym is) has

  -- an H2CData brings its data for its tag
  there : (transfers : List (Option Transfer)) → transfer_at tag transfers ≡ Some t → tag < length transfers
  there transfers has =
      elim (cases_lt tag (length transfers)) [
        | inl inside ↦ inside
        | inr past ↦ (let none : transfer_at tag transfers ≡ None = get_or_past transfers tag None past in absurd cc)
      ]

  brings_by : (r : ReceiverState) → Has tag t r → (b : Bool) → (tag_in r.pending == tag) ≡ b
      → transfer_at tag (next_by (Whole H2cData) r).expected.transfers ≡ Some (with_more (cond b (drop 24 r.pending) []) t)
  brings_by r has true is =
      let same : tag_in r.pending ≡ tag = eqb-true (tag_in r.pending) tag is in
      let transfers = r.expected.transfers in
      ap (λ (it : ℕ). transfer_at tag (slice_set transfers it (joined_in (drop 24 r.pending) (transfer_at it transfers)))) same
      ∙ get_or-set_same transfers tag (joined_in (drop 24 r.pending) (transfer_at tag transfers)) None (there transfers has)
      ∙ ap (λ (it : Option Transfer). joined_in (drop 24 r.pending) it) has
  brings_by r has false is =
      let transfers = r.expected.transfers in
      get_or-set_other transfers (tag_in r.pending) tag (joined_in (drop 24 r.pending) (transfer_at (tag_in r.pending) transfers)) None
      (λ same. eqb-false (tag_in r.pending) tag is (sym same))
      ∙ has ∙ same_came t

  brings : (r : ReceiverState) → r.progress ≡ Whole H2cData → Has tag t r
      → transfer_at tag (next_by r.progress r).expected.transfers ≡ Some (with_more (sent_by (Whole H2cData) tag r) t)
  brings r is has =
      let P : Progress → Type 0 = λ p. transfer_at tag (next_by p r).expected.transfers ≡ Some (with_more (sent_by (Whole H2cData) tag r) t) in
      subst P (sym is) (brings_by r has (tag_in r.pending == tag) refl)

  initializes : (s : ConnectionState) → Has tag t s.receiver → Has tag t (next_by s.receiver.progress s.receiver) → (r : Result ℕ FatalError)
      → Has tag t (initialized_by r s).0.receiver
  initializes s has then (Ok alignment) = then
  initializes s has then (Err error) = has

  judges : (s : ConnectionState) → Has tag t (next_by s.receiver.progress s.receiver) → (entry : List ℕ) (r : Result (Option ℕ) Status)
      → Has tag t (judged r entry s).0.receiver
  judges s then entry (Ok wanted) = looks (queued (record { entry = entry; «data» = inside s; wanted = wanted }) s) then
  judges s then entry (Err status) = then

  commands : (s : ConnectionState) → Has tag t s.receiver → Has tag t (next_by s.receiver.progress s.receiver) → (entry : List ℕ)
      → Has tag t (commanded_by entry s).0.receiver
  commands s has then entry =
      elim (may_come (identifier_of entry) s) as (λ b. Has tag t (cond b (judged (checked entry s) entry s) (failed PduSequence (take 72 s.receiver.pending) s)).0.receiver) [
        | true ↦ judges s then entry (checked entry s)
        | false ↦ has
      ]

  deals : (s : ConnectionState) → Has tag t s.receiver → (p : Progress) → s.receiver.progress ≡ p
      → transfer_at tag (dealt_by p s).0.receiver.expected.transfers ≡ Some (with_more (sent_by p tag s.receiver) t)
  deals s has Partial is = has ∙ same_came t
  deals s has (Failed error) is = has ∙ same_came t
  deals s has (Whole IcReq) is =
      initializes s has (next_ic_req s.receiver is has) (initialize_checked (initialize_request_in (take 128 s.receiver.pending))) ∙ same_came t
  deals s has (Whole H2cTermReq) is = has ∙ same_came t
  deals s has (Whole CapsuleCmd) is =
      commands s has (next_capsule s.receiver is has) (drop 8 (take 72 s.receiver.pending)) ∙ same_came t
  deals s has (Whole H2cData) is = brings s.receiver is has

  -- a piece changes nothing before it comes to a PDU
  still : (r : ReceiverState) (piece : List ℕ) → Has tag t r → (p : Progress) → Has tag t (receiving.taken_by p r piece).0
  still r piece has Partial = has
  still r piece has (Whole pdu) = has
  still r piece has (Failed error) = has

  takes_piece : (s : ConnectionState) → Has tag t s.receiver → (piece : List ℕ) (b : Bool)
      → transfer_at tag (cond {A = Step} b (took s piece) (record { state = s; sent = []; count = 0 })).state.receiver.expected.transfers
      ≡ Some (with_more (cond b (sent_by (received piece s).receiver.progress tag (received piece s).receiver) []) t)
  takes_piece s has piece true =
      deals (received piece s) (still s.receiver piece has s.receiver.progress) (received piece s).receiver.progress refl
  takes_piece s has piece false = has ∙ same_came t

  -- ---- all that happens

  goes_by : (s : ConnectionState) → Has tag t s.receiver → is_first t.wanted.command (first_of s.commands) ≡ false → (o : Option Execution)
      → Has tag t (cond (is_some o) (gone s).0 s).receiver
  goes_by s has other None = has
  goes_by s has other (Some execution) = looks (with_started s) (lets_go s.receiver has (first_of s.commands) other)

  completes : (s : ConnectionState) → Has tag t s.receiver → (command : ℕ) (outcome : Outcome) (bytes : List ℕ) (phase : Phase)
      → Has tag t (completed_in phase command outcome bytes s).0.receiver
  completes s has command outcome bytes Initializing = has
  completes s has command outcome bytes Ended = has
  completes s has command outcome bytes (Open alignment) =
      let a : ConnectionState × List ℕ = answered command outcome (record s { commands = without command s.commands }) in
      elim (is_running command s.commands) as (λ b. Has tag t (cond {A = ConnectionState × List ℕ} b (a.0, data_sent alignment command bytes ++ a.1) (s, [])).0.receiver) [
        | true ↦ has
        | false ↦ has
      ]

kept_by : (happening : Happening) (s : ConnectionState) (tag : ℕ) (t : Transfer) → Has tag t s.receiver
    → has_it_go happening t.wanted.command s ≡ false
    → transfer_at tag (after happening s).receiver.expected.transfers ≡ Some (with_more (sent_for tag happening s) t)
kept_by (Came piece) s tag t has other = takes_piece tag t s has piece (takes s)
kept_by Went s tag t has other = goes_by tag t s has other (ready s) ∙ same_came t
kept_by (Completed command outcome bytes) s tag t has other = completes tag t s has command outcome bytes s.phase ∙ same_came t

pub transfers_are_kept : TransfersAreKept
transfers_are_kept = λ happening s tag t has other. kept_by happening s tag t has other
