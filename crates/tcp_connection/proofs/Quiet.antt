-- What a connection comes to keeps its queue, and is quiet.
use Rattle.std.proofs.Common.{◌≡◌, ℕ, ◌==◌, ◌<◌, ◌≤◌, Bool, true, false, cond, not, List, [], ◌++◌, length, take, drop, Option, None, Some, is_some, IsTrue, Result, Ok, Err, refl, sym, ap, subst, ◌∙◌}
use Rattle.std.proofs.lemmas.Bool.{and_parts}
use Rattle.zone_state.specs.declared.status.Status.{Status}
use Rattle.tcp_pdus.specs.declared.fatal_error.FatalError.{FatalError}
use Rattle.tcp_pdus.specs.declared.fatal_error.FatalError.TheVariants.{PduSequence}
use Rattle.tcp_pdus.specs.declared.received.HostPdu.{HostPdu}
use Rattle.tcp_pdus.specs.declared.received.HostPdu.TheVariants.{IcReq, H2cTermReq, CapsuleCmd, H2cData}
use Rattle.tcp_pdus.specs.Initialize.{initialize_checked, initialize_request_in}
use Rattle.tcp_connection.specs.declared.expected.Progress.{Progress}
use Rattle.tcp_connection.specs.declared.expected.Progress.TheVariants.{Partial, Whole, Failed}
use Rattle.tcp_connection.specs.Receiving.{IsBetween, ReceiverState, next, next_by}
use Rattle.tcp_connection.specs.Receiving as receiving
use Rattle.tcp_connection.specs.Transfers.{free_tag}
use Rattle.tcp_pdus.specs.Direction.{identifier_of}
use Rattle.tcp_connection.specs.declared.queue.Outcome.{Outcome}
use Rattle.tcp_connection.specs.declared.queue.Phase.{Phase}
use Rattle.tcp_connection.specs.declared.queue.Phase.TheVariants.{Initializing, Open, Ended}
use Rattle.tcp_connection.specs.declared.queue.Queue.{Queue}
use Rattle.tcp_connection.specs.declared.state.ConnectionState.{ConnectionState}
use Rattle.tcp_connection.specs.Commands.{WaitingCommand, first_of, is_running, without}
use Rattle.tcp_connection.specs.Connection.{taken, takes, took}
use Rattle.tcp_connection.specs.Dealing.{asked, asked_for, checked, commanded_by, dealt, dealt_by, initialized_by, inside, joined, judged, looked, looked_by, may_come, queued, unasked, with_next}
use Rattle.tcp_connection.specs.Executing.{Execution, IsQuiet, completed, completed_in, connected, data_sent, gone, let_go, ready, waiting_ready, with_started}
use Rattle.tcp_connection.specs.Queue.{is_ended}
use Rattle.tcp_connection.specs.Sending.{answered, ended, failed}
use Rattle.tcp_connection.specs.steps.Connection.{IsConnection}

-- a connection that has the queue of another, and is quiet
pub record Rests (s t : ConnectionState) : Type 0 where
  pub queue : t.queue ≡ s.queue
  pub quiet : IsQuiet t

none_some : (execution : Execution) → ◌≡◌ {A = Option Execution} None (Some execution) → ⊥
none_some execution e = cc

pub quiet_between : (t : ConnectionState) → IsBetween t.receiver → IsQuiet t
quiet_between t between = λ execution is. between

quiet_none : (t : ConnectionState) → waiting_ready t ≡ None → IsQuiet t
quiet_none t none = λ execution is. absurd (none_some execution (sym none ∙ is))

whole_between : (r : ReceiverState) (pdu : HostPdu) → IsBetween (next_by (Whole pdu) r)
whole_between r IcReq = record { nothing = refl; partial = refl }
whole_between r H2cTermReq = record { nothing = refl; partial = refl }
whole_between r CapsuleCmd = record { nothing = refl; partial = refl }
whole_between r H2cData = record { nothing = refl; partial = refl }

pub between_next : (r : ReceiverState) (pdu : HostPdu) → r.progress ≡ Whole pdu → IsBetween (next r)
between_next r pdu is =
    let P : Progress → Type 0 = λ p. IsBetween (next_by p r) in subst P (sym is) (whole_between r pdu)

rests_ended : (s : ConnectionState) → Rests s (ended s)
rests_ended s = record { queue = refl; quiet = quiet_none (ended s) refl }

rests_initialized : (s : ConnectionState) → IsBetween (next s.receiver) → (r : Result ℕ FatalError) → Rests s (initialized_by r s).0
rests_initialized s between (Ok alignment) =
    record { queue = refl; quiet = quiet_between (initialized_by (Ok alignment) s).0 (record { nothing = between.nothing; partial = between.partial }) }
rests_initialized s between (Err error) = rests_ended s

rests_asked : (s t : ConnectionState) (tag command : ℕ) → t.queue ≡ s.queue → IsBetween t.receiver → (wanted : Option ℕ)
    → Rests s (asked tag command wanted t).0
rests_asked s t tag command same between None = record { queue = same; quiet = quiet_between t between }
rests_asked s t tag command same between (Some wanted) =
    record {
      queue = same;
      quiet = quiet_between (asked tag command (Some wanted) t).0 (record { nothing = between.nothing; partial = between.partial });
    }

rests_asked_for : (s t : ConnectionState) (tag : ℕ) → t.queue ≡ s.queue → IsBetween t.receiver → (command : Option WaitingCommand)
    → Rests s (asked_for tag command t).0
rests_asked_for s t tag same between None = record { queue = same; quiet = quiet_between t between }
rests_asked_for s t tag same between (Some command) = rests_asked s t tag (identifier_of command.entry) same between command.wanted

rests_looked_by : (s t : ConnectionState) → t.queue ≡ s.queue → IsBetween t.receiver → (tag : Option ℕ) → Rests s (looked_by tag t).0
rests_looked_by s t same between None = record { queue = same; quiet = quiet_between t between }
rests_looked_by s t same between (Some tag) = rests_asked_for s t tag same between (unasked t)

pub rests_looked : (s t : ConnectionState) → t.queue ≡ s.queue → IsBetween t.receiver → Rests s (looked t).0
rests_looked s t same between = rests_looked_by s t same between (free_tag t.receiver.expected.transfers)

rests_joined : (s : ConnectionState) (command : WaitingCommand) → IsBetween (next s.receiver) → Rests s (joined command s).0
rests_joined s command between = rests_looked s (queued command s) refl between

rests_judged : (s : ConnectionState) (entry : List ℕ) → IsBetween (next s.receiver) → (r : Result (Option ℕ) Status) → Rests s (judged r entry s).0
rests_judged s entry between (Ok wanted) = rests_joined s (record { entry = entry; «data» = inside s; wanted = wanted }) between
rests_judged s entry between (Err status) =
    record { queue = refl; quiet = quiet_between (judged (Err status) entry s).0 between }

rests_commanded : (s : ConnectionState) (entry : List ℕ) → IsBetween (next s.receiver) → Rests s (commanded_by entry s).0
rests_commanded s entry between =
    elim (may_come (identifier_of entry) s) as (λ b. Rests s (cond b (judged (checked entry s) entry s)
    (failed PduSequence (take 72 s.receiver.pending) s)).0) [
      | true ↦ rests_judged s entry between (checked entry s)
      | false ↦ rests_ended s
    ]

-- what has come is dealt with
rests_by : (s : ConnectionState) (p : Progress) → s.receiver.progress ≡ p → waiting_ready s ≡ None → Rests s (dealt_by p s).0
rests_by s Partial is none = record { queue = refl; quiet = quiet_none s none }
rests_by s (Failed error) is none = rests_ended s
rests_by s (Whole IcReq) is none =
    rests_initialized s (between_next s.receiver IcReq is) (initialize_checked (initialize_request_in (take 128 s.receiver.pending)))
rests_by s (Whole H2cTermReq) is none = rests_ended s
rests_by s (Whole CapsuleCmd) is none =
    rests_commanded s (drop 8 (take 72 s.receiver.pending)) (between_next s.receiver CapsuleCmd is)
rests_by s (Whole H2cData) is none =
    record { queue = refl; quiet = quiet_between (with_next s) (between_next s.receiver H2cData is) }

rests_dealt : (s : ConnectionState) → waiting_ready s ≡ None → Rests s (dealt s).0
rests_dealt s none = rests_by s s.receiver.progress refl none

-- ---- a piece

no_some : (o : Option Execution) → is_some o ≡ false → o ≡ None
no_some None none = refl
no_some (Some execution) none = absurd cc

one_some : (o : Option Execution) → is_some o ≡ true → (execution : Execution) × (o ≡ Some execution)
one_some None some = absurd cc
one_some (Some execution) some = (execution, refl)

not_true : (b : Bool) → not b ≡ true → b ≡ false
not_true true is = absurd cc
not_true false is = refl

pub open_ready : (s : ConnectionState) → is_ended s.phase ≡ false → ready s ≡ waiting_ready s
open_ready s is = ap (λ (b : Bool). cond b None (waiting_ready s)) is

-- what is expected isn't changed by a piece
pub same_waiting : (s : ConnectionState) (piece : List ℕ) (p : Progress)
    → waiting_ready (record s { receiver = (receiving.taken_by p s.receiver piece).0 }) ≡ waiting_ready s
same_waiting s piece Partial = refl
same_waiting s piece (Whole pdu) = refl
same_waiting s piece (Failed error) = refl

pub is_open : (s : ConnectionState) → takes s ≡ true → is_ended s.phase ≡ false
is_open s is = not_true (is_ended s.phase) (and_parts (not (is_ended s.phase)) (not (is_some (ready s))) is).0

pub none_waits : (s : ConnectionState) → takes s ≡ true → waiting_ready s ≡ None
none_waits s is =
    let parts = and_parts (not (is_ended s.phase)) (not (is_some (ready s))) is in
    no_some (waiting_ready s)
    (ap (λ (o : Option Execution). is_some o) (sym (open_ready s (is_open s is))) ∙ not_true (is_some (ready s)) parts.1)

took_rests : (s : ConnectionState) (piece : List ℕ) → takes s ≡ true → Rests s (took s piece).state
took_rests s piece is =
    let none : waiting_ready s ≡ None = none_waits s is in
    let t : ConnectionState = record s { receiver = (receiving.taken s.receiver piece).0 } in
    let rests = rests_dealt t (same_waiting s piece s.receiver.progress ∙ none) in record { queue = rests.queue; quiet = rests.quiet }

rests_taken : (s : ConnectionState) (piece : List ℕ) → IsQuiet s → (b : Bool) → takes s ≡ b → Rests s (taken s piece).state
rests_taken s piece quiet true is =
    let P : Bool → Type 0 = λ b. Rests s (cond b (took s piece) (record { state = s; sent = []; count = 0 })).state in
    subst P (sym is) (took_rests s piece is)
rests_taken s piece quiet false is =
    let P : Bool → Type 0 = λ b. Rests s (cond b (took s piece) (record { state = s; sent = []; count = 0 })).state in
    subst P (sym is) (record { queue = refl; quiet = quiet })

sound : (s t : ConnectionState) → IsConnection s → Rests s t → IsConnection t
sound s t connection rests =
    record {
      some = subst (λ (q : Queue). 0 < q.entries) (sym rests.queue) connection.some;
      most = subst (λ (q : Queue). q.entries ≤ 128) (sym rests.queue) connection.most;
      quiet = rests.quiet;
    }

pub taken_sound : (s : ConnectionState) (piece : List ℕ) → IsConnection s → IsConnection (taken s piece).state
taken_sound s piece connection = sound s (taken s piece).state connection (rests_taken s piece connection.quiet (takes s) refl)

-- ---- a command goes

-- a command is ready only before the end, and between PDUs
ready_open : (s : ConnectionState) (b : Bool) → is_ended s.phase ≡ b → is_some (ready s) ≡ true → is_some (waiting_ready s) ≡ true
ready_open s true is some =
    let none : ready s ≡ None = ap (λ (b : Bool). cond b None (waiting_ready s)) is in absurd cc
ready_open s false is some = ap (λ (o : Option Execution). is_some o) (sym (open_ready s is)) ∙ some

pub ready_between : (s : ConnectionState) → IsConnection s → IsTrue (is_some (ready s)) → IsBetween s.receiver
ready_between s connection some =
    let one = one_some (waiting_ready s) (ready_open s (is_ended s.phase) refl some) in connection.quiet one.0 one.1

-- its R2T is let go between PDUs
pub between_let_go : (r : ReceiverState) → IsBetween r → (first : Option WaitingCommand) → IsBetween (let_go first r)
between_let_go r between None = between
between_let_go r between (Some first) = record { nothing = between.nothing; partial = between.partial }

started_between : (s : ConnectionState) → IsConnection s → IsTrue (is_some (ready s)) → IsBetween (with_started s).receiver
started_between s connection some = between_let_go s.receiver (ready_between s connection some) (first_of s.commands)

pub gone_sound : (s : ConnectionState) → IsConnection s → IsTrue (is_some (ready s)) → IsConnection (gone s).0
gone_sound s connection some =
    sound s (gone s).0 connection (rests_looked s (with_started s) refl (started_between s connection some))

-- behind it the receiver is between PDUs
between_asked : (t : ConnectionState) (tag command : ℕ) → IsBetween t.receiver → (wanted : Option ℕ)
    → IsBetween (asked tag command wanted t).0.receiver
between_asked t tag command between None = between
between_asked t tag command between (Some wanted) = record { nothing = between.nothing; partial = between.partial }

between_asked_for : (t : ConnectionState) (tag : ℕ) → IsBetween t.receiver → (command : Option WaitingCommand)
    → IsBetween (asked_for tag command t).0.receiver
between_asked_for t tag between None = between
between_asked_for t tag between (Some command) = between_asked t tag (identifier_of command.entry) between command.wanted

between_looked : (t : ConnectionState) → IsBetween t.receiver → (tag : Option ℕ) → IsBetween (looked_by tag t).0.receiver
between_looked t between None = between
between_looked t between (Some tag) = between_asked_for t tag between (unasked t)

pub gone_between : (s : ConnectionState) → IsConnection s → IsTrue (is_some (ready s)) → IsBetween (gone s).0.receiver
gone_between s connection some =
    let t : ConnectionState = with_started s in
    between_looked t (started_between s connection some) (free_tag t.receiver.expected.transfers)

-- ---- a command is completed

rests_completed : (s : ConnectionState) → IsQuiet s → (phase : Phase) (command : ℕ) (outcome : Outcome) (bytes : List ℕ)
    → Rests s (completed_in phase command outcome bytes s).0
rests_completed s quiet Initializing command outcome bytes = record { queue = refl; quiet = quiet }
rests_completed s quiet Ended command outcome bytes = record { queue = refl; quiet = quiet }
rests_completed s quiet (Open alignment) command outcome bytes =
    let t : ConnectionState = (answered command outcome (record s { commands = without command s.commands })).0 in
    let sent : List ℕ =
    data_sent alignment command bytes ++ (answered command outcome (record s { commands = without command s.commands })).1 in
    elim (is_running command s.commands) as (λ b. Rests s (cond {A = ConnectionState × List ℕ} b (t, sent) (s, [])).0) [
      | true ↦ record { queue = refl; quiet = quiet }
      | false ↦ record { queue = refl; quiet = quiet }
    ]

pub completed_sound : (s : ConnectionState) (command : ℕ) (outcome : Outcome) (bytes : List ℕ) → IsConnection s
    → IsConnection (completed command outcome bytes s).0
completed_sound s command outcome bytes connection =
    sound s (completed command outcome bytes s).0 connection (rests_completed s connection.quiet s.phase command outcome bytes)

-- ---- Connect

pub connected_sound : (s : ConnectionState) (queue : Queue) (in_capsule : ℕ) → 0 < queue.entries → queue.entries ≤ 128 → IsBetween s.receiver
    → IsConnection (connected queue in_capsule s)
connected_sound s queue in_capsule some most between =
    record {
      some = some;
      most = most;
      quiet = quiet_between (connected queue in_capsule s) (record { nothing = between.nothing; partial = between.partial });
    }
