-- A connection deals with each PDU as soon as it has come whole.
use Rattle.std.proofs.Common.{◌≡◌, ℕ, Bool, true, false, cond, List, [], ◌++◌, take, drop, Option, None, Some, is_some, Result, Ok, Err, refl}
use Rattle.zone_state.specs.declared.status.Status.{Status}
use Rattle.tcp_pdus.specs.declared.fatal_error.FatalError.{FatalError}
use Rattle.tcp_pdus.specs.declared.fatal_error.FatalError.TheVariants.{PduSequence}
use Rattle.tcp_pdus.specs.declared.received.HostPdu.TheVariants.{IcReq, H2cTermReq, CapsuleCmd, H2cData}
use Rattle.tcp_pdus.specs.Initialize.{initialize_checked, initialize_request_in}
use Rattle.tcp_connection.specs.declared.expected.Progress.{Progress}
use Rattle.tcp_connection.specs.declared.expected.Progress.TheVariants.{Partial, Whole, Failed}
use Rattle.tcp_connection.specs.Receiving.{ReceiverState}
use Rattle.tcp_connection.specs.Transfers.{free_tag}
use Rattle.tcp_pdus.specs.Direction.{identifier_of}
use Rattle.tcp_connection.specs.declared.queue.Outcome.{Outcome}
use Rattle.tcp_connection.specs.declared.queue.Phase.{Phase}
use Rattle.tcp_connection.specs.declared.queue.Phase.TheVariants.{Initializing, Open, Ended}
use Rattle.tcp_connection.specs.declared.state.ConnectionState.{ConnectionState}
use Rattle.tcp_connection.specs.Commands.{WaitingCommand, first_of, is_running, without}
use Rattle.tcp_connection.specs.Connection.{Step, takes, took}
use Rattle.tcp_connection.specs.Dealing.{asked, asked_for, checked, commanded_by, dealt_by, initialized_by, inside, judged, looked, looked_by, may_come, queued, unasked, with_next}
use Rattle.tcp_connection.specs.Executing.{Execution, completed_in, data_sent, gone, let_go, ready, waiting_ready, with_started}
use Rattle.tcp_connection.specs.Order.{Came, Completed, Happening, IsSettled, Went, after, received}
use Rattle.tcp_connection.specs.Queue.{is_ended}
use Rattle.tcp_connection.specs.Sending.{answered, failed}
use Rattle.tcp_connection.proofs.Quiet.{between_next}

at_partial : (s : ConnectionState) → s.receiver.progress ≡ Partial → IsSettled s
at_partial s is on = is

asks_partial : (s : ConnectionState) → s.receiver.progress ≡ Partial → (tag : ℕ) (command : Option WaitingCommand)
    → (asked_for tag command s).0.receiver.progress ≡ Partial
asks_partial s is tag None = is
asks_partial s is tag (Some command) =
    elim command.wanted as (λ wanted. (asked tag (identifier_of command.entry) wanted s).0.receiver.progress ≡ Partial) [ None ↦ is | Some wanted ↦ is ]

looks_by : (s : ConnectionState) → s.receiver.progress ≡ Partial → (tag : Option ℕ) → (looked_by tag s).0.receiver.progress ≡ Partial
looks_by s is None = is
looks_by s is (Some tag) = asks_partial s is tag (unasked s)

looks_partial : (s : ConnectionState) → s.receiver.progress ≡ Partial → (looked s).0.receiver.progress ≡ Partial
looks_partial s is = looks_by s is (free_tag s.receiver.expected.transfers)

-- ---- what has come is dealt with

initializes : (s : ConnectionState) → (with_next s).receiver.progress ≡ Partial → (r : Result ℕ FatalError) → IsSettled (initialized_by r s).0
initializes s next_is (Ok alignment) on = next_is
initializes s next_is (Err error) on = absurd cc

module _ (s : ConnectionState) (next_is : (with_next s).receiver.progress ≡ Partial) (entry : List ℕ) where
  judges : (r : Result (Option ℕ) Status) → IsSettled (judged r entry s).0
  judges (Err status) = λ on. next_is
  judges (Ok wanted) =
      let t : ConnectionState = queued (record { entry = entry; «data» = inside s; wanted = wanted }) s in
      at_partial (looked t).0 (looks_partial t next_is)

  commands : IsSettled (commanded_by entry s).0
  commands =
      elim (may_come (identifier_of entry) s) as (λ b. IsSettled (cond b (judged (checked entry s) entry s) (failed PduSequence (take 72 s.receiver.pending) s)).0) [
        | true ↦ judges (checked entry s)
        | false ↦ (λ on. absurd cc)
      ]

deals : (s : ConnectionState) (p : Progress) → s.receiver.progress ≡ p → IsSettled (dealt_by p s).0
deals s Partial is = at_partial s is
deals s (Failed error) is = λ on. absurd cc
deals s (Whole IcReq) is =
    initializes s (between_next s.receiver IcReq is).partial (initialize_checked (initialize_request_in (take 128 s.receiver.pending)))
deals s (Whole H2cTermReq) is = λ on. absurd cc
deals s (Whole CapsuleCmd) is =
    commands s (between_next s.receiver CapsuleCmd is).partial (drop 8 (take 72 s.receiver.pending))
deals s (Whole H2cData) is = at_partial (with_next s) (between_next s.receiver H2cData is).partial

takes_piece : (s : ConnectionState) (piece : List ℕ) → IsSettled s → (b : Bool)
    → IsSettled (cond {A = Step} b (took s piece) (record { state = s; sent = []; count = 0 })).state
takes_piece s piece settled true = deals (received piece s) (received piece s).receiver.progress refl
takes_piece s piece settled false = settled

-- ---- a command goes

opened : (s : ConnectionState) (execution : Execution) (b : Bool) → cond {A = Option Execution} b None (waiting_ready s) ≡ Some execution → b ≡ false
opened s execution true is = absurd cc
opened s execution false is = refl

let_go_partial : (r : ReceiverState) → r.progress ≡ Partial → (first : Option WaitingCommand) → (let_go first r).progress ≡ Partial
let_go_partial r is None = is
let_go_partial r is (Some first) = is

gone_partial : (s : ConnectionState) (execution : Execution) → IsSettled s → ready s ≡ Some execution → (gone s).0.receiver.progress ≡ Partial
gone_partial s execution settled is =
    looks_partial (with_started s)
    (let_go_partial s.receiver (settled (opened s execution (is_ended s.phase) is)) (first_of s.commands))

goes : (s : ConnectionState) → IsSettled s → (o : Option Execution) → ready s ≡ o → IsSettled (cond (is_some o) (gone s).0 s)
goes s settled None is = settled
goes s settled (Some execution) is = at_partial (gone s).0 (gone_partial s execution settled is)

-- ---- all that happens

completes : (s : ConnectionState) (command : ℕ) (outcome : Outcome) (bytes : List ℕ) → IsSettled s → (phase : Phase) → s.phase ≡ phase
    → IsSettled (completed_in phase command outcome bytes s).0
completes s command outcome bytes settled Initializing is = settled
completes s command outcome bytes settled Ended is = settled
completes s command outcome bytes settled (Open alignment) is =
    let a : ConnectionState × List ℕ = answered command outcome (record s { commands = without command s.commands }) in
    elim (is_running command s.commands) as (λ b. IsSettled (cond {A = ConnectionState × List ℕ} b (a.0, data_sent alignment command bytes ++ a.1) (s, [])).0) [
      | true ↦ settled
      | false ↦ settled
    ]

pub stays_settled : (happening : Happening) (s : ConnectionState) → IsSettled s → IsSettled (after happening s)
stays_settled (Came piece) s settled = takes_piece s piece settled (takes s)
stays_settled Went s settled = goes s settled (ready s) refl
stays_settled (Completed command outcome bytes) s settled = completes s command outcome bytes settled s.phase refl
