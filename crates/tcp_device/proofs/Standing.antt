-- How far a connection is: between PDUs, within one, or at its end.
use Rattle.std.proofs.Common.{◌≡◌, ℕ, ◌-◌, Bool, true, false, cond, not, List, [], ◌++◌, length, take, drop, Option, None, Some, is_some, Result, Ok, Err, refl, sym, ap, subst, ◌∙◌, arith}
use Rattle.std.proofs.lemmas.Bool.{and_parts}
use Rattle.std.proofs.lemmas.List.{take_all}
use Rattle.zone_state.specs.declared.status.Status.{Status}
use Rattle.tcp_pdus.specs.Direction.{identifier_of}
use Rattle.tcp_pdus.specs.Initialize.{initialize_checked, initialize_request_in}
use Rattle.tcp_pdus.specs.Received.{may_come}
use Rattle.tcp_pdus.specs.declared.fatal_error.FatalError.{FatalError}
use Rattle.tcp_pdus.specs.declared.fatal_error.FatalError.TheVariants.{PduSequence}
use Rattle.tcp_pdus.specs.declared.received.Awaits.{Awaits}
use Rattle.tcp_pdus.specs.declared.received.Awaits.TheVariants.{Initialization}
use Rattle.tcp_pdus.specs.declared.received.HostPdu.{HostPdu}
use Rattle.tcp_pdus.specs.declared.received.HostPdu.TheVariants.{IcReq, H2cTermReq, CapsuleCmd, H2cData}
use Rattle.tcp_connection.specs.declared.expected.Progress.{Progress}
use Rattle.tcp_connection.specs.declared.expected.Progress.TheVariants.{Partial, Whole, Failed}
use Rattle.tcp_connection.specs.Reading.{reading}
use Rattle.tcp_connection.specs.Receiving.{ReceiverState, next, next_by}
use Rattle.tcp_connection.specs.Receiving as receiving
use Rattle.tcp_connection.specs.Transfers.{free_tag}
use Rattle.tcp_connection.specs.declared.queue.Outcome.{Outcome}
use Rattle.tcp_connection.specs.declared.queue.Phase.{Phase}
use Rattle.tcp_connection.specs.declared.queue.Phase.TheVariants.{Initializing, Open, Ended}
use Rattle.tcp_connection.specs.declared.queue.Queue.{Queue}
use Rattle.tcp_connection.specs.declared.state.ConnectionState.{ConnectionState}
use Rattle.tcp_connection.specs.Commands.{WaitingCommand, first_in, first_of, is_running, without}
use Rattle.tcp_connection.specs.Connection.{Step, taken, takes, took}
use Rattle.tcp_connection.specs.Dealing.{asked, asked_for, checked, commanded_by, dealt, dealt_by, initialized_by, inside, judged, looked, looked_by, may_come as command_may_come, queued, unasked}
use Rattle.tcp_connection.specs.Executing.{Execution, completed, completed_in, connected, data_sent, first_ready, gone, let_go, waiting_ready, with_started}
use Rattle.tcp_connection.specs.Queue.{is_ended}
use Rattle.tcp_connection.specs.Sending.{answered, failed}
use Rattle.tcp_device.proofs.Readings.{reads_all, whole_comes}

-- before the ICReq is answered nothing else may come, and no command waits
pub record Begins (c : ConnectionState) : Type 0 where
  pub awaits : c.phase ≡ Initializing → c.receiver.expected.awaits ≡ Initialization
  pub waits : c.phase ≡ Initializing → c.commands.waiting ≡ []

-- it is over; or nothing of the next PDU has come; or a part of one, while no command is ready
pub data Stands (c : ConnectionState) : Type 0 where
  over : is_ended c.phase ≡ true → Stands c
  between : c.receiver.pending ≡ [] → c.receiver.progress ≡ Partial → Begins c → Stands c
  within : waiting_ready c ≡ None → c.receiver.progress ≡ Partial
      → reading c.receiver.expected c.receiver.pending ≡ (Partial, length c.receiver.pending) → Begins c → Stands c

-- ---- what changes nothing of it

pub as_before : (c d : ConnectionState) → d.phase ≡ c.phase → d.receiver ≡ c.receiver → d.commands.waiting ≡ c.commands.waiting → Stands c → Stands d
as_before c d phase receiver waiting (over ended) = over (ap (λ (p : Phase). is_ended p) phase ∙ ended)
as_before c d phase receiver waiting (between nothing partial begins) =
    between (ap (λ (r : ReceiverState). r.pending) receiver ∙ nothing) (ap (λ (r : ReceiverState). r.progress) receiver ∙ partial)
    (record {
      awaits = λ is. ap (λ (r : ReceiverState). r.expected.awaits) receiver ∙ begins.awaits (sym phase ∙ is);
      waits = λ is. waiting ∙ begins.waits (sym phase ∙ is);
    })
as_before c d phase receiver waiting (within none partial reads begins) =
    within
    (ap (λ (ws : List WaitingCommand). first_ready (first_in ws) d.receiver.expected.transfers) waiting
    ∙ ap (λ (r : ReceiverState). first_ready (first_of c.commands) r.expected.transfers) receiver ∙ none)
    (ap (λ (r : ReceiverState). r.progress) receiver ∙ partial)
    (subst (λ (r : ReceiverState). reading r.expected r.pending ≡ (Partial, length r.pending)) (sym receiver) reads)
    (record {
      awaits = λ is. ap (λ (r : ReceiverState). r.expected.awaits) receiver ∙ begins.awaits (sym phase ∙ is);
      waits = λ is. waiting ∙ begins.waits (sym phase ∙ is);
    })

-- data is asked for another command between PDUs alone
pub record LeavesReceiver (s t : ConnectionState) : Type 0 where
  pub phase : t.phase ≡ s.phase
  pub pending : t.receiver.pending ≡ s.receiver.pending
  pub progress : t.receiver.progress ≡ s.receiver.progress
  pub awaits : t.receiver.expected.awaits ≡ s.receiver.expected.awaits
  pub waiting : t.commands.waiting ≡ s.commands.waiting

asks : (tag command : ℕ) (wanted : Option ℕ) (s : ConnectionState) → LeavesReceiver s (asked tag command wanted s).0
asks tag command None s = record { phase = refl; pending = refl; progress = refl; awaits = refl; waiting = refl }
asks tag command (Some wanted) s = record { phase = refl; pending = refl; progress = refl; awaits = refl; waiting = refl }

asks_for : (tag : ℕ) (command : Option WaitingCommand) (s : ConnectionState) → LeavesReceiver s (asked_for tag command s).0
asks_for tag None s = record { phase = refl; pending = refl; progress = refl; awaits = refl; waiting = refl }
asks_for tag (Some command) s = asks tag (identifier_of command.entry) command.wanted s

looks_by : (tag : Option ℕ) (s : ConnectionState) → LeavesReceiver s (looked_by tag s).0
looks_by None s = record { phase = refl; pending = refl; progress = refl; awaits = refl; waiting = refl }
looks_by (Some tag) s = asks_for tag (unasked s) s

pub looks : (s : ConnectionState) → LeavesReceiver s (looked s).0
looks s = looks_by (free_tag s.receiver.expected.transfers) s

looks_between : (s : ConnectionState) → s.receiver.pending ≡ [] → s.receiver.progress ≡ Partial → Begins s → Stands (looked s).0
looks_between s nothing partial begins =
    let l = looks s in
    between (l.pending ∙ nothing) (l.progress ∙ partial) (record {
      awaits = λ is. l.awaits ∙ begins.awaits (sym l.phase ∙ is);
      waits = λ is. l.waiting ∙ begins.waits (sym l.phase ∙ is);
    })

-- ---- what has come is dealt with

record IsNextPdu (r : ReceiverState) (s : ReceiverState) : Type 0 where
  pub pending : s.pending ≡ []
  pub progress : s.progress ≡ Partial
  pub awaits : s.expected.awaits ≡ r.expected.awaits

next_pdu : (r : ReceiverState) (pdu : HostPdu) → IsNextPdu r (next_by (Whole pdu) r)
next_pdu r IcReq = record { pending = refl; progress = refl; awaits = refl }
next_pdu r H2cTermReq = record { pending = refl; progress = refl; awaits = refl }
next_pdu r CapsuleCmd = record { pending = refl; progress = refl; awaits = refl }
next_pdu r H2cData = record { pending = refl; progress = refl; awaits = refl }

nexts : (r : ReceiverState) (pdu : HostPdu) → r.progress ≡ Whole pdu → IsNextPdu r (next r)
nexts r pdu is = subst (λ (p : Progress). IsNextPdu r (next_by p r)) (sym is) (next_pdu r pdu)

-- one that isn't initializing
begins_no : (c : ConnectionState) → (c.phase ≡ Initializing → ⊥) → Begins c
begins_no c never = record { awaits = λ is. absurd (never is); waits = λ is. absurd (never is) }

module _ (s : ConnectionState) where
  initializes : IsNextPdu s.receiver (next s.receiver) → (r : Result ℕ FatalError) → Stands (initialized_by r s).0
  initializes n (Ok alignment) = between n.pending n.progress (record { awaits = λ is. absurd cc; waits = λ is. absurd cc })
  initializes n (Err error) = over refl

  module _ (never : s.phase ≡ Initializing → ⊥) (n : IsNextPdu s.receiver (next s.receiver)) (entry : List ℕ) where
    judges : (r : Result (Option ℕ) Status) → Stands (judged r entry s).0
    judges (Ok wanted) =
        let t : ConnectionState = queued (record { entry = entry; «data» = inside s; wanted = wanted }) s in
        looks_between t n.pending n.progress (begins_no t never)
    judges (Err status) =
        let t : ConnectionState = (judged (Err status) entry s).0 in between n.pending n.progress (begins_no t never)

    commands : Stands (commanded_by entry s).0
    commands =
        elim (command_may_come (identifier_of entry) s) as (λ b.
        Stands (cond b (judged (checked entry s) entry s) (failed PduSequence (take 72 s.receiver.pending) s)).0) [
          | true ↦ judges (checked entry s)
          | false ↦ over refl
        ]

  deals : (p : Progress) → s.receiver.progress ≡ p → Begins s → (p ≡ Whole CapsuleCmd → s.phase ≡ Initializing → ⊥)
      → (p ≡ Partial → Stands s) → Stands (dealt_by p s).0
  deals Partial is begins never stands = stands refl
  deals (Failed error) is begins never stands = over refl
  deals (Whole IcReq) is begins never stands =
      initializes (nexts s.receiver IcReq is) (initialize_checked (initialize_request_in (take 128 s.receiver.pending)))
  deals (Whole H2cTermReq) is begins never stands = over refl
  deals (Whole CapsuleCmd) is begins never stands = commands (never refl) (nexts s.receiver CapsuleCmd is) (drop 8 (take 72 s.receiver.pending))
  deals (Whole H2cData) is begins never stands =
      let n = nexts s.receiver H2cData is in
      between n.pending n.progress (record { awaits = λ starts. n.awaits ∙ begins.awaits starts; waits = begins.waits })

-- ---- a piece comes

-- a command is neither ready nor has the connection ended, where it takes bytes
not_some : (o : Option Execution) → not (is_some o) ≡ true → o ≡ None
not_some None is = refl
not_some (Some execution) is = absurd cc

not_true : (b : Bool) → not b ≡ true → b ≡ false
not_true true is = absurd cc
not_true false is = refl

pub record Takes (c : ConnectionState) : Type 0 where
  pub on : is_ended c.phase ≡ false
  pub none : waiting_ready c ≡ None

pub takes_parts : (c : ConnectionState) → takes c ≡ true → Takes c
takes_parts c is =
    let parts = and_parts (not (is_ended c.phase)) (not (is_some (cond (is_ended c.phase) None (waiting_ready c)))) is in
    let on : is_ended c.phase ≡ false = not_true (is_ended c.phase) parts.0 in
    record {
      on = on;
      none = not_some (waiting_ready c)
          (sym (ap (λ (b : Bool). not (is_some (cond {A = Option Execution} b None (waiting_ready c)))) on) ∙ parts.1);
    }

-- what is known where it isn't over
pub record Reads (c : ConnectionState) : Type 0 where
  pub partial : c.receiver.progress ≡ Partial
  pub reads : reading c.receiver.expected c.receiver.pending ≡ (Partial, length c.receiver.pending)
  pub begins : Begins c

nothing_reads : (c : ConnectionState) → c.receiver.pending ≡ [] → reading c.receiver.expected c.receiver.pending ≡ (Partial, length c.receiver.pending)
nothing_reads c nothing =
    subst (λ (bytes : List ℕ). reading c.receiver.expected bytes ≡ (Partial, length bytes)) (sym nothing) refl

pub reads_of : (c : ConnectionState) → is_ended c.phase ≡ false → Stands c → Reads c
reads_of c on (over ended) = absurd cc
reads_of c on (between nothing partial begins) = record { partial = partial; reads = nothing_reads c nothing; begins = begins }
reads_of c on (within none partial reads begins) = record { partial = partial; reads = reads; begins = begins }

initialization_only : (awaits : Awaits) → awaits ≡ Initialization → may_come awaits CapsuleCmd ≡ true → ⊥
initialization_only awaits is comes =
    let never : may_come awaits CapsuleCmd ≡ false = ap (λ (a : Awaits). may_come a CapsuleCmd) is in absurd cc

module _ (c : ConnectionState) (piece : List ℕ) where
  abbrev all : List ℕ
  all = c.receiver.pending ++ piece

  abbrev r : Progress × ℕ
  r = reading c.receiver.expected all

  abbrev receiver : ReceiverState
  receiver = record c.receiver { progress = r.0; pending = take r.1 all }

  abbrev came : ConnectionState
  came = record c { receiver = receiver }

  taken_is : c.receiver.progress ≡ Partial → receiving.taken c.receiver piece ≡ (receiver, r.1 - length c.receiver.pending)
  taken_is partial = ap (λ (p : Progress). receiving.taken_by p c.receiver piece) partial

  stays_within : Takes c → Reads c → r.0 ≡ Partial → Stands came
  stays_within t known partial =
      let is : r ≡ (Partial, length all) = reads_all c.receiver.expected all partial in
      let whole : take r.1 all ≡ all = ap (λ (it : Progress × ℕ). take it.1 all) is ∙ take_all (length all) all (omega arith) in
      within t.none partial
      (subst (λ (bytes : List ℕ). reading c.receiver.expected bytes ≡ (Partial, length bytes)) (sym whole) is)
      (record { awaits = known.begins.awaits; waits = known.begins.waits })

  dealt_with : Takes c → Reads c → Stands (dealt came).0
  dealt_with t known =
      deals came r.0 refl (record { awaits = known.begins.awaits; waits = known.begins.waits })
      (λ (whole : r.0 ≡ Whole CapsuleCmd) (starts : c.phase ≡ Initializing).
      initialization_only c.receiver.expected.awaits (known.begins.awaits starts) (whole_comes c.receiver.expected all CapsuleCmd whole))
      (stays_within t known)

  took_stands : Takes c → Stands c → Stands (took c piece).state
  took_stands t stands =
      let known = reads_of c t.on stands in
      subst (λ (it : ReceiverState × ℕ). Stands (dealt (record c { receiver = it.0 })).0) (sym (taken_is known.partial)) (dealt_with t known)

  comes_by : (b : Bool) → takes c ≡ b → Stands c → Stands (cond {A = Step} b (took c piece) (record { state = c; sent = []; count = 0 })).state
  comes_by true is stands = took_stands (takes_parts c is) stands
  comes_by false is stands = stands

  pub comes_stands : Stands c → Stands (taken c piece).state
  comes_stands stands = comes_by (takes c) refl stands

-- ---- a command goes, and is completed

module _ (c : ConnectionState) (execution : Execution) (on : is_ended c.phase ≡ false) (ready : waiting_ready c ≡ Some execution) where
  -- it has been initialized
  pub not_begins : Stands c → c.phase ≡ Initializing → ⊥
  not_begins stands starts =
      let none : waiting_ready c ≡ None =
      ap (λ (ws : List WaitingCommand). first_ready (first_in ws) c.receiver.expected.transfers) ((reads_of c on stands).begins.waits starts) in
      absurd cc

  let_go_same : (first : Option WaitingCommand) (r : ReceiverState)
      → ((let_go first r).pending ≡ r.pending) × ((let_go first r).progress ≡ r.progress)
  let_go_same None r = (refl, refl)
  let_go_same (Some first) r = (refl, refl)

  pub goes_stands : Stands c → Stands (gone c).0
  goes_stands stands = by stands
    where
      by : Stands c → Stands (gone c).0
      by (over ended) = absurd cc
      by (between nothing partial begins) =
          let same = let_go_same (first_of c.commands) c.receiver in
          looks_between (with_started c) (same.0 ∙ nothing) (same.1 ∙ partial)
          (begins_no (with_started c) (not_begins stands))
      by (within none partial reads begins) = absurd cc

  pub goes_phase : (gone c).0.phase ≡ c.phase
  goes_phase = (looks (with_started c)).phase

  -- Connect sets the queue up
  pub connects_stands : (queue : Queue) (in_capsule : ℕ) → Stands c → Stands (connected queue in_capsule (gone c).0)
  connects_stands queue in_capsule stands =
      let d : ConnectionState = connected queue in_capsule (gone c).0 in
      let never : d.phase ≡ Initializing → ⊥ = λ (is : d.phase ≡ Initializing). not_begins stands (sym goes_phase ∙ is) in
      by stands never
    where
      by : Stands c → ((connected queue in_capsule (gone c).0).phase ≡ Initializing → ⊥) → Stands (connected queue in_capsule (gone c).0)
      by (over ended) never = absurd cc
      by (between nothing partial begins) never =
          let same = let_go_same (first_of c.commands) c.receiver in let l = looks (with_started c) in
          between (l.pending ∙ same.0 ∙ nothing) (l.progress ∙ same.1 ∙ partial) (begins_no (connected queue in_capsule (gone c).0) never)
      by (within none partial reads begins) never = absurd cc

module _ (command : ℕ) (outcome : Outcome) (bytes : List ℕ) (c : ConnectionState) (stands : Stands c) where
  completes_in : (phase : Phase) → Stands (completed_in phase command outcome bytes c).0
  completes_in Initializing = stands
  completes_in Ended = stands
  completes_in (Open alignment) =
      let a : ConnectionState × List ℕ = answered command outcome (record c { commands = without command c.commands }) in
      elim (is_running command c.commands) as (λ b.
      Stands (cond {A = ConnectionState × List ℕ} b (a.0, data_sent alignment command bytes ++ a.1) (c, [])).0) [
        | true ↦ as_before c a.0 refl refl refl stands
        | false ↦ stands
      ]

  pub completes_stands : Stands (completed command outcome bytes c).0
  completes_stands = completes_in c.phase
