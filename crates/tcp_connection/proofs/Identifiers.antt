-- No two commands have one identifier, and none is completed twice.
use Rattle.std.proofs.Common.{◌≡◌, ℕ, ◌==◌, ◌||◌, Bool, true, false, cond, not, nat_lt, List, [], ◌∷◌, ◌++◌, length, take, drop, map, Option, None, Some, is_some, Result, Ok, Err, refl, sym, ap, subst, ◌∙◌, append_assoc, append-nil}
use Rattle.std.proofs.lemmas.Bool.{and_parts, or_parts, not-true}
use Rattle.std.proofs.lemmas.List.{map-append}
use Rattle.std.proofs.lemmas.List.Folds.{list_any-append}
use Rattle.std.specs.List.{list_any}
use Rattle.zone_state.specs.declared.status.Status.{Status}
use Rattle.tcp_pdus.specs.declared.fatal_error.FatalError.{FatalError}
use Rattle.tcp_pdus.specs.declared.fatal_error.FatalError.TheVariants.{PduSequence}
use Rattle.tcp_pdus.specs.declared.received.HostPdu.TheVariants.{IcReq, H2cTermReq, CapsuleCmd, H2cData}
use Rattle.tcp_pdus.specs.Initialize.{initialize_checked, initialize_request_in}
use Rattle.tcp_connection.specs.declared.expected.Progress.{Progress}
use Rattle.tcp_connection.specs.declared.expected.Progress.TheVariants.{Partial, Whole, Failed}
use Rattle.tcp_connection.specs.Receiving as receiving
use Rattle.tcp_connection.specs.Transfers.{free_tag}
use Rattle.tcp_pdus.specs.Direction.{identifier_of}
use Rattle.tcp_connection.specs.declared.queue.Outcome.{Outcome}
use Rattle.tcp_connection.specs.declared.queue.Phase.{Phase}
use Rattle.tcp_connection.specs.declared.queue.Phase.TheVariants.{Initializing, Open, Ended}
use Rattle.tcp_connection.specs.declared.state.ConnectionState.{ConnectionState}
use Rattle.tcp_connection.specs.Commands.{CommandsState, WaitingCommand, count_of, has_command, is_running, place_of, started_of, waiting_with, without}
use Rattle.tcp_connection.specs.Connection.{taken, takes, took}
use Rattle.tcp_connection.specs.Dealing.{asked, asked_for, checked, commanded_by, dealt_by, initialized_by, inside, joined, judged, looked, looked_by, may_come, queued, unasked, with_next}
use Rattle.tcp_connection.specs.Executing.{completed, completed_in, data_sent, gone, with_started}
use Rattle.tcp_connection.specs.Laws.{CompletedOnce, Differ, IdentifiersDiffer, identifiers_of}
use Rattle.tcp_connection.specs.Sending.{answered, failed}
use Rattle.tcp_connection.proofs.Places.{differ_dropped, differ_in_front, differ_inserted, only_one, place_is, removed_is}

abbrev pub HasDifferent : ConnectionState → Type 0
HasDifferent s = Differ (identifiers_of s.commands)

-- those that wait, by their identifiers
waiting_ids : List WaitingCommand → List ℕ
waiting_ids waiting = map (λ w. identifier_of w.entry) waiting

waiting_any : (command : ℕ) (waiting : List WaitingCommand)
    → list_any (λ w. identifier_of w.entry == command) waiting ≡ list_any (λ other. other == command) (map (λ w. identifier_of w.entry) waiting)
waiting_any command [] = refl
waiting_any command (w ∷ waiting) = ap (λ (b : Bool). (identifier_of w.entry == command) || b) (waiting_any command waiting)

-- a command that may come has an identifier that none has
none_has : (command : ℕ) (c : CommandsState) → has_command command c ≡ false → list_any (λ other. other == command) (identifiers_of c) ≡ false
none_has command c none =
    let parts = or_parts (is_running command c) (list_any (λ w. identifier_of w.entry == command) c.waiting) none in
    let first : list_any (λ other. other == command) c.running ≡ false =
    sym (place_is (λ other. other == command) c.running) ∙ parts.0 in
    let second : list_any (λ other. other == command) (map (λ w. identifier_of w.entry) c.waiting) ≡ false =
    sym (waiting_any command c.waiting) ∙ parts.1 in
    list_any-append (λ other. other == command) c.running (map (λ w. identifier_of w.entry) c.waiting)
    ∙ ap (λ (b : Bool). b || list_any (λ other. other == command) (map (λ w. identifier_of w.entry) c.waiting)) first ∙ second

differ_waiting : (w : WaitingCommand) (c : CommandsState) → Differ (identifiers_of c) → has_command (identifier_of w.entry) c ≡ false
    → Differ (identifiers_of (waiting_with w c))
differ_waiting w c differ none =
    let command : ℕ = identifier_of w.entry in
    let ids : List ℕ = identifiers_of c in
    let all : (c.running ++ map (λ it. identifier_of it.entry) (c.waiting ++ w ∷ [])) ≡ ids ++ command ∷ [] =
    ap (λ (ws : List ℕ). c.running ++ ws) (map-append (λ it. identifier_of it.entry) c.waiting (w ∷ []))
    ∙ sym (append_assoc c.running (map (λ it. identifier_of it.entry) c.waiting) (command ∷ [])) in
    let empty : ids ++ [] ≡ ids = append-nil ids in
    subst (λ (it : List ℕ). Differ it) (sym all)
    (differ_inserted command ids [] (subst (λ (it : List ℕ). Differ it) (sym empty) differ)
    (ap (λ (it : List ℕ). list_any (λ other. other == command) it) empty ∙ none_has command c none))

started_same : (running : List ℕ) (waiting : List WaitingCommand)
    → identifiers_of (started_of running waiting) ≡ running ++ map (λ w. identifier_of w.entry) waiting
started_same running [] = refl
started_same running (first ∷ rest) =
    append_assoc running (identifier_of first.entry ∷ []) (map (λ w. identifier_of w.entry) rest)

differ_without : (command : ℕ) (c : CommandsState) → Differ (identifiers_of c) → Differ (identifiers_of (without command c))
differ_without command c differ =
    let W : List ℕ = map (λ w. identifier_of w.entry) c.waiting in
    subst (λ (running : List ℕ). Differ (running ++ W)) (sym (removed_is (λ other. other == command) c.running))
    (differ_dropped (λ other. other == command) c.running W differ)

-- one that was completed isn't executed any more
gone_once : (command : ℕ) (c : CommandsState) → Differ (identifiers_of c) → is_running command (without command c) ≡ false
gone_once command c differ =
    let W : List ℕ = map (λ w. identifier_of w.entry) c.waiting in
    ap (λ (running : List ℕ). is_some (place_of command running)) (removed_is (λ other. other == command) c.running)
    ∙ place_is (λ other. other == command) _
    ∙ only_one command c.running (differ_in_front c.running W differ)

-- ---- what comes

different_initialized : (s : ConnectionState) → HasDifferent s → (r : Result ℕ FatalError) → HasDifferent (initialized_by r s).0
different_initialized s differ (Ok alignment) = differ
different_initialized s differ (Err error) = tt

different_asked : (t : ConnectionState) (tag command : ℕ) → HasDifferent t → (wanted : Option ℕ) → HasDifferent (asked tag command wanted t).0
different_asked t tag command differ None = differ
different_asked t tag command differ (Some wanted) = differ

different_asked_for : (t : ConnectionState) (tag : ℕ) → HasDifferent t → (command : Option WaitingCommand)
    → HasDifferent (asked_for tag command t).0
different_asked_for t tag differ None = differ
different_asked_for t tag differ (Some command) = different_asked t tag (identifier_of command.entry) differ command.wanted

different_looked_by : (t : ConnectionState) → HasDifferent t → (tag : Option ℕ) → HasDifferent (looked_by tag t).0
different_looked_by t differ None = differ
different_looked_by t differ (Some tag) = different_asked_for t tag differ (unasked t)

different_looked : (t : ConnectionState) → HasDifferent t → HasDifferent (looked t).0
different_looked t differ = different_looked_by t differ (free_tag t.receiver.expected.transfers)

different_joined : (s : ConnectionState) (w : WaitingCommand) → HasDifferent s → has_command (identifier_of w.entry) s.commands ≡ false
    → HasDifferent (joined w s).0
different_joined s w differ none =
    different_looked (queued w s) (differ_waiting w s.commands differ none)

different_judged : (s : ConnectionState) (entry : List ℕ) → HasDifferent s → has_command (identifier_of entry) s.commands ≡ false
    → (r : Result (Option ℕ) Status) → HasDifferent (judged r entry s).0
different_judged s entry differ none (Ok wanted) = different_joined s (record { entry = entry; «data» = inside s; wanted = wanted }) differ none
different_judged s entry differ none (Err status) = differ

different_may : (s : ConnectionState) (entry : List ℕ) → HasDifferent s → (b : Bool) → may_come (identifier_of entry) s ≡ b
    → HasDifferent (commanded_by entry s).0
different_may s entry differ true is =
    let parts = and_parts (nat_lt (count_of s.commands) s.queue.entries) (not (has_command (identifier_of entry) s.commands)) is in
    let none : has_command (identifier_of entry) s.commands ≡ false = not-true (has_command (identifier_of entry) s.commands) parts.1 in
    let P : Bool → Type 0 = λ b. HasDifferent (cond b (judged (checked entry s) entry s) (failed PduSequence (take 72 s.receiver.pending) s)).0 in
    subst P (sym is) (different_judged s entry differ none (checked entry s))
different_may s entry differ false is =
    let P : Bool → Type 0 = λ b. HasDifferent (cond b (judged (checked entry s) entry s) (failed PduSequence (take 72 s.receiver.pending) s)).0 in
    subst P (sym is) tt

different_dealt : (s : ConnectionState) (p : Progress) → HasDifferent s → HasDifferent (dealt_by p s).0
different_dealt s Partial differ = differ
different_dealt s (Failed error) differ = tt
different_dealt s (Whole IcReq) differ =
    different_initialized s differ (initialize_checked (initialize_request_in (take 128 s.receiver.pending)))
different_dealt s (Whole H2cTermReq) differ = tt
different_dealt s (Whole CapsuleCmd) differ =
    let entry : List ℕ = drop 8 (take 72 s.receiver.pending) in
    different_may s entry differ (may_come (identifier_of entry) s) refl
different_dealt s (Whole H2cData) differ = differ

different_taken : (s : ConnectionState) (piece : List ℕ) → HasDifferent s → HasDifferent (taken s piece).state
different_taken s piece differ =
    let r = receiving.taken s.receiver piece in
    elim (takes s) as (λ b. HasDifferent (cond b (took s piece) (record { state = s; sent = []; count = 0 })).state) [
      | true ↦ different_dealt (record s { receiver = r.0 }) r.0.progress differ
      | false ↦ differ
    ]

different_gone : (s : ConnectionState) → HasDifferent s → HasDifferent (gone s).0
different_gone s differ =
    different_looked (with_started s)
    (subst (λ (ids : List ℕ). Differ ids) (sym (started_same s.commands.running s.commands.waiting)) differ)

different_completed : (s : ConnectionState) (phase : Phase) (command : ℕ) (outcome : Outcome) (bytes : List ℕ) → HasDifferent s
    → HasDifferent (completed_in phase command outcome bytes s).0
different_completed s Initializing command outcome bytes differ = differ
different_completed s Ended command outcome bytes differ = differ
different_completed s (Open alignment) command outcome bytes differ =
    let t : ConnectionState = (answered command outcome (record s { commands = without command s.commands })).0 in
    let sent : List ℕ =
    data_sent alignment command bytes ++ (answered command outcome (record s { commands = without command s.commands })).1 in
    elim (is_running command s.commands) as (λ b. HasDifferent (cond {A = ConnectionState × List ℕ} b (t, sent) (s, [])).0) [
      | true ↦ differ_without command s.commands differ
      | false ↦ differ
    ]

pub identifiers_differ : IdentifiersDiffer
identifiers_differ = record {
  begins = tt;
  takes = λ s piece differ. different_taken s piece differ;
  goes = λ s differ. different_gone s differ;
  completes = λ s command outcome bytes differ. different_completed s s.phase command outcome bytes differ;
}

-- ---- a second completion

nothing_sent : (t : ConnectionState) (phase : Phase) (command : ℕ) (outcome : Outcome) (bytes : List ℕ) → is_running command t.commands ≡ false
    → (completed_in phase command outcome bytes t).1 ≡ []
nothing_sent t Initializing command outcome bytes none = refl
nothing_sent t Ended command outcome bytes none = refl
nothing_sent t (Open alignment) command outcome bytes none =
    let a : ConnectionState × List ℕ = answered command outcome (record t { commands = without command t.commands }) in
    ap (λ (b : Bool). (cond {A = ConnectionState × List ℕ} b (a.0, data_sent alignment command bytes ++ a.1) (t, [])).1) none

module _ (s : ConnectionState) (command : ℕ) (first second : Outcome) (bytes more : List ℕ) (differ : HasDifferent s) where
  once_open : (alignment : ℕ) (b : Bool) → is_running command s.commands ≡ b
      → (completed command second more (completed_in (Open alignment) command first bytes s).0).1 ≡ []
  once_open alignment b is =
      let a : ConnectionState × List ℕ = answered command first (record s { commands = without command s.commands }) in
      let P : Bool → Type 0 = λ it. (completed command second more
      (cond {A = ConnectionState × List ℕ} it (a.0, data_sent alignment command bytes ++ a.1) (s, [])).0).1 ≡ [] in
      let Q : Bool → Type 0 = λ it. is_running command s.commands ≡ it → P it in
      let both : Q b = elim b as Q [
        | true ↦ (λ is_so. nothing_sent a.0 a.0.phase command second more (gone_once command s.commands differ))
        | false ↦ (λ is_not. nothing_sent s s.phase command second more is_not)
      ] in
      subst P (sym is) (both is)

  once_by : (phase : Phase) → s.phase ≡ phase → (completed command second more (completed_in phase command first bytes s).0).1 ≡ []
  once_by Initializing is = ap (λ (phase : Phase). (completed_in phase command second more s).1) is
  once_by Ended is = ap (λ (phase : Phase). (completed_in phase command second more s).1) is
  once_by (Open alignment) is = once_open alignment (is_running command s.commands) refl

pub completed_once : CompletedOnce
completed_once = λ s command first second bytes more differ. once_by s command first second bytes more differ s.phase refl
