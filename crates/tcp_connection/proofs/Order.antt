-- Commands go in the order of their capsules.
use Rattle.std.proofs.Common.{◌≡◌, ℕ, ◌&&◌, Bool, true, false, cond, not, List, [], ◌∷◌, ◌++◌, take, drop, map, Option, None, Some, is_some, Result, Ok, Err, refl, sym, ap, ◌∙◌, append_assoc, append-nil}
use Rattle.std.specs.Prelude.{is_ok}
use Rattle.std.proofs.lemmas.List.{map-append}
use Rattle.zone_state.specs.declared.status.Status.{Status}
use Rattle.tcp_pdus.specs.declared.fatal_error.FatalError.{FatalError}
use Rattle.tcp_pdus.specs.declared.fatal_error.FatalError.TheVariants.{PduSequence}
use Rattle.tcp_pdus.specs.declared.received.HostPdu.TheVariants.{IcReq, H2cTermReq, CapsuleCmd, H2cData}
use Rattle.tcp_connection.specs.declared.expected.Progress.{Progress}
use Rattle.tcp_connection.specs.declared.expected.Progress.TheVariants.{Partial, Whole, Failed}
use Rattle.tcp_connection.specs.Transfers.{Transfer, free_tag}
use Rattle.tcp_pdus.specs.Direction.{identifier_of}
use Rattle.tcp_pdus.specs.Initialize.{initialize_checked, initialize_request_in}
use Rattle.tcp_connection.specs.declared.queue.Outcome.{Outcome}
use Rattle.tcp_connection.specs.declared.queue.Phase.{Phase}
use Rattle.tcp_connection.specs.declared.queue.Phase.TheVariants.{Initializing, Open, Ended}
use Rattle.tcp_connection.specs.declared.state.ConnectionState.{ConnectionState}
use Rattle.tcp_connection.specs.Commands.{WaitingCommand, first_in, is_running, started_of, without}
use Rattle.tcp_connection.specs.Connection.{Step, takes, took}
use Rattle.tcp_connection.specs.Dealing.{asked, asked_for, checked, commanded_by, dealt_by, initialized_by, inside, judged, looked, looked_by, may_come, queued, unasked, with_next}
use Rattle.tcp_connection.specs.Executing.{Execution, completed_in, data_for, data_sent, execution_of, first_ready, gone, ready, waiting_ready, with_started}
use Rattle.tcp_connection.specs.Order.{Came, CommandsGoInOrder, Completed, GoInOrder, Happening, IsSettled, KeepsOrder, Went, after, after_all, brought_by, came_by, came_in, entry_of, received, waiting_in, went_by, went_in}
use Rattle.tcp_connection.specs.Queue.{is_ended}
use Rattle.tcp_connection.specs.Sending.{answered, ended, failed}
use Rattle.tcp_connection.proofs.Settled.{stays_settled}

-- ---- steps that change nothing of it

-- nothing waits or ends by it
same_order : (s t : ConnectionState) → waiting_in t ≡ waiting_in s → GoInOrder [] [] s t
same_order s t same = record { rest = waiting_in s; order = sym (append-nil (waiting_in s)); wait = λ on. sym same }

-- the end forgets those that wait
ends : (s : ConnectionState) → GoInOrder [] [] s (ended s)
ends s = record { rest = waiting_in s; order = sym (append-nil (waiting_in s)); wait = λ on. absurd cc }

-- ---- what has come is dealt with

module _ (went came : List (List ℕ)) (s : ConnectionState) where
  asks : (t : ConnectionState) (tag command : ℕ) → GoInOrder went came s t → (wanted : Option ℕ)
      → GoInOrder went came s (asked tag command wanted t).0
  asks t tag command k None = k
  asks t tag command k (Some wanted) = record { rest = k.rest; order = k.order; wait = k.wait }

  asks_for : (t : ConnectionState) (tag : ℕ) → GoInOrder went came s t → (command : Option WaitingCommand)
      → GoInOrder went came s (asked_for tag command t).0
  asks_for t tag k None = k
  asks_for t tag k (Some command) = asks t tag (identifier_of command.entry) k command.wanted

  looks_by : (t : ConnectionState) → GoInOrder went came s t → (tag : Option ℕ) → GoInOrder went came s (looked_by tag t).0
  looks_by t k None = k
  looks_by t k (Some tag) = asks_for t tag k (unasked t)

  looks : (t : ConnectionState) → GoInOrder went came s t → GoInOrder went came s (looked t).0
  looks t k = looks_by t k (free_tag t.receiver.expected.transfers)

module _ (s : ConnectionState) (entry : List ℕ) where
  judges : (r : Result (Option ℕ) Status) → GoInOrder [] (cond (is_ok r) (entry ∷ []) []) s (judged r entry s).0
  judges (Ok wanted) =
      let w : WaitingCommand = record { entry = entry; «data» = inside s; wanted = wanted } in
      looks [] (entry ∷ []) s (queued w s)
      (record {
        rest = waiting_in s ++ entry ∷ [];
        order = refl;
        wait = λ still. sym (map-append (λ (it : WaitingCommand). it.entry) s.commands.waiting (w ∷ []));
      })
  judges (Err status) = same_order s (judged (Err status) entry s).0 refl

  commands : GoInOrder [] (cond (may_come (identifier_of entry) s && is_ok (checked entry s)) (entry ∷ []) []) s (commanded_by entry s).0
  commands =
      elim (may_come (identifier_of entry) s) as (λ b. GoInOrder [] (cond (b && is_ok (checked entry s)) (entry ∷ []) []) s
      (cond b (judged (checked entry s) entry s) (failed PduSequence (take 72 s.receiver.pending) s)).0) [
        | true ↦ judges (checked entry s)
        | false ↦ ends s
      ]

initializes : (s : ConnectionState) (r : Result ℕ FatalError) → GoInOrder [] [] s (initialized_by r s).0
initializes s (Ok alignment) = same_order s (initialized_by (Ok alignment) s).0 refl
initializes s (Err error) = ends s

deals : (s : ConnectionState) (p : Progress) → GoInOrder [] (brought_by p s) s (dealt_by p s).0
deals s Partial = same_order s s refl
deals s (Failed error) = ends s
deals s (Whole IcReq) = initializes s (initialize_checked (initialize_request_in (take 128 s.receiver.pending)))
deals s (Whole H2cTermReq) = ends s
deals s (Whole CapsuleCmd) = commands s (drop 8 (take 72 s.receiver.pending))
deals s (Whole H2cData) = same_order s (with_next s) refl

-- ---- a piece

takes_piece : (s : ConnectionState) (piece : List ℕ) (b : Bool)
    → GoInOrder [] (cond b (brought_by (received piece s).receiver.progress (received piece s)) []) s
    (cond {A = Step} b (took s piece) (record { state = s; sent = []; count = 0 })).state
takes_piece s piece true =
    let t : ConnectionState = received piece s in
    let k = deals t t.receiver.progress in record { rest = k.rest; order = k.order; wait = k.wait }
takes_piece s piece false = same_order s s refl

-- ---- a command goes

executed : (entry : List ℕ) (o : Option (List ℕ)) (execution : Execution) → execution_of entry o ≡ Some execution → entry ≡ execution.entry
executed entry None execution is = absurd cc
executed entry (Some bytes) execution is = let same : ◌≡◌ {A = Execution} (record { entry = entry; «data» = bytes }) execution = cc in ap (λ (it : Execution). it.entry) same

starts : (running : List ℕ) (waiting : List WaitingCommand) (transfers : List (Option Transfer)) (execution : Execution)
    → first_ready (first_in waiting) transfers ≡ Some execution
    → map (λ (w : WaitingCommand). w.entry) waiting ≡ execution.entry ∷ map (λ (w : WaitingCommand). w.entry) (started_of running waiting).waiting
starts running [] transfers execution is = absurd cc
starts running (first ∷ rest) transfers execution is =
    ap (λ (entry : List ℕ). entry ∷ map (λ (w : WaitingCommand). w.entry) rest)
    (executed first.entry (data_for first.wanted first transfers) execution is)

goes_first : (s : ConnectionState) (execution : Execution) → waiting_ready s ≡ Some execution → GoInOrder (execution.entry ∷ []) [] s (gone s).0
goes_first s execution is =
    let t : ConnectionState = with_started s in
    looks (execution.entry ∷ []) [] s t
    (record {
      rest = waiting_in t;
      order =
          sym (starts s.commands.running s.commands.waiting s.receiver.expected.transfers execution is)
          ∙ sym (append-nil (waiting_in s));
      wait = λ on. refl;
    })

goes_open : (s : ConnectionState) (execution : Execution) (b : Bool) → cond {A = Option Execution} b None (waiting_ready s) ≡ Some execution
    → GoInOrder (execution.entry ∷ []) [] s (gone s).0
goes_open s execution true some = absurd cc
goes_open s execution false some = goes_first s execution some

goes : (s : ConnectionState) (o : Option Execution) → ready s ≡ o → GoInOrder (entry_of o) [] s (cond (is_some o) (gone s).0 s)
goes s None is = same_order s s refl
goes s (Some execution) is = goes_open s execution (is_ended s.phase) is

-- ---- a command is completed

completes : (s : ConnectionState) (command : ℕ) (outcome : Outcome) (bytes : List ℕ) (phase : Phase)
    → GoInOrder [] [] s (completed_in phase command outcome bytes s).0
completes s command outcome bytes Initializing = same_order s s refl
completes s command outcome bytes Ended = same_order s s refl
completes s command outcome bytes (Open alignment) =
    let a : ConnectionState × List ℕ = answered command outcome (record s { commands = without command s.commands }) in
    elim (is_running command s.commands) as (λ b. GoInOrder [] [] s (cond {A = ConnectionState × List ℕ} b (a.0, data_sent alignment command bytes ++ a.1) (s, [])).0) [
      | true ↦ same_order s a.0 refl
      | false ↦ same_order s s refl
    ]

-- ---- all that happens

happens_in_order : (happening : Happening) (s : ConnectionState) → GoInOrder (went_by happening s) (came_by happening s) s (after happening s)
happens_in_order (Came piece) s = takes_piece s piece (takes s)
happens_in_order Went s = goes s (ready s) refl
happens_in_order (Completed command outcome bytes) s = completes s command outcome bytes s.phase

-- behind the end nothing comes, goes or begins again
pub record IsShut (went came : List (List ℕ)) (new : ConnectionState) : Type 0 where
  pub none_went : went ≡ []
  pub none_came : came ≡ []
  pub still : is_ended new.phase ≡ true

ended_phase : (phase : Phase) → is_ended phase ≡ true → phase ≡ Ended
ended_phase Initializing is = absurd cc
ended_phase (Open alignment) is = absurd cc
ended_phase Ended is = refl

shut_behind : (happening : Happening) (s : ConnectionState) → is_ended s.phase ≡ true
    → IsShut (went_by happening s) (came_by happening s) (after happening s)
shut_behind (Came piece) s is =
    let shut : takes s ≡ false = ap (λ (b : Bool). not b && not (is_some (ready s))) is in
    record {
      none_went = refl;
      none_came = ap (λ (b : Bool). cond b (brought_by (received piece s).receiver.progress (received piece s)) []) shut;
      still =
          ap (λ (b : Bool). is_ended (cond {A = Step} b (took s piece) (record { state = s; sent = []; count = 0 })).state.phase) shut ∙ is;
    }
shut_behind Went s is =
    let none : ready s ≡ None = ap (λ (b : Bool). cond b None (waiting_ready s)) is in
    record {
      none_went = ap entry_of none;
      none_came = refl;
      still = ap (λ (o : Option Execution). is_ended (cond (is_some o) (gone s).0 s).phase) none ∙ is;
    }
shut_behind (Completed command outcome bytes) s is =
    record {
      none_went = refl;
      none_came = refl;
      still = ap (λ (phase : Phase). is_ended (completed_in phase command outcome bytes s).0.phase) (ended_phase s.phase is) ∙ is;
    }

-- what happens, by what went and what came then
pub record Moves (went came : List (List ℕ)) (old new : ConnectionState) : Type 0 where
  pub keeps : IsSettled old → KeepsOrder went came old new
  pub shut : is_ended old.phase ≡ true → IsShut went came new
  pub settles : IsSettled old → IsSettled new

pub moves : (happening : Happening) (s : ConnectionState) → Moves (went_by happening s) (came_by happening s) s (after happening s)
moves happening s = record {
  keeps = λ settled. record { order = happens_in_order happening s; settled = stays_settled happening s settled };
  shut = shut_behind happening s;
  settles = stays_settled happening s;
}

pub stays : (s : ConnectionState) → Moves [] [] s s
stays s = record {
  keeps = λ settled. record { order = same_order s s refl; settled = settled };
  shut = λ is. record { none_went = refl; none_came = refl; still = is };
  settles = λ settled. settled;
}

-- one behind another
module _ (went went_then came came_then : List (List ℕ)) (old between new : ConnectionState)
    (first : Moves went came old between) (second : Moves went_then came_then between new) where
  shut_both : is_ended old.phase ≡ true → IsShut (went ++ went_then) (came ++ came_then) new
  shut_both is =
      let one = first.shut is in
      let two = second.shut one.still in
      record {
        none_went = ap (λ (all : List (List ℕ)). all ++ went_then) one.none_went ∙ two.none_went;
        none_came = ap (λ (all : List (List ℕ)). all ++ came_then) one.none_came ∙ two.none_came;
        still = two.still;
      }

  module _ (one : GoInOrder went came old between) (two : GoInOrder went_then came_then between new) where
    where_ended : is_ended between.phase ≡ true → GoInOrder (went ++ went_then) (came ++ came_then) old new
    where_ended is =
        let s = second.shut is in
        record {
          rest = one.rest;
          order =
              ap (λ (more : List (List ℕ)). (went ++ more) ++ one.rest) s.none_went
              ∙ ap (λ (all : List (List ℕ)). all ++ one.rest) (append-nil went)
              ∙ one.order
              ∙ ap (λ (all : List (List ℕ)). waiting_in old ++ all) (sym (append-nil came))
              ∙ ap (λ (more : List (List ℕ)). waiting_in old ++ (came ++ more)) (sym s.none_came);
          wait = λ on. (let still = s.still in absurd cc);
        }

    where_open : is_ended between.phase ≡ false → GoInOrder (went ++ went_then) (came ++ came_then) old new
    where_open is =
        record {
          rest = two.rest;
          order =
              append_assoc went went_then two.rest
              ∙ ap (λ (all : List (List ℕ)). went ++ all) two.order
              ∙ sym (append_assoc went (waiting_in between) came_then)
              ∙ ap (λ (rest : List (List ℕ)). (went ++ rest) ++ came_then) (sym (one.wait is))
              ∙ ap (λ (all : List (List ℕ)). all ++ came_then) one.order
              ∙ append_assoc (waiting_in old) came came_then;
          wait = two.wait;
        }

    by : (b : Bool) → is_ended between.phase ≡ b → GoInOrder (went ++ went_then) (came ++ came_then) old new
    by true is = where_ended is
    by false is = where_open is

  pub both : Moves (went ++ went_then) (came ++ came_then) old new
  both = record {
    keeps = λ settled.
        (let one = first.keeps settled in
        let two = second.keeps one.settled in
        record { order = by one.order two.order (is_ended between.phase) refl; settled = two.settled });
    shut = shut_both;
    settles = λ settled. second.settles (first.settles settled);
  }

all_moves : (happenings : List Happening) (s : ConnectionState) → Moves (went_in happenings s) (came_in happenings s) s (after_all happenings s)
all_moves [] s = stays s
all_moves (happening ∷ later) s =
    let t : ConnectionState = after happening s in
    both (went_by happening s) (went_in later t) (came_by happening s) (came_in later t) s t (after_all later t) (moves happening s) (all_moves later t)

pub commands_go_in_order : CommandsGoInOrder
commands_go_in_order = record {
  begins = λ on. refl;
  go = λ happenings s. (all_moves happenings s).keeps;
}
