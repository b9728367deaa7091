-- The command that is ready, and the one whose data is asked for, by what is kept of those that wait.
use Rattle.std.proofs.Common.{◌≡◌, ℕ, true, false, cond, List, [], ◌∷◌, Option, None, Some, is_some, unwrap_or, refl, sym, ap, ◌∙◌}
use Rattle.std.specs.Option.{option_map}
use Rattle.std.specs.Prelude.{find}
use Rattle.tcp_pdus.specs.Direction.{identifier_of}
use Rattle.tcp_connection.specs.Receiving.{ReceiverState, forgetting}
use Rattle.tcp_connection.specs.Transfers.{Transfer, data_of_command}
use Rattle.tcp_connection.specs.declared.waiting.KeptCommand.{KeptCommand}
use Rattle.tcp_connection.specs.declared.waiting.WaitingEntry.{WaitingEntry}
use Rattle.tcp_connection.specs.declared.state.ConnectionState.{ConnectionState}
use Rattle.tcp_connection.specs.Commands.{CommandsState, WaitingCommand, first_of, started}
use Rattle.tcp_connection.specs.Dealing.{asked, asked_for, is_unasked}
use Rattle.tcp_connection.specs.Executing.{Execution, data_for, data_of, execution_of, first_ready, let_go, with_started}
use Rattle.tcp_connection.specs.steps.Commands.{data_in, entry_of, entry_once_come, has_come, is_unasked_entry, waiting_as, waiting_of}

same_entry : (command : WaitingCommand) (first : WaitingEntry) → ◌≡◌ {A = Option WaitingEntry} (Some (entry_of command)) (Some first)
    → entry_of command ≡ first
same_entry command first is = cc

-- ---- the first that waits

entry_when : (entry : List ℕ) (o : Option (List ℕ))
    → cond {A = Option (List ℕ)} (is_some o) (Some entry) None ≡ option_map (λ execution. execution.entry) (execution_of entry o)
entry_when entry None = refl
entry_when entry (Some bytes) = refl

entry_by : (command : WaitingCommand) (transfers : List (Option Transfer)) (wanted : Option ℕ)
    → cond {A = Option (List ℕ)} (has_come (identifier_of command.entry) transfers wanted) (Some command.entry) None
    ≡ option_map (λ execution. execution.entry) (execution_of command.entry (data_for wanted command transfers))
entry_by command transfers None = refl
entry_by command transfers (Some wanted) =
    entry_when command.entry (data_of_command (identifier_of command.entry) transfers)

-- its entry
pub ready_some : (o : Option WaitingCommand) (first : WaitingEntry) (transfers : List (Option Transfer)) → option_map entry_of o ≡ Some first
    → entry_once_come first transfers ≡ option_map (λ execution. execution.entry) (first_ready o transfers)
ready_some None first transfers is = absurd cc
ready_some (Some command) first transfers is =
    ap (λ (it : WaitingEntry). entry_once_come it transfers) (sym (same_entry command first is)) ∙ entry_by command transfers command.wanted

pub ready_none : (o : Option WaitingCommand) (transfers : List (Option Transfer)) → option_map entry_of o ≡ None
    → ◌≡◌ {A = Option (List ℕ)} None (option_map (λ execution. execution.entry) (first_ready o transfers))
ready_none None transfers is = refl
ready_none (Some command) transfers is = absurd cc

-- its data
data_when : (entry : List ℕ) (o : Option (List ℕ)) → unwrap_or o [] ≡ data_of (execution_of entry o)
data_when entry None = refl
data_when entry (Some bytes) = refl

pub data_by_r2t : (o : Option WaitingCommand) (first : WaitingEntry) (wanted : ℕ) (transfers : List (Option Transfer))
    → option_map entry_of o ≡ Some first → first.wanted ≡ Some wanted
    → unwrap_or (data_of_command (identifier_of first.entry) transfers) [] ≡ data_of (first_ready o transfers)
data_by_r2t None first wanted transfers is some = absurd cc
data_by_r2t (Some command) first wanted transfers is some =
    let same : entry_of command ≡ first = same_entry command first is in
    let wants : command.wanted ≡ Some wanted = ap (λ (it : WaitingEntry). it.wanted) same ∙ some in
    ap (λ (it : WaitingEntry). unwrap_or (data_of_command (identifier_of it.entry) transfers) []) (sym same)
    ∙ data_when command.entry (data_of_command (identifier_of command.entry) transfers)
    ∙ sym (ap (λ (it : Option ℕ). data_of (execution_of command.entry (data_for it command transfers))) wants)

pub data_in_capsule : (o : Option WaitingCommand) (first : WaitingEntry) (transfers : List (Option Transfer))
    → option_map entry_of o ≡ Some first → first.wanted ≡ None → data_in o ≡ data_of (first_ready o transfers)
data_in_capsule None first transfers is none = absurd cc
data_in_capsule (Some command) first transfers is none =
    let wants : command.wanted ≡ None = ap (λ (it : WaitingEntry). it.wanted) (same_entry command first is) ∙ none in
    sym (ap (λ (it : Option ℕ). data_of (execution_of command.entry (data_for it command transfers))) wants)

pub no_data : (o : Option WaitingCommand) (transfers : List (Option Transfer)) → option_map entry_of o ≡ None
    → ◌≡◌ {A = List ℕ} [] (data_of (first_ready o transfers))
no_data None transfers is = refl
no_data (Some command) transfers is = absurd cc

-- its R2T goes with it
pub let_go_some : (o : Option WaitingCommand) (first : WaitingEntry) (r : ReceiverState) → option_map entry_of o ≡ Some first
    → forgetting (identifier_of first.entry) r ≡ let_go o r
let_go_some None first r is = absurd cc
let_go_some (Some command) first r is =
    ap (λ (it : WaitingEntry). forgetting (identifier_of it.entry) r) (sym (same_entry command first is))

pub let_go_none : (o : Option WaitingCommand) (r : ReceiverState) → option_map entry_of o ≡ None → r ≡ let_go o r
let_go_none None r is = refl
let_go_none (Some command) r is = absurd cc

pub started_with : (s : ConnectionState) (r : ReceiverState) (commands : CommandsState) → r ≡ let_go (first_of s.commands) s.receiver
    → commands ≡ started s.commands → record s { receiver = r; commands = commands } ≡ with_started s
started_with s r commands same_receiver same_commands =
    ap (λ (it : ReceiverState). record s { receiver = it; commands = commands }) same_receiver
    ∙ ap (λ (it : CommandsState). record s { receiver = let_go (first_of s.commands) s.receiver; commands = it }) same_commands

-- ---- the one whose data is asked for

pub asked_some : (tag : ℕ) (o : Option WaitingCommand) (next : WaitingEntry) (t : ConnectionState) → option_map entry_of o ≡ Some next
    → asked tag (identifier_of next.entry) next.wanted t ≡ asked_for tag o t
asked_some tag None next t is = absurd cc
asked_some tag (Some command) next t is =
    ap (λ (it : WaitingEntry). asked tag (identifier_of it.entry) it.wanted t) (sym (same_entry command next is))

pub asked_none : (tag : ℕ) (o : Option WaitingCommand) (t : ConnectionState) → option_map entry_of o ≡ None
    → ◌≡◌ {A = ConnectionState × List ℕ} (t, []) (asked_for tag o t)
asked_none tag None t is = refl
asked_none tag (Some command) t is = absurd cc

pub found_unasked : (transfers : List (Option Transfer)) (ws : List KeptCommand)
    → option_map (λ (it : KeptCommand). it.command) (find (λ it. is_unasked_entry transfers it.command) ws)
    ≡ option_map entry_of (find (λ command. is_unasked transfers command) (waiting_of ws))
found_unasked transfers [] = refl
found_unasked transfers (first ∷ rest) =
    elim (is_unasked_entry transfers first.command) as (λ b.
    option_map (λ (it : KeptCommand). it.command) (cond b (Some first) (find (λ it. is_unasked_entry transfers it.command) rest))
    ≡ option_map entry_of (cond b (Some (waiting_as first)) (find (λ command. is_unasked transfers command) (waiting_of rest)))) [
      | true ↦ refl
      | false ↦ found_unasked transfers rest
    ]
