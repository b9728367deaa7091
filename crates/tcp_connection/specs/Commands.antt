-- The commands of a connection that have no completion yet.
use Rattle.std.specs.Prelude.{ℕ, Bool, ◌+◌, ◌==◌, ◌||◌, List, [], ◌∷◌, ◌++◌, length, Option, Some, None, is_some}
use Rattle.std.specs.List.{list_any, position, remove}
use Rattle.tcp_pdus.specs.Direction.{identifier_of}

-- a command that waits for its turn: its entry, the data in its capsule, and how many bytes the host is to send for an R2T
pub record WaitingCommand : Type 0 where
  pub entry : List ℕ
  pub «data» : List ℕ
  pub wanted : Option ℕ

-- the identifiers of those that are executed, and those that wait, in the order of their capsules
pub record CommandsState : Type 0 where
  pub running : List ℕ
  pub waiting : List WaitingCommand

abbrev pub none : CommandsState
none = record { running = []; waiting = [] }

abbrev pub count_of : CommandsState → ℕ
count_of c = length c.running + length c.waiting

-- where one that is executed has the identifier
abbrev pub place_of : ℕ → List ℕ → Option ℕ
place_of command running = position (λ it. it == command) running

abbrev pub is_running : ℕ → CommandsState → Bool
is_running command c = is_some (place_of command c.running)

-- one has it
abbrev pub has_command : ℕ → CommandsState → Bool
has_command command c = is_running command c || list_any (λ waiting. identifier_of waiting.entry == command) c.waiting

-- one more waits
abbrev pub waiting_with : WaitingCommand → CommandsState → CommandsState
waiting_with command c = record c { waiting = c.waiting ++ command ∷ [] }

-- the first of those that wait,
abbrev pub first_in : List WaitingCommand → Option WaitingCommand
first_in [] = None
first_in (first ∷ rest) = Some first

abbrev pub first_of : CommandsState → Option WaitingCommand
first_of c = first_in c.waiting

-- which is executed from now on
abbrev pub started_of : List ℕ → List WaitingCommand → CommandsState
started_of running [] = record { running = running; waiting = [] }
started_of running (first ∷ rest) = record { running = running ++ identifier_of first.entry ∷ []; waiting = rest }

abbrev pub started : CommandsState → CommandsState
started c = started_of c.running c.waiting

-- one that is executed goes
abbrev pub removed : Option ℕ → List ℕ → List ℕ
removed None running = running
removed (Some place) running = remove running place

abbrev pub without : ℕ → CommandsState → CommandsState
without command c = record c { running = removed (place_of command c.running) c.running }
