-- The commands that wait, as they are kept.
use Rattle.std.proofs.Common.{◌≡◌, ℕ, ◌<◌, ◌==◌, ◌||◌, Bool, suc, List, [], ◌∷◌, ◌++◌, length, drop, None, Some, refl, sym, ap, arith}
use Rattle.std.specs.Option.{option_map}
use Rattle.std.specs.List.{list_any}
use Rattle.tcp_pdus.specs.Direction.{identifier_of}
use Rattle.tcp_connection.specs.declared.waiting.KeptCommand.{KeptCommand}
use Rattle.tcp_connection.specs.Commands.{CommandsState, WaitingCommand, first_in, started_of}
use Rattle.tcp_connection.specs.steps.Commands.{waiting_as, waiting_of}

pub length_waiting : (ws : List KeptCommand) → length (waiting_of ws) ≡ length ws
length_waiting [] = refl
length_waiting (first ∷ rest) = ap suc (length_waiting rest)

pub any_waiting : (command : ℕ) (ws : List KeptCommand)
    → list_any (λ w. identifier_of w.entry == command) (waiting_of ws) ≡ list_any (λ it. identifier_of it.command.entry == command) ws
any_waiting command [] = refl
any_waiting command (first ∷ rest) =
    ap (λ (b : Bool). (identifier_of first.command.entry == command) || b) (any_waiting command rest)

pub waiting_more : (ws : List KeptCommand) (w : KeptCommand) → waiting_of (ws ++ w ∷ []) ≡ waiting_of ws ++ waiting_as w ∷ []
waiting_more [] w = refl
waiting_more (first ∷ rest) w = ap (λ (all : List WaitingCommand). waiting_as first ∷ all) (waiting_more rest w)

-- ---- the first starts

abbrev pub commands_of : List ℕ → List WaitingCommand → CommandsState
commands_of running waiting = record { running = running; waiting = waiting }

pub some_waits : (waiting : List WaitingCommand) (command : ℕ)
    → option_map (λ it. identifier_of it.entry) (first_in waiting) ≡ Some command → 0 < length waiting
some_waits [] command some = absurd cc
some_waits (first ∷ rest) command some = omega arith

pub started_is : (running : List ℕ) (waiting : List WaitingCommand) (command : ℕ)
    → option_map (λ it. identifier_of it.entry) (first_in waiting) ≡ Some command
    → commands_of (running ++ command ∷ []) (drop 1 waiting) ≡ started_of running waiting
started_is running [] command some = absurd cc
started_is running (first ∷ rest) command some =
    let same : identifier_of first.entry ≡ command = cc in
    ap (λ (it : ℕ). commands_of (running ++ it ∷ []) rest) (sym same)

pub none_started : (running : List ℕ) (waiting : List WaitingCommand)
    → option_map (λ it. identifier_of it.entry) (first_in waiting) ≡ None
    → commands_of running (drop 1 waiting) ≡ started_of running waiting
none_started running [] none = refl
none_started running (first ∷ rest) none = absurd cc
