-- The commands of a command file that the device refused, of which `exec` tells (profile).
use Rattle.std.specs.Prelude.{◌≡◌, ◌==◌, ◌-◌, ◌/◌, ◌%◌, ◌^◌, ℕ, min, Bool, true, false, not, bytes_eq, codes, count_by, List, [], ◌∷◌, ◌++◌, get_or, length, position, Option, Some, option_map}
use Rattle.device_events.specs.CompletionEntries.{tells_success}
use Rattle.device_events.specs.Replies.{ReplyWithData}
use Rattle.device_events.specs.declared.reply.Reply.{Reply}
use Rattle.device_events.specs.declared.reply.Reply.TheVariants.{Complete}
use Rattle.clap.specs.declared.parser.matches.ArgMatches.{ArgMatches}
use Rattle.command_files.specs.Arguments.{value_of}
use Rattle.command_files.specs.declared.failure.Failure.{Failure}
use Rattle.command_files.specs.declared.failure.Failure.TheVariants.{CommandsRefused}
use Rattle.command_exec.specs.declared.fail.Refused.{Refused}
use Rattle.command_exec.specs.declared.fail.TheConstants.{FAIL, STOP}

-- refused commands are to be a failure
abbrev pub asks_fail : ArgMatches → Bool
asks_fail matches = bytes_eq (value_of matches FAIL.now) (codes "true")

-- the first refused command is to end the work, which is a failure
abbrev pub asks_stop : ArgMatches → Bool
asks_stop matches = bytes_eq (value_of matches STOP.now) (codes "true")

-- a reply is the completion of a command that was refused
abbrev pub tells_refusal : Reply → Bool
tells_refusal (Complete queue entry length) = not (tells_success entry)
tells_refusal _ = false

-- the same of one with its data
abbrev pub is_refusal : ReplyWithData → Bool
is_refusal given = tells_refusal given.reply

-- none of these replies is
abbrev pub NoneRefused : List ReplyWithData → Type 0
NoneRefused replies = count_by is_refusal replies ≡ 0

-- the last of them is, and none before it
pub record EndsRefused (replies : List ReplyWithData) : Type 0 where
  pub before : List ReplyWithData
  pub last : ReplyWithData
  pub are : replies ≡ before ++ last ∷ []
  pub none_before : NoneRefused before
  pub refused : is_refusal last ≡ true

-- the line of the event of which the reply has so many in front of it; of a turn behind all events, the last line
abbrev pub line_at : List ℕ → ℕ → ℕ
line_at numbers before = get_or numbers (min before (length numbers - 1)) 0

-- what is told of the refused commands of these replies, where their events have these lines: how many they are, and the line of the
-- first; nothing, where none was refused
abbrev pub refused_among : List ℕ → List ReplyWithData → Option Refused
refused_among numbers replies = option_map
    (λ before. record { commands = min (count_by is_refusal replies) (2 ^ 64 - 1); line = line_at numbers before })
    (position is_refusal replies)

-- the failure tells these commands, and the command file by its name
abbrev pub TellsRefused : List ℕ → Option Refused → Failure → Type 0
TellsRefused path (Some refused) (CommandsRefused told line commands) =
    (told.now ≡ path) × (line ≡ refused.line) × (commands ≡ refused.commands)
TellsRefused path _ _ = ⊥
