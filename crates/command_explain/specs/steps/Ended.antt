-- The guard of a program that ended a run, as the answer of a result says (profile).
use Rattle.std.specs.Prelude.{ℕ, ◌==◌, ◌&&◌, Bool, true, false, List, length, drop, find, Option, Some, None, option_and_then, option_map, if◌then◌else◌}
use Rattle.nvme_entry.specs.declared.command.Command.{Command}
use Rattle.nvme_entry.specs.declared.command.Command.TheVariants as command
use Rattle.link_notes.specs.Ended.{ended_of}
use Rattle.link_notes.specs.declared.ended.Ended.{Ended}
use Rattle.link_notes.specs.declared.notes.GuardNote.{GuardNote}
use Rattle.link_notes.specs.declared.notes.LinkNotes.{LinkNotes}
use Rattle.command_explain.specs.declared.completion_words.Answered.{Answered}
use Rattle.command_explain.specs.declared.completion_words.Answered.TheVariants as answered
use Rattle.command_explain.specs.declared.ended.EndedAt.{EndedAt}

abbrev pub is_result : Option Command → Bool
is_result (Some (command.Result result)) = true
is_result _ = false

-- as far as its command is known, a completion may be that of a result
abbrev pub may_be_result : Answered → Bool
may_be_result (answered.Taken taken) = is_result taken.command
may_be_result _ = true

-- a guard has the number and the slot that a run left in its scratch
abbrev pub is_guard_of : Ended → GuardNote → Bool
is_guard_of ended guard = guard.number == ended.number && guard.slot == ended.slot

-- the guard that the scratch of a run names, which is all of the data, of those in notes
abbrev pub ended_at : LinkNotes → List ℕ → ℕ → Option EndedAt
ended_at notes scratch at = option_and_then
    (λ ended. option_map (λ guard. record { ended = ended; guard = guard }) (find (is_guard_of ended) notes.guards.items))
    (ended_of (drop at scratch))

abbrev pub ended_guard : Bool → LinkNotes → List ℕ → Option EndedAt
ended_guard may notes scratch =
    if length scratch == 1024 && may then option_and_then (ended_at notes scratch) notes.guard_at else None
