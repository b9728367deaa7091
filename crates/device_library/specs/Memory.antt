-- What a device in memory does, and answers, by what it is asked for.
use Rattle.std.specs.Prelude.{ℕ, ◌≡◌, Option, Some, None}
use Rattle.image_text.specs.Text.{text}
use Rattle.device_meaning.specs.Draining.{lowest_run}
use Rattle.device_meaning.specs.State.{State}
use Rattle.device_library.specs.Asked.{Asked}
use Rattle.device_library.specs.Bytes.{SavesText}
use Rattle.device_library.specs.Events.{DoesEvent, IsTold, MemoryLent, event_of}
use Rattle.device_library.specs.Kinds.{memory_kind, nothing_of}
use Rattle.device_library.specs.Turns.{DoesTurns, turns_of}
use Rattle.device_library.specs.declared.kind.MemoryKind.{MemoryKind}
use Rattle.device_library.specs.declared.kind.MemoryKind.TheVariants as kind
use Rattle.device_library.specs.declared.numbers.TheConstants.{NO_RUN}

-- the number of a run where there is one
abbrev pub run_number : Option ℕ → ℕ
run_number (Some run) = run
run_number None = NO_RUN

-- the number of the lowest active run
abbrev pub lowest_number : State → ℕ
lowest_number device = run_number (lowest_run device)

-- the text of the device's image is saved as it is now, or not, and nothing happens to the device
pub record Saves (old new : MemoryLent) (answer : ℕ) : Type 0 where
  pub saves : SavesText (text old.device.namespace) old.out new.out answer
  pub rest : new ≡ record old { out = new.out }

-- what a kind comes to
abbrev pub Answers : MemoryKind → Asked → MemoryLent → MemoryLent → ℕ → Type 0
Answers kind.Event asked old new answer = DoesEvent (event_of asked) old new answer
Answers kind.LowestRun asked old new answer = IsTold (lowest_number old.device) old new answer
Answers kind.Save asked old new answer = Saves old new answer
Answers kind.Turns asked old new answer = DoesTurns (turns_of asked) old new answer

-- where it is known
abbrev pub AnswersIfKnown : Option MemoryKind → ℕ → Asked → MemoryLent → MemoryLent → ℕ → Type 0
AnswersIfKnown (Some kind) number asked old new answer = Answers kind asked old new answer
AnswersIfKnown None number asked old new answer = IsTold (nothing_of number) old new answer

-- what a number of a kind comes to
abbrev pub AnswersTo : ℕ → Asked → MemoryLent → MemoryLent → ℕ → Type 0
AnswersTo number asked old new answer = AnswersIfKnown (memory_kind number) number asked old new answer
