-- What a target does, and answers, by what it is asked for, until a loop serves it.
use Rattle.std.specs.Prelude.{ℕ, Bool, true, false, ◌≡◌, List, Option, Some, None}
use Rattle.handed_file.specs.Handed.{waiting}
use Rattle.handed_file.specs.declared.handed_file.HandedFile.{HandedFile}
use Rattle.device_library.specs.declared.kind.Question.{Question}
use Rattle.device_library.specs.declared.kind.TargetKind.{TargetKind}
use Rattle.device_library.specs.declared.kind.TargetKind.TheVariants as kind
use Rattle.durable_machine.specs.declared.in_file.InFile.{InFile}
use Rattle.tcp_device.specs.declared.keeper.Keeper.{Keeper}
use Rattle.device_library.specs.Asked.{Asked}
use Rattle.device_library.specs.Bytes.{IsFront}
use Rattle.device_library.specs.Files.{TellsNext, next_of}
use Rattle.device_library.specs.Kinds.{nothing_of, target_kind}
use Rattle.device_library.specs.Target.{IsNamed, TakesDone, TakesFailed}
use Rattle.device_library.specs.declared.target.Target.{Target}

-- a target, and C's memory for bytes that it gives
pub record TargetLent : Type 0 where
  pub session : Target
  pub out : List ℕ

-- 1 for yes, 0 for no
abbrev pub as_number : Bool → ℕ
as_number true = 1
as_number false = 0

-- it has the names of a UUID from now on, or keeps those that it had, and that is answered
pub record Names (uuid : List ℕ) (old new : TargetLent) (answer : ℕ) : Type 0 where
  pub told : Bool
  pub named : IsNamed uuid old.session new.session told
  pub told_is : answer ≡ as_number told
  pub out : new.out ≡ old.out

-- a call for the file is taken for made, or for failed, and 0 is answered
pub record Notes (Do : Target → Target → Type 0) (old new : TargetLent) (answer : ℕ) : Type 0 where
  pub does : Do old.session new.session
  pub told_is : answer ≡ 0
  pub out : new.out ≡ old.out

-- this is answered, and nothing happens
pub record Told (told : ℕ) (old new : TargetLent) (answer : ℕ) : Type 0 where
  pub told_is : answer ≡ told
  pub same : new ≡ old

-- as many of these bytes as there is room for are put in front, and how many they are is answered; nothing happens to the target
pub record Gave (bytes : List ℕ) (old new : TargetLent) (answer : ℕ) : Type 0 where
  pub gave : IsFront bytes old.out new.out answer
  pub same : new.session ≡ old.session

-- C is told of the next call for the file, of a device in memory alone that there is none, and nothing happens
abbrev pub TellsIn : Option (Keeper (InFile HandedFile)) → Question → Bool → ℕ → List ℕ → List ℕ → ℕ → Type 0
TellsIn None question failed from before after answer = (answer ≡ 0) × (after ≡ before)
TellsIn (Some k) question failed from before after answer =
    TellsNext question (next_of failed (waiting k.events.journal.file)) from before after answer

pub record Asks (question : Question) (from : ℕ) (old new : TargetLent) (answer : ℕ) : Type 0 where
  pub told : TellsIn old.session.keeper question old.session.failed from old.out new.out answer
  pub same : new.session ≡ old.session

-- ---- kinds

-- what a kind comes to
abbrev pub Answers : TargetKind → Asked → TargetLent → TargetLent → ℕ → Type 0
Answers (kind.Ask question) asked old new answer = Asks question asked.count old new answer
Answers kind.Done asked old new answer = Notes TakesDone old new answer
Answers kind.Failed asked old new answer = Notes TakesFailed old new answer
Answers kind.Name asked old new answer = Names asked.piece old new answer
Answers kind.Nqn asked old new answer = Gave old.session.served.target.subsystem.nqn old new answer

-- where it is known
abbrev pub AnswersIfKnown : Option TargetKind → ℕ → Asked → TargetLent → TargetLent → ℕ → Type 0
AnswersIfKnown (Some kind) number asked old new answer = Answers kind asked old new answer
AnswersIfKnown None number asked old new answer = Told (nothing_of number) old new answer

-- what a number of a kind comes to
abbrev pub AnswersTo : ℕ → Asked → TargetLent → TargetLent → ℕ → Type 0
AnswersTo number asked old new answer = AnswersIfKnown (target_kind number) number asked old new answer
