-- A target that a loop serves, as C asks it.
use Rattle.std.specs.Prelude.{ℕ, ◌≡◌, ◌==◌, Bool, true, false, List, [], ◌∷◌, drop, if◌then◌else◌, length, Option, Some, None}
use Rattle.stored_file.specs.Calls as calls
use Rattle.tcp_device.specs.State.{ServedState}
use Rattle.tcp_loop.specs.Deeds.{Meaning}
use Rattle.tcp_loop.specs.Holding.{Carries, Holds, Makes}
use Rattle.tcp_loop.specs.Keeping.{KeptState}
use Rattle.tcp_loop.specs.Kept.{phase_of}
use Rattle.tcp_loop.specs.Stages.{IsReady, operation_of}
use Rattle.tcp_loop.specs.declared.clock.Clock.{Clock}
use Rattle.tcp_loop.specs.declared.news.Level.{Level}
use Rattle.tcp_loop.specs.declared.news.Level.TheVariants as level
use Rattle.tcp_loop.specs.declared.stage.Stage.{Stage}
use Rattle.device_library.specs.OperationAnswers.{answer_in, came_in}
use Rattle.device_library.specs.Operations.{head_of, reads_of, writes_of}
use Rattle.device_library.specs.declared.operation_head.OperationHead.{OperationHead}
use Rattle.device_library.specs.Asked.{Asked}
use Rattle.device_library.specs.Bytes.{IsFront}
use Rattle.device_library.specs.declared.event.ReplyHead.{ReplyHead}
use Rattle.device_library.specs.declared.kind.LoopKind.{LoopKind}
use Rattle.device_library.specs.declared.kind.LoopKind.TheVariants as kind
use Rattle.device_library.specs.Kinds.{loop_kind, nothing_of}
use Rattle.device_library.specs.declared.looping.Serving.{Serving}
use Rattle.device_library.specs.declared.looping.Serving.TheVariants as serving
use Rattle.device_library.specs.declared.target.Target.{Target}
use Rattle.durable_machine.specs.declared.in_file.InFile.{InFile}
use Rattle.handed_file.specs.Handed.{made_calls}
use Rattle.handed_file.specs.declared.handed_file.HandedFile.{HandedFile}
use Rattle.tcp_device.specs.declared.keeper.Keeper.{Keeper}
use Rattle.tcp_target.specs.Queues.{free_number}
use Rattle.tcp_device.specs.FileCalls.{keeping_of}
use Rattle.tcp_device.specs.LoopMeaning.{in_memory, kept_in_file}

-- how much is told, by number
abbrev pub level_of : ℕ → Level
level_of number = if number == 0 then level.Failures else if number == 1 then level.Connections else level.Commands

-- ---- a loop

-- what is known of one between two steps
pub record LoopNow (State : Type 0) : Type 0 where
  pub stage : Stage
  pub now : KeptState State
  pub waiting : List (List ℕ)
  pub clock : Clock

-- it, and what lies in C's memory beside: what is told of an operation, and bytes
pub record LoopLent (State : Type 0) : Type 0 where
  pub asked : LoopNow State
  pub reply : ReplyHead
  pub out : List ℕ

-- an operation in what C has for replies: which it is, its number, and whether something is so
abbrev pub flag_byte : Bool → ℕ
flag_byte true = 1
flag_byte false = 0

abbrev pub reply_of : OperationHead → ReplyHead
reply_of h = record {
  length = h.number;
  number = h.kind;
  completion = flag_byte h.flag ∷ 0 ∷ 0 ∷ 0 ∷ 0 ∷ 0 ∷ 0 ∷ 0 ∷ 0 ∷ 0 ∷ 0 ∷ 0 ∷ 0 ∷ 0 ∷ 0 ∷ 0 ∷ [];
}

module _ {State : Type 0} (m : Meaning State) (free : State → Option ℕ) where
  -- its operation may be made
  abbrev pub Stands : LoopNow State → Type 0
  Stands l = IsReady l.stage l.waiting (free l.now.state)

  -- the operation is told, and how many bytes it carries
  pub record TellsOperation (old new : LoopLent State) (answer : ℕ) : Type 0 where
    pub reply : new.reply ≡ reply_of (head_of (operation_of old.asked.stage))
    pub bytes : List ℕ
    pub carries : Carries m old.asked.stage old.asked.now bytes
    pub counted : answer ≡ length bytes
    pub same : new.asked ≡ old.asked
    pub out : new.out ≡ old.out

  -- as many of these bytes as there is room for are given
  pub record Gives (bytes : List ℕ) (old new : LoopLent State) (answer : ℕ) : Type 0 where
    pub gives : IsFront bytes old.out new.out answer
    pub same : new.asked ≡ old.asked
    pub reply : new.reply ≡ old.reply

  -- those that it carries, from one on
  pub record GivesCarried (from : ℕ) (old new : LoopLent State) (answer : ℕ) : Type 0 where
    pub bytes : List ℕ
    pub carries : Carries m old.asked.stage old.asked.now bytes
    pub gives : Gives (drop from bytes) old new answer

  -- the operation is made, and this came of it, whatever bytes it carried: what held of the loop holds of what was made by then
  pub record Steps (asked : Asked) (old new : LoopLent State) (answer : ℕ) : Type 0 where
    pub made : (carried : List ℕ) → Carries m old.asked.stage old.asked.now carried
        → Makes m (record {
          asked = operation_of old.asked.stage;
          carried = carried;
          answer = answer_in (record { kind = asked.number; number = asked.count; piece = asked.piece; beside = asked.beside });
          came = came_in (record { kind = asked.number; number = asked.count; piece = asked.piece; beside = asked.beside });
        })
        (phase_of old.asked.stage) old.asked.now old.asked.waiting old.asked.clock
        (phase_of new.asked.stage) new.asked.now new.asked.waiting new.asked.clock
    pub told_is : answer ≡ 0
    pub reply : new.reply ≡ old.reply
    pub out : new.out ≡ old.out

  abbrev pub Answers : LoopKind → Asked → LoopLent State → LoopLent State → ℕ → Type 0
  Answers kind.Operation asked old new answer = TellsOperation old new answer
  Answers kind.Reads asked old new answer = Gives (reads_of (operation_of old.asked.stage)) old new answer
  Answers kind.Writes asked old new answer = Gives (writes_of (operation_of old.asked.stage)) old new answer
  Answers kind.Carried asked old new answer = GivesCarried asked.count old new answer
  Answers kind.Step asked old new answer = Steps asked old new answer

  -- a loop begins, in a state and of a file that was opened by some calls: nothing was made yet, and what holds from then on holds
  pub record Begins (opened : List calls.Call) (begun : State) (l : LoopNow State) : Type 0 where
    pub stands : Stands l
    pub holds : Holds m opened begun [] (phase_of l.stage) l.now l.waiting l.clock

-- ---- a target that one serves

-- the number that the next connection gets
abbrev pub free_of : ServedState → Option ℕ
free_of s = free_number s.target.queues

-- its loop, between two steps
abbrev pub now_of : Serving → LoopNow ServedState
now_of (serving.Durable l) = record { stage = l.stage; now = l.target; waiting = l.incoming.items; clock = l.clock }
now_of (serving.Memory l) = record {
  stage = l.stage;
  now = record { state = l.target.served; file = keeping_of l.target.file };
  waiting = l.incoming.items;
  clock = l.clock;
}

-- is the device kept in a file?
abbrev pub is_kept : Serving → Bool
is_kept (serving.Durable l) = true
is_kept (serving.Memory l) = false

abbrev pub meaning_of : Bool → Meaning ServedState
meaning_of true = kept_in_file
meaning_of false = in_memory

-- its operation may be made
abbrev pub IsStanding : Serving → Type 0
IsStanding s = Stands (meaning_of (is_kept s)) free_of (now_of s)

-- a loop serves a target from now on, whose device is kept in a file, of which each call was told as done,
pub record BeginsInFile (file : HandedFile) (served : ServedState) (s : Serving) : Type 0 where
  pub kept : is_kept s ≡ true
  pub begins : Begins kept_in_file free_of (made_calls file) served (now_of s)

-- or is in memory
pub record BeginsInMemory (served : ServedState) (s : Serving) : Type 0 where
  pub kept : is_kept s ≡ false
  pub opened : List calls.Call
  pub begins : Begins in_memory free_of opened served (now_of s)

abbrev pub BeginsWith : Option (Keeper (InFile HandedFile)) → ServedState → Serving → Type 0
BeginsWith (Some keeper) served s = BeginsInFile keeper.events.journal.file served s
BeginsWith None served s = BeginsInMemory served s

abbrev pub HasBegun : Target → Serving → Type 0
HasBegun t s = BeginsWith t.keeper t.served s

-- ---- what it answers

-- it, and what lies in C's memory beside
pub record ServingLent : Type 0 where
  pub serving : Serving
  pub reply : ReplyHead
  pub out : List ℕ

abbrev pub lent_of : ServingLent → LoopLent ServedState
lent_of l = record { asked = now_of l.serving; reply = l.reply; out = l.out }

-- the loop answers, and its device is kept where it was
pub record AnswersBy (k : LoopKind) (asked : Asked) (old new : ServingLent) (answer : ℕ) : Type 0 where
  pub kept : is_kept new.serving ≡ is_kept old.serving
  pub answers : Answers (meaning_of (is_kept old.serving)) free_of k asked (lent_of old) (lent_of new) answer

-- where the kind is known
pub record TellsNothing (told : ℕ) (old new : ServingLent) (answer : ℕ) : Type 0 where
  pub told_is : answer ≡ told
  pub same : new ≡ old

abbrev pub AnswersIfKnown : Option LoopKind → ℕ → Asked → ServingLent → ServingLent → ℕ → Type 0
AnswersIfKnown (Some k) number asked old new answer = AnswersBy k asked old new answer
AnswersIfKnown None number asked old new answer = TellsNothing (nothing_of number) old new answer

-- what a number of a kind comes to
abbrev pub AnswersTo : ℕ → Asked → ServingLent → ServingLent → ℕ → Type 0
AnswersTo number asked old new answer = AnswersIfKnown (loop_kind number) number asked old new answer
