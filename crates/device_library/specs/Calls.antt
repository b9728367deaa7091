-- What a call of a handle does.
use Rattle.std.specs.Prelude.{ℕ, Bool, true, false, ◌≡◌, ◌⊎◌, ◌==◌, List, Option, Some, None}
use Rattle.device_meaning.specs.State.{State}
use Rattle.device_library.specs.Asked.{Asked}
use Rattle.device_library.specs.Kept as kept
use Rattle.device_library.specs.Kinds.{nothing_of}
use Rattle.device_library.specs.Looping as looping
use Rattle.device_library.specs.Memory as memory
use Rattle.device_library.specs.Sessions.{KeepsAll}
use Rattle.device_library.specs.TargetAnswers as target
use Rattle.device_library.specs.declared.event.ReplyHead.{ReplyHead}
use Rattle.device_library.specs.declared.handle.Handle.{Handle}
use Rattle.device_library.specs.declared.handle.Session.{Session}
use Rattle.device_library.specs.declared.handle.Session.TheVariants as session
use Rattle.device_library.specs.declared.kept.Kept.{Kept}
use Rattle.device_library.specs.declared.looping.Serving.{Serving}
use Rattle.device_library.specs.declared.target.Target.{Target}

-- a session, and what lies in C's memory beside: what is told of a reply, and bytes
pub record Lent : Type 0 where
  pub session : Session
  pub reply : ReplyHead
  pub out : List ℕ

-- a device in memory answers
pub record MemoryAnswers (kind : ℕ) (asked : Asked) (device : State) (old new : Lent) (answer : ℕ) : Type 0 where
  pub left : State
  pub session_is : new.session ≡ session.Memory left
  pub answers : memory.AnswersTo kind asked (record { device = device; reply = old.reply; out = old.out })
      (record { device = left; reply = new.reply; out = new.out }) answer

-- a device in a file
pub record KeptAnswers (kind : ℕ) (asked : Asked) (k : Kept) (old new : Lent) (answer : ℕ) : Type 0 where
  pub left : Kept
  pub session_is : new.session ≡ session.Kept left
  pub reply : new.reply ≡ old.reply
  pub answers : kept.AnswersTo kind asked.count asked.piece (record { session = k; out = old.out })
      (record { session = left; out = new.out }) answer

-- a target
pub record TargetAnswers (kind : ℕ) (asked : Asked) (t : Target) (old new : Lent) (answer : ℕ) : Type 0 where
  pub left : Target
  pub session_is : new.session ≡ session.Target left
  pub reply : new.reply ≡ old.reply
  pub answers : target.AnswersTo kind asked (record { session = t; out = old.out })
      (record { session = left; out = new.out }) answer

-- a target that a loop serves
pub record LoopAnswers (kind : ℕ) (asked : Asked) (l : Serving) (old new : Lent) (answer : ℕ) : Type 0 where
  pub left : Serving
  pub session_is : new.session ≡ session.Loop left
  pub answers : looping.AnswersTo kind asked (record { serving = l; reply = old.reply; out = old.out })
      (record { serving = left; reply = new.reply; out = new.out }) answer

-- what is there answers
abbrev pub AnswersAs : Session → ℕ → Asked → Lent → Lent → ℕ → Type 0
AnswersAs (session.Memory device) kind asked old new answer = MemoryAnswers kind asked device old new answer
AnswersAs (session.Kept k) kind asked old new answer = KeptAnswers kind asked k old new answer
AnswersAs (session.Target t) kind asked old new answer = TargetAnswers kind asked t old new answer
AnswersAs (session.Loop l) kind asked old new answer = LoopAnswers kind asked l old new answer

-- all that a call may change
pub record Held : Type 0 where
  pub handle : Handle
  pub reply : ReplyHead
  pub out : List ℕ

-- nothing happens, and this is answered
pub record Tells (told : ℕ) (old new : Held) (answer : ℕ) : Type 0 where
  pub told_is : answer ≡ told
  pub same : new ≡ old

-- the session does what it is asked for
pub record IsDone (kind : ℕ) (asked : Asked) (s : Session) (old new : Held) (answer : ℕ) : Type 0 where
  pub left : Session
  pub handle : new.handle ≡ record old.handle { session = Some left }
  pub answers : AnswersAs s kind asked (record { session = s; reply = old.reply; out = old.out })
      (record { session = left; reply = new.reply; out = new.out }) answer

-- where there is one
abbrev pub CallsSession : Option Session → ℕ → Asked → Held → Held → ℕ → Type 0
CallsSession None kind asked old new answer = Tells (nothing_of kind) old new answer
CallsSession (Some s) kind asked old new answer = IsDone kind asked s old new answer

-- is it a target?
abbrev pub is_target : Option Session → Bool
is_target (Some (session.Target t)) = true
is_target (Some (session.Memory device)) = false
is_target (Some (session.Kept k)) = false
is_target (Some (session.Loop l)) = false
is_target None = false

-- a loop has begun to serve the target that it is
pub record ServesSession (s : Option Session) (l : Serving) : Type 0 where
  pub target : Target
  pub is : s ≡ Some (session.Target target)
  pub begun : looping.HasBegun target l

-- a loop serves the target from now on, and 1 is answered; or memory is wanting for it, or something waits for the disk: then there is
-- nothing any more, and 0 is answered
pub record BeginsLoop (t : Target) (old new : Held) (answer : ℕ) : Type 0 where
  pub left : Serving
  pub begun : looping.HasBegun t left
  pub rest : new ≡ record old { handle = record old.handle { session = Some (session.Loop left) } }
  pub told_is : answer ≡ 1

pub record LosesTarget (old new : Held) (answer : ℕ) : Type 0 where
  pub rest : new ≡ record old { handle = record old.handle { session = None } }
  pub told_is : answer ≡ 0

abbrev pub Begins : Option Session → Held → Held → ℕ → Type 0
Begins (Some (session.Target t)) old new answer = BeginsLoop t old new answer ⊎ LosesTarget old new answer
Begins _ old new answer = Tells 0 old new answer

abbrev pub BeginsOrCalls : Bool → ℕ → Asked → Held → Held → ℕ → Type 0
BeginsOrCalls true kind asked old new answer = Begins old.handle.session old new answer
BeginsOrCalls false kind asked old new answer = CallsSession old.handle.session kind asked old new answer

-- what opening came to is told of each handle
abbrev pub CallsBy : Bool → ℕ → Asked → Held → Held → ℕ → Type 0
CallsBy true kind asked old new answer = Tells old.handle.opened old new answer
CallsBy false kind asked old new answer = BeginsOrCalls (kind == 16) kind asked old new answer

-- a call by the number of its kind
abbrev pub Calls : ℕ → Asked → Held → Held → ℕ → Type 0
Calls kind asked old new answer = CallsBy (kind == 0) kind asked old new answer

-- and what stands between calls stands again
pub record Called (kind : ℕ) (asked : Asked) (old new : Held) (answer : ℕ) : Type 0 where
  pub calls : Calls kind asked old new answer
  pub kept : KeepsAll new.handle
