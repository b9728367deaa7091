-- The law of a loop: what holds of its operations at every moment, whatever came of them.
use Rattle.std.specs.Prelude.{ℕ, zero, suc, ◌≡◌, ◌<◌, Bool, true, false, List, [], ◌∷◌, ◌++◌}
use Rattle.stored_file.specs.File.{MayLeave}
use Rattle.stored_file.specs.Calls.{Call, told_of}
use Rattle.tcp_loop.specs.Trace.{Trace}
use Rattle.tcp_loop.specs.Sockets.{came_on, life_on, written_on}
use Rattle.tcp_loop.specs.Disk.{calls_of}
use Rattle.tcp_loop.specs.Deeds.{AreDone, Deed, Meaning, Sent, life_of, received_on, sent_on}
use Rattle.tcp_loop.specs.Attended.{IsAttended}
use Rattle.tcp_loop.specs.Times.{TicksAreTime}

abbrev pub sends : Deed → Bool
sends (Sent number count) = true
sends deed = false

-- none of the last so many deeds sent something
abbrev pub AreUnanswered : ℕ → List Deed → Type 0
AreUnanswered zero deeds = Unit {0}
AreUnanswered (suc n) [] = Unit {0}
AreUnanswered (suc n) (deed ∷ deeds) = (sends deed ≡ false) × AreUnanswered n deeds

-- these bytes are the first of those
abbrev pub IsFrontOf : List ℕ → List ℕ → Type 0
IsFrontOf first all = (rest : List ℕ) × (all ≡ first ++ rest)

module _ {State : Type 0} (m : Meaning State) where
  -- the state before the last so many of some deeds
  abbrev pub state_before : ℕ → (deeds : List Deed) (old new : State) → AreDone m deeds old new → State
  state_before zero deeds old new done = new
  state_before (suc n) [] old new done = old
  state_before (suc n) (deed ∷ deeds) old new done = state_before n deeds old done.between done.first

  -- a file stands for the state before the last of some deeds, none of which sent something: so it has all that was answered
  pub record HasAnswered (c : List ℕ) (deeds : List Deed) (old new : State) (done : AreDone m deeds old new) : Type 0 where
    pub missing : ℕ
    pub unanswered : AreUnanswered missing deeds
    pub stands : m.stands_for c (state_before missing deeds old new done)

  -- what was done by the moment at which a trace ends, of a target whose file was opened by these calls
  pub record IsExplained (opened : List Call) (old : State) (trace : Trace) : Type 0 where
    pub deeds : List Deed
    pub new : State
    pub done : AreDone m deeds old new
    -- on each connection the target received the first of the bytes that came on it,
    pub received : (place : ℕ) → place < 40 → IsFrontOf (received_on place deeds) (came_on place trace)
    -- and just those bytes were written that it had to send on it, in order
    pub written : (place : ℕ) → place < 40 → written_on place trace ≡ sent_on m place deeds old new done
    -- it had a connection just where there was one: one that was closed has left its place
    pub lives : (place : ℕ) → place < 40 → life_on place trace ≡ life_of place deeds
    -- a crash leaves a file that has all that was answered
    pub left : (c : List ℕ) → MayLeave (told_of m.may_be_left (calls_of opened trace)) c → HasAnswered c deeds old new done
    -- each wait ended a round in which a run was given a turn, and each connection was attended to
    pub attended : IsAttended trace deeds
    -- and the target was let count the time for which hosts might have been heard
    pub timed : TicksAreTime trace deeds
