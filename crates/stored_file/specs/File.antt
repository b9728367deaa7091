-- What is known of a file on a disk that may stop at any moment.
use Rattle.std.specs.Prelude.{◌≡◌, ◌⊎◌, ℕ, Bool, ◌+◌, ◌%◌, ◌≤◌, max, min, List, [], ◌∷◌, ◌++◌, length, take, drop}

-- a call, and whether the system answered that it is done
pub data Call : Type 0 where
  -- the file was opened, and these bytes were read
  Opened : (bytes : List ℕ) → Call
  -- bytes were written at an offset
  Written : (at : ℕ) (bytes : List ℕ) (done : Bool) → Call
  -- bytes that were read at an offset were written there again
  Renewed : (at : ℕ) (bytes : List ℕ) (done : Bool) → Call
  -- the length was set
  Shortened : (len : ℕ) (done : Bool) → Call
  -- all that was written was brought to the disk
  Synced : (done : Bool) → Call
  -- a new file of these bytes, all on the disk, took the file's place
  Replaced : (bytes : List ℕ) (done : Bool) → Call
  -- there was no room for a new file, and nothing has changed
  NotReplaced : Call
  -- the call wasn't made
  Refused : Call

-- a file at one moment
pub record FileState : Type 1 where
  -- the bytes that a read returns
  pub seen : List ℕ
  -- the moment, a number that doesn't fall
  pub moment : ℕ
  -- what a crash at a moment might have left, of those since this one, during a call or between two
  pub left_since : ℕ → List ℕ → Type 0
  -- what a crash may leave after a sync that succeeds now: it brings to the disk what was changed through this handle, over what an
  -- earlier program left there
  pub once_synced : List ℕ → Type 0
  -- how often the disk has failed
  pub faults : ℕ
  -- the calls that another has told as made, of a file for which another makes them, of which the last stands first; else none
  pub made : List Call

-- a crash now may leave this
abbrev pub MayLeave : FileState → List ℕ → Type 0
MayLeave file c = file.left_since file.moment c

-- all of it is on the disk, and nothing of it is what another program failed to bring there
pub record IsOnDisk (file : FileState) : Type 0 where
  -- a crash now leaves what a read returns
  pub left : (c : List ℕ) → MayLeave file c → c ≡ file.seen
  -- and so it is after a sync
  pub synced : (c : List ℕ) → file.once_synced c → c ≡ file.seen

-- what a crash may leave of it, now or after a sync, has P
pub record LeavesNow (file : FileState) (P : List ℕ → Type 0) : Type 0 where
  pub left : (c : List ℕ) → MayLeave file c → P c
  pub synced : (c : List ℕ) → file.once_synced c → P c

-- so many bytes are whole sectors
abbrev pub IsWhole : ℕ → Type 0
IsWhole n = n % 4096 ≡ 0

-- these bytes over what is there, and past the end
abbrev pub is_written : ℕ → List ℕ → List ℕ → List ℕ
is_written at bytes old = take at old ++ bytes ++ drop (at + length bytes) old

-- after a write of n bytes that a crash cuts short: any bytes where it writes, and the others as they were
pub record Torn (at n : ℕ) (old new : List ℕ) : Type 0 where
  pub before : take at new ≡ take at old
  pub after : drop (at + n) new ≡ drop (at + n) old
  pub no_shorter : length old ≤ length new
  pub no_longer : length new ≤ max (length old) (at + n)

-- after a length was set that a crash cuts short: some length between
pub record Cut (n : ℕ) (old new : List ℕ) : Type 0 where
  pub no_shorter : min n (length old) ≤ length new
  pub front : new ≡ take (length new) old

-- a length that was set, of a file that is as long
abbrev pub IsCut : ℕ → List ℕ → List ℕ → Type 0
IsCut n old new = n ≤ length old → new ≡ take n old

-- each byte is one of those that stand there in two lists
abbrev pub IsMix : List ℕ → List ℕ → List ℕ → Type 0
IsMix [] [] [] = Unit {0}
IsMix (x ∷ xs) (y ∷ ys) (z ∷ zs) = (z ≡ x ⊎ z ≡ y) × IsMix xs ys zs
IsMix _ _ _ = ⊥

-- after bytes were written again that a crash cuts short: there stands of each byte the one that was there or the one that was
-- written, and the others are as they were
pub record Mixed (at : ℕ) (bytes old new : List ℕ) : Type 0 where
  pub front : List ℕ
  pub was : List ℕ
  pub mix : List ℕ
  pub behind : List ℕ
  pub size : length front ≡ at
  pub parts : old ≡ front ++ was ++ behind
  pub is : new ≡ front ++ mix ++ behind
  pub mixes : IsMix was bytes mix

-- what a sync now may leave it might have left before, but for this step
abbrev pub SyncsTo : (List ℕ → List ℕ → Type 0) → FileState → FileState → Type 0
SyncsTo step old new = (c : List ℕ) → new.once_synced c → (d : List ℕ) × old.once_synced d × step d c

-- what a sync now may leave it might have left before
abbrev pub SyncsAsBefore : FileState → FileState → Type 0
SyncsAsBefore old new = (c : List ℕ) → new.once_synced c → old.once_synced c

-- what a crash may leave now it might have left before, but for this step
abbrev pub Follows : (List ℕ → List ℕ → Type 0) → FileState → FileState → Type 0
Follows step old new = (c : List ℕ) → MayLeave new c → (d : List ℕ) × MayLeave old d × step d c

-- what a crash may leave now it might have left before
abbrev pub FollowsOnly : FileState → FileState → Type 0
FollowsOnly old new = (c : List ℕ) → MayLeave new c → MayLeave old c

-- nothing of it has changed
pub record IsAsBefore (old new : FileState) : Type 0 where
  pub seen : new.seen ≡ old.seen
  pub left : FollowsOnly old new
  pub synced : SyncsAsBefore old new

-- time goes on: a crash might have left what it might before, or what it may leave now
pub record Elapses (old new : FileState) : Type 0 where
  pub later : old.moment ≤ new.moment
  pub nothing_else : (t : ℕ) (c : List ℕ) → t ≤ old.moment → new.left_since t c → old.left_since t c ⊎ MayLeave new c
  pub keeps : (t : ℕ) (c : List ℕ) → t ≤ old.moment → old.left_since t c → new.left_since t c
  -- and nothing was told meanwhile
  pub made : new.made ≡ old.made

-- a crash at any moment from the old one to the new one leaves a file that has P
pub record LeavesOnly (old new : FileState) (P : List ℕ → Type 0) : Type 0 where
  pub later : old.moment ≤ new.moment
  pub each : (c : List ℕ) → new.left_since old.moment c → P c
  -- and one at a moment since an earlier one, what it might have left before, or such a file
  pub before : (t : ℕ) (c : List ℕ) → t ≤ old.moment → new.left_since t c → old.left_since t c ⊎ P c
  -- and nothing was told meanwhile
  pub made : new.made ≡ old.made
