-- The calls of the system for a file, with their answers, and what is known of the file after them.
use Rattle.std.specs.Prelude.{◌≡◌, ◌⊎◌, ◌<◌, ◌≤◌, ◌+◌, ◌^◌, ◌&&◌, ◌||◌, not, ℕ, Bool, true, false, if◌then◌else◌, List, [], ◌∷◌, ◌++◌, length, take, Result, Ok, Err}
use Rattle.std.proofs.Common.{inr, ⊎_elim, arith}
use Rattle.stored_file.specs.File.{FileState, MayLeave, is_written, Torn, Cut, IsCut, Mixed}
pub use Rattle.stored_file.specs.File.{Call, NotReplaced, Opened, Refused, Renewed, Replaced, Shortened, Synced, Written}
use Rattle.stored_file.specs.declared.stored_file.FileError.{FileError}
use Rattle.stored_file.specs.declared.stored_file.FileError.TheVariants.{Memory, NoRoom, Failed}

-- the calls for a file that was opened, once further bytes of it were read
abbrev pub read_further : List ℕ → List Call → List Call
read_further bytes (Opened given ∷ []) = Opened (given ++ bytes) ∷ []
read_further bytes calls = calls

-- a file was opened, these bytes of it were read, and no other call was made
pub record IsOnlyRead (bytes : List ℕ) (calls : List Call) : Type 0 where
  pub are : calls ≡ Opened bytes ∷ []
  pub has_length : length bytes < 2 ^ 63

-- did the system answer that it isn't done?
abbrev pub is_failure : Call → Bool
is_failure (Written «at» bytes done) = not done
is_failure (Renewed «at» bytes done) = not done
is_failure (Shortened len done) = not done
is_failure (Synced done) = not done
is_failure (Replaced bytes done) = not done
is_failure _ = false

-- did a call fail, of these, of which the last stands first?
abbrev pub has_failed : List Call → Bool
has_failed [] = false
has_failed (call ∷ calls) = is_failure call || has_failed calls

-- was none made after one that failed?
abbrev pub ends_where_it_fails : List Call → Bool
ends_where_it_fails [] = true
ends_where_it_fails (Refused ∷ calls) = ends_where_it_fails calls
ends_where_it_fails (call ∷ calls) = not (has_failed calls) && ends_where_it_fails calls

-- the bytes that a read returns after a call that is done. After one that failed, none is made
abbrev pub seen_behind : Call → List ℕ → List ℕ
seen_behind (Opened bytes) seen = bytes
seen_behind (Written «at» bytes done) seen = is_written «at» bytes seen
seen_behind (Renewed «at» bytes done) seen = seen
seen_behind (Shortened len done) seen = take len seen
seen_behind (Synced done) seen = seen
seen_behind (Replaced bytes done) seen = bytes
seen_behind NotReplaced seen = seen
seen_behind Refused seen = seen

-- how often a call failed or wasn't made, after a call
abbrev pub faults_behind : Call → ℕ → ℕ
faults_behind (Opened bytes) faults = faults
faults_behind NotReplaced faults = faults + 1
faults_behind Refused faults = faults + 1
faults_behind call faults = if is_failure call then faults + 1 else faults

-- the call for a new file, by its answer
abbrev pub replaced_by : {T : Type 0} → List ℕ → Result T FileError → Call
replaced_by bytes (Ok done) = Replaced bytes true
replaced_by bytes (Err NoRoom) = NotReplaced
replaced_by bytes (Err Memory) = Replaced bytes false
replaced_by bytes (Err Failed) = Replaced bytes false

-- an earlier program may have left some bytes on the disk, of a file of which others are read
module _ (MayBeLeft : List ℕ → List ℕ → Type 0) where
  -- what a crash leaves after a call, of a file of which this was known before it. That this is so of a file of the system is a
  -- premise on the system: no clause of the library's says what a file holds
  abbrev pub LeftBehind : Call → FileState → List ℕ → Type 0
  LeftBehind (Opened bytes) file c = MayBeLeft bytes c
  LeftBehind (Written «at» bytes done) file c = (d : List ℕ) × MayLeave file d × Torn «at» (length bytes) d c
  LeftBehind (Renewed «at» bytes done) file c = (d : List ℕ) × MayLeave file d × Mixed «at» bytes d c
  LeftBehind (Shortened len done) file c = (d : List ℕ) × MayLeave file d × Cut len d c
  LeftBehind (Synced true) file c = file.once_synced c
  LeftBehind (Synced false) file c = MayLeave file c
  LeftBehind (Replaced bytes true) file c = c ≡ bytes
  LeftBehind (Replaced bytes false) file c = MayLeave file c ⊎ (c ≡ bytes)
  LeftBehind NotReplaced file c = MayLeave file c
  LeftBehind Refused file c = MayLeave file c

  -- and what it leaves after a sync that is made then: what was written by these calls is on the disk, over what an earlier program
  -- left there. That is a premise too
  abbrev pub SyncedBehind : Call → FileState → List ℕ → Type 0
  SyncedBehind (Opened bytes) file c = MayBeLeft bytes c
  SyncedBehind (Written «at» bytes done) file c = (d : List ℕ) × file.once_synced d × (c ≡ is_written «at» bytes d)
  SyncedBehind (Renewed «at» bytes done) file c = (d : List ℕ) × file.once_synced d × (c ≡ is_written «at» bytes d)
  SyncedBehind (Shortened len done) file c = (d : List ℕ) × file.once_synced d × IsCut len d c
  SyncedBehind (Synced done) file c = file.once_synced c
  SyncedBehind (Replaced bytes done) file c = c ≡ bytes
  SyncedBehind NotReplaced file c = file.once_synced c
  SyncedBehind Refused file c = file.once_synced c

  -- what is known of the file after a call; a crash during it leaves what it might have left before, or what it leaves then
  abbrev pub behind : Call → FileState → FileState
  behind call file = record {
    seen = seen_behind call file.seen;
    moment = file.moment + 1;
    left_since = λ t c. ((t ≤ file.moment) × file.left_since t c) ⊎ ((t ≤ file.moment + 1) × LeftBehind call file c);
    once_synced = SyncedBehind call file;
    faults = faults_behind call file.faults;
    made = file.made;
  }

  -- what is known of the file after these, of which the last stands first; nothing before the first
  abbrev pub told_of : List Call → FileState
  told_of [] = record { seen = []; moment = 0; left_since = λ t c. Unit {0}; once_synced = λ c. Unit {0}; faults = 0; made = [] }
  told_of (call ∷ calls) = behind call (told_of calls)

  -- the moment after the last of them is one of those since each earlier one
  pub counts_behind : (calls : List Call) (t : ℕ) (c : List ℕ) → t ≤ (told_of calls).moment → MayLeave (told_of calls) c → (told_of calls).left_since t c
  counts_behind [] t c early now = tt
  counts_behind (call ∷ calls) t c early now =
      ⊎_elim (λ (was : ((told_of calls).moment + 1 ≤ (told_of calls).moment) × (told_of calls).left_since ((told_of calls).moment + 1) c). absurd (omega (arith, was.0)))
      (λ (left : ((told_of calls).moment + 1 ≤ (told_of calls).moment + 1) × LeftBehind call (told_of calls) c). inr (early, left.1)) now
