-- What is known of the file that keeps the device, at each stage of a round.
use Rattle.std.specs.Prelude.{ℕ, ◌≡◌, Bool, true, false, List, ◌∷◌, Option, Some, None, if◌then◌else◌}
use Rattle.stored_file.specs.File.{MayLeave}
use Rattle.stored_file.specs.Calls as calls
use Rattle.stored_file.specs.Calls.{told_of}
use Rattle.tcp_loop.specs.Deeds.{AreDone, Deed, Meaning}
use Rattle.tcp_loop.specs.Disk.{NewFile, no_file}
use Rattle.tcp_loop.specs.Keeping.{Covers, IsSettled, IsThere, Keeping, done_call, new_call, wanted_by}
use Rattle.tcp_loop.specs.Law.{AreUnanswered, HasAnswered, state_before}
use Rattle.tcp_loop.specs.declared.stage.Part.{Part}
use Rattle.tcp_loop.specs.declared.stage.Part.TheVariants as part
use Rattle.tcp_loop.specs.declared.stage.Stage.{Stage}
use Rattle.tcp_loop.specs.declared.stage.Stage.TheVariants as stage
use Rattle.tcp_loop.specs.declared.target.Call.{Call}

-- how far what was done is on the disk
pub data Phase : Type 0 where
  -- no call waits: a crash leaves the device before the last deeds, none of which sent something
  Resting : Phase
  -- so it is too, and in this round runs were given turns, and connections below this place were attended to
  Attending : (from : ℕ) → Phase
  -- so it is too, and the time was told at which hosts were read
  Due : Phase
  -- a file was opened, by calls of which some wait
  Begun : Phase
  -- calls wait, by which these deeds are committed; so many of them are made as were told
  Pending : Phase
  -- of these one was told last
  Told : Phase
  -- and this one is next
  Committing : (call : Call) → Phase
  -- the next one is made, and isn't told yet
  Answered : Phase
  -- a new file is on its way to its place
  Placing : (part : Part) → Phase
  -- it was wanted, and is on the disk
  Folding : Phase
  -- all calls are told, and the time wasn't asked for since
  Called : Phase
  -- all is committed: a crash leaves the device as it is
  Settled : Phase
  -- a call failed, or all is over
  Stopped : Phase

abbrev pub phase_of : Stage → Phase
phase_of (stage.Polling watched milliseconds) = Attending 40
phase_of stage.Signalled = Resting
phase_of (stage.Reading place) = Resting
phase_of stage.Timing = Resting
phase_of (stage.Calling call) = Committing call
phase_of (stage.Placing part) = Placing part
phase_of stage.Called = Called
phase_of (stage.Writing place) = Settled
phase_of (stage.Closing place) = Resting
phase_of (stage.Accepting place more) = Resting
phase_of (stage.Refusing more) = Resting
phase_of (stage.Telling cause fails) = if fails then Stopped else Resting
phase_of (stage.Ended done) = Stopped

-- once a call is made that is one operation, or wasn't
abbrev pub after_call : Option Bool → Bool → Phase
after_call None true = Answered
after_call None false = Stopped
after_call (Some wants) done = Stopped

-- once a new file wasn't made, that was only wanted or is to be put in place
abbrev pub not_made : Bool → Phase
not_made true = Placing part.Discarded
not_made false = Stopped

abbrev pub after_part : Part → Bool → Phase
after_part (part.Made wants) true = Placing (part.Filled wants)
after_part (part.Filled wants) true = Placing (part.Flushed wants)
after_part (part.Flushed true) true = Folding
after_part (part.Flushed false) true = Placing part.Named
after_part part.Named true = Placing part.Placed
after_part part.Placed true = Answered
after_part (part.Made wants) false = not_made wants
after_part (part.Filled wants) false = not_made wants
after_part (part.Flushed wants) false = not_made wants
after_part part.Named false = Stopped
after_part part.Placed false = Stopped
after_part part.Discarded done = Answered

-- once the operation of a stage is done, or isn't
abbrev pub phase_after : Stage → Bool → Phase
phase_after (stage.Calling call) done = after_call (wanted_by call) done
phase_after (stage.Placing part) done = after_part part done
phase_after (stage.Polling watched milliseconds) done = Resting
phase_after stage done = phase_of stage

-- a new file of these bytes that is on the disk
abbrev pub whole_file : List ℕ → Bool → NewFile
whole_file bytes named = record { bytes = bytes; is_synced = true; is_named = named }

module _ (may_be_left : List ℕ → List ℕ → Type 0) where
  -- as far as a crash goes, the calls of a trace are those that the target was told as done
  pub record Knows (asked told : List calls.Call) : Type 0 where
    pub seen : (told_of may_be_left asked).seen ≡ (told_of may_be_left told).seen
    pub left : (c : List ℕ) → MayLeave (told_of may_be_left asked) c → MayLeave (told_of may_be_left told) c
    pub synced : (c : List ℕ) → (told_of may_be_left asked).once_synced c → (told_of may_be_left told).once_synced c

-- of deeds from a state to one, of the calls of a trace, its file beside, and the calls of a target
module _ {State : Type 0} (m : Meaning State) where
  -- no call waits, and a crash leaves the state before the last so many deeds, none of which sent something
  pub record IsAtRest (file : Keeping) (deeds : List Deed) (old new : State) (done : AreDone m deeds old new) : Type 0 where
    pub missing : ℕ
    pub unanswered : AreUnanswered missing deeds
    pub settled : IsSettled m file (state_before m missing deeds old new done)

  -- calls are made, by which what was done is committed: a crash leaves that state or the one now, and once all are made the one now
  pub record IsUnderWay (file : Keeping) (deeds : List Deed) (old new : State) (done : AreDone m deeds old new) : Type 0 where
    pub missing : ℕ
    pub unanswered : AreUnanswered missing deeds
    pub covers : Covers m file.waits file.made (state_before m missing deeds old new done) new

  -- so it is, and this call is the next
  pub record IsAsked (next : calls.Call) (asked : List calls.Call) (file : Keeping) (deeds : List Deed) (old new : State)
      (done : AreDone m deeds old new) : Type 0 where
    pub rest : List calls.Call
    pub waits : file.waits ≡ next ∷ rest
    pub knows : Knows m.may_be_left asked file.made
    pub under_way : IsUnderWay file deeds old new done

  -- the next call is made
  pub record IsAnswered (asked : List calls.Call) (file : Keeping) (deeds : List Deed) (old new : State)
      (done : AreDone m deeds old new) : Type 0 where
    pub next : calls.Call
    pub rest : List calls.Call
    pub waits : file.waits ≡ next ∷ rest
    pub knows : Knows m.may_be_left asked (next ∷ file.made)
    pub under_way : IsUnderWay file deeds old new done

  -- the new file is on the disk, and it isn't in its place yet
  pub record IsToName (asked : List calls.Call) (beside : NewFile) (file : Keeping) (deeds : List Deed) (old new : State)
      (done : AreDone m deeds old new) : Type 0 where
    pub bytes : List ℕ
    pub whole : beside ≡ whole_file bytes false
    pub asks : IsAsked (calls.Replaced bytes true) asked file deeds old new done

  -- it has the name, which isn't on the disk yet
  pub record IsToPlace (asked : List calls.Call) (beside : NewFile) (file : Keeping) (deeds : List Deed) (old new : State)
      (done : AreDone m deeds old new) : Type 0 where
    pub bytes : List ℕ
    pub whole : beside ≡ whole_file bytes true
    pub before : List calls.Call
    pub named : asked ≡ calls.Replaced bytes false ∷ before
    pub asks : IsAsked (calls.Replaced bytes true) before file deeds old new done

  abbrev pub IsPlacing : Part → List calls.Call → NewFile → Keeping → (deeds : List Deed) (old new : State)
      → AreDone m deeds old new → Type 0
  IsPlacing (part.Made wants) asked beside file deeds old new done = IsAsked (new_call wants file.bytes) asked file deeds old new done
  IsPlacing (part.Filled wants) asked beside file deeds old new done =
      IsAsked (new_call wants file.bytes) asked file deeds old new done × (beside ≡ no_file)
  IsPlacing (part.Flushed wants) asked beside file deeds old new done =
      IsAsked (new_call wants file.bytes) asked file deeds old new done
      × (beside ≡ record { bytes = file.bytes; is_synced = false; is_named = false })
  IsPlacing part.Named asked beside file deeds old new done = IsToName asked beside file deeds old new done
  IsPlacing part.Placed asked beside file deeds old new done = IsToPlace asked beside file deeds old new done
  IsPlacing part.Discarded asked beside file deeds old new done = IsAsked calls.NotReplaced asked file deeds old new done

  abbrev pub IsKept : Phase → List calls.Call → NewFile → Keeping → (deeds : List Deed) (old new : State) → AreDone m deeds old new → Type 0
  IsKept Resting asked beside file deeds old new done = Knows m.may_be_left asked file.made × IsAtRest file deeds old new done
  IsKept (Attending from) asked beside file deeds old new done = Knows m.may_be_left asked file.made × IsAtRest file deeds old new done
  IsKept Due asked beside file deeds old new done = Knows m.may_be_left asked file.made × IsAtRest file deeds old new done
  IsKept Begun asked beside file deeds old new done = Knows m.may_be_left asked file.made × IsUnderWay file deeds old new done
  IsKept Told asked beside file deeds old new done = Knows m.may_be_left asked file.made × IsUnderWay file deeds old new done
  IsKept Called asked beside file deeds old new done = Knows m.may_be_left asked file.made × IsSettled m file new
  IsKept Pending asked beside file deeds old new done = Knows m.may_be_left asked file.made × IsUnderWay file deeds old new done
  IsKept (Committing call) asked beside file deeds old new done =
      IsAsked (done_call call file.bytes) asked file deeds old new done × IsThere call file.bytes (told_of m.may_be_left file.made).seen
  IsKept Answered asked beside file deeds old new done = IsAnswered asked file deeds old new done
  IsKept (Placing part) asked beside file deeds old new done = IsPlacing part asked beside file deeds old new done
  IsKept Folding asked beside file deeds old new done =
      IsAsked calls.NotReplaced asked file deeds old new done × (beside ≡ whole_file file.bytes false)
  IsKept Settled asked beside file deeds old new done = Knows m.may_be_left asked file.made × IsSettled m file new
  IsKept Stopped asked beside file deeds old new done =
      (c : List ℕ) → MayLeave (told_of m.may_be_left asked) c → HasAnswered m c deeds old new done
