-- A round that is under way: what it does isn't on the disk yet, and not answered.
use Rattle.std.specs.Prelude.{ℕ, ◌≡◌, ◌++◌, List, [], Option}
use Rattle.std.specs.Io.KnownBytes.{Consumes}
use Rattle.stored_file.specs.File.{FileState}
use Rattle.device_meaning.specs.State.{State}
use Rattle.device_serve.specs.Rounds.{Adding, BreaksOff, Ending, InRounds, Site, StoppingOn, StopsServing, afresh, stops_afresh}
use Rattle.device_serve.specs.declared.fault.ServeFault.{ServeFault}

module _ {C D : Type 0} (adds : Adding C) (told : D → FileState) (settled : State → D → Type 0) where
  -- bytes are served in rounds, and the last of them are done in one that is under way, which these bytes are to answer
  pub record IsUnderWay (bytes : List ℕ) (old now : Site C D) (answers : List ℕ) : Type 0 where
    pub first : List ℕ
    pub last : List ℕ
    pub are : bytes ≡ first ++ last
    pub mid : Site C D
    pub served : InRounds (afresh adds) told settled first old mid
    pub on_disk : settled mid.state mid.disk
    pub done : adds mid.codec mid.state [] last now.codec now.state answers
    pub same : now.disk ≡ mid.disk
    pub unwritten : now.written ≡ mid.written

  -- after whatever was served before, these bytes are served too
  abbrev pub ServesMore : List ℕ → Site C D → List ℕ → Site C D → List ℕ → Type 0
  ServesMore bytes old before new after = (earlier : List ℕ) (first : Site C D) → IsUnderWay earlier first old before
      → IsUnderWay (earlier ++ bytes) first new after

  -- what was read is served, and a round may be under way
  pub record IsReading (unread left : Option (List ℕ)) (first now : Site C D) (answers : List ℕ) : Type 0 where
    pub bytes : List ℕ
    pub read : Consumes unread left bytes
    pub under_way : IsUnderWay bytes first now answers

  -- after whatever was read before, more is read and served
  abbrev pub ReadsMore : Option (List ℕ) → Option (List ℕ) → Site C D → List ℕ → Site C D → List ℕ → Type 0
  ReadsMore left less old before new after = (unread : Option (List ℕ)) (first : Site C D) → IsReading unread left first old before
      → IsReading unread less first new after

  -- what was read is served in rounds
  pub record ReadSoFar (unread left : Option (List ℕ)) (first now : Site C D) : Type 0 where
    pub bytes : List ℕ
    pub read : Consumes unread left bytes
    pub served : InRounds (afresh adds) told settled bytes first now

  module _ (ends : Ending C) (stops : StoppingOn C) where
    -- after whatever was served before, a round breaks off with these bytes, of a stream of which any may be left
    abbrev pub BreaksThere : List ℕ → Site C D → List ℕ → Site C D → ServeFault → Type 0
    BreaksThere bytes old before new why = (earlier : List ℕ) (left : Option (List ℕ)) (first : Site C D)
        → IsUnderWay earlier first old before
        → BreaksOff (afresh adds) told settled ends (stops_afresh stops) (earlier ++ bytes) left first new why

    -- after whatever was read before, serving stops
    abbrev pub StopsThere : Option (List ℕ) → Option (List ℕ) → Site C D → List ℕ → Site C D → ServeFault → Type 0
    StopsThere left less old before new why = (unread : Option (List ℕ)) (first : Site C D) → IsReading unread left first old before
        → StopsServing (afresh adds) told settled ends (stops_afresh stops) unread less first new why
