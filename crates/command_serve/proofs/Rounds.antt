-- What holds of a codec over rounds, as of each of them.
use Rattle.std.proofs.Common.{ℕ, List, [], ◌∷◌, Option, Result, Ok, Err, OnOk, IfErr, subst, sym}
use Rattle.stored_file.specs.File.{FileState}
use Rattle.image_store.specs.Namespace.{ZonedNamespace}
use Rattle.device_meaning.specs.State.{State}
use Rattle.device_serve.specs.Faults.{BlamesDisk}
use Rattle.device_serve.specs.FrameStream.{FrameReader}
use Rattle.device_serve.specs.Rounds.{Answered, AreRounds, Breaks, Done, Doing, Ended, Ending, IsBegun, ServesStream, Site, Stopped, Stopping, StopsServing, Unsent}
use Rattle.device_serve.specs.declared.fault.ServeFault.{ServeFault}
use Rattle.device_serve.specs.declared.frames.FrameCodec.{FrameCodec}
use Rattle.command_serve.specs.Streams.{Comes, Protocol, Shelf, end_of, frames}

-- where a relation of codecs holds in what is done, at the end and where it stops, it holds over a stream
module _ {C D : Type 0} (does : Doing C) (told : D → FileState) (settled : State → D → Type 0) (ends : Ending C) (stops : Stopping C) (R : C → C → Type 0)
    (stays : (c : C) → R c c) (joins : (a b c : C) → R a b → R b c → R a c)
    (by_does : (c : C) (s : State) (bytes : List ℕ) (d : C) (t : State) (answers : List ℕ) → does c s bytes d t answers → R c d)
    (by_ends : (c : C) (s : State) (d : C) (t : State) (answers : List ℕ) → ends c s d t answers → R c d)
    (by_stops : (c : C) (s : State) (bytes : List ℕ) (left : Option (List ℕ)) (d : C) (t : State) (answers : List ℕ) (why : ServeFault)
    → stops c s bytes left d t answers why → R c d) where
  over_rounds : (pieces : List (List ℕ)) (old new : Site C D) → AreRounds does told settled pieces old new → R old.codec new.codec
  over_rounds [] old new same = subst (λ (s : Site C D). R old.codec s.codec) (sym same) (stays old.codec)
  over_rounds (piece ∷ pieces) old new rounds =
      joins old.codec rounds.0.codec new.codec
      (by_does old.codec old.state piece rounds.0.codec rounds.0.state rounds.1.answers rounds.1.done)
      (over_rounds pieces rounds.0 new rounds.2)

  over_begun : (bytes : List ℕ) (left : Option (List ℕ)) (old new : Site C D) (answers : List ℕ) → IsBegun does told settled ends stops bytes left old new answers
      → R old.codec new.codec
  over_begun bytes left old new answers (Done count done) = by_does _ _ _ _ _ _ done
  over_begun bytes left old new answers (Ended done) = by_ends _ _ _ _ _ done
  over_begun bytes left old new answers (Stopped why stopped) = by_stops _ _ _ _ _ _ _ why stopped

  over_break : (bytes : List ℕ) (left : Option (List ℕ)) (old new : Site C D) (why : ServeFault) → Breaks does told settled ends stops bytes left old new why
      → R old.codec new.codec
  over_break bytes left old new why (Answered answers stopped moments on_disk written) = by_stops _ _ _ _ _ _ _ why stopped
  over_break bytes left old new why (Unsent answers begun unsent moments on_disk) = over_begun bytes left old new answers begun

  pub over_stream : {T : Type 0} (result : Result T ServeFault) (unread left : Option (List ℕ)) (old new : Site C D)
      → OnOk result (ServesStream does told settled ends unread old new)
      → IfErr result (StopsServing does told settled ends stops unread left old new) → R old.codec new.codec
  over_stream (Ok value) unread left old new serves stops =
      joins old.codec serves.mid.codec new.codec (over_rounds serves.served.pieces old serves.mid serves.served.rounds) (by_ends _ _ _ _ _ serves.last.done)
  over_stream (Err why) unread left old new serves stops =
      joins old.codec stops.off.mid.codec new.codec (over_rounds stops.off.served.pieces old stops.off.mid stops.off.served.rounds)
      (over_break stops.off.rest left stops.off.mid new why stops.off.breaks)

-- what serving came to
pub comes : {C D K : Type 0} (words : Protocol C K) (shelf : Shelf D) (unread left : Option (List ℕ)) (result : Result (Unit {0}) ServeFault)
    (old new : Site C D) → OnOk result (ServesStream words.does shelf.told shelf.settled words.ends unread old new)
    → IfErr result (StopsServing words.does shelf.told shelf.settled words.ends words.stops unread left old new)
    → BlamesDisk (shelf.told old.disk) (shelf.told new.disk) result → Comes words shelf unread (end_of result left) old new
comes words shelf unread left (Ok done) old new serves stops blames = serves
comes words shelf unread left (Err why) old new serves stops blames = (stops, λ is. blames.failed (cc))

-- what keeps images becomes what it may by keeping some
pub frames_become : {K D : Type 0} (has_kept : K → K → ZonedNamespace → Type 0) (becomes : K → K → Type 0) (stays : (k : K) → becomes k k)
    (joins : (a b c : K) → becomes a b → becomes b c → becomes a c) (told : D → FileState) (settled : State → D → Type 0)
    (unread left : Option (List ℕ)) (result : Result (Unit {0}) ServeFault) (old new : Site (FrameCodec K) D)
    → OnOk result (ServesStream (frames has_kept becomes 0).does told settled (frames has_kept becomes 0).ends unread old new)
    → IfErr result (StopsServing (frames has_kept becomes 0).does told settled (frames has_kept becomes 0).ends (frames has_kept becomes 0).stops unread left old new)
    → becomes old.codec.keeper new.codec.keeper
frames_become {K = K} has_kept becomes stays joins told settled unread left result old new served stopped =
    over_stream (frames has_kept becomes 0).does told settled (frames has_kept becomes 0).ends (frames has_kept becomes 0).stops
    (λ c d. becomes c.keeper d.keeper) (λ c. stays c.keeper) (λ a b c first then. joins a.keeper b.keeper c.keeper first then)
    (λ c s bytes d t answers done. done.goes_on.keeper)
    (λ c s d t answers ended. subst (λ (r : FrameReader K). becomes c.keeper r.keeper) (sym ended.same) (stays c.keeper))
    (λ c s bytes left d t answers why ends. ends.goes_on.keeper)
    result unread left old new served stopped
