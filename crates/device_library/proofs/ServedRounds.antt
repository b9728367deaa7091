-- Frames that are served.
use Rattle.std.proofs.Common.{◌≡◌, ◌⊎◌, ◌∙◌, ℕ, false, List, [], ◌∷◌, Option, None, inl, inr, ⊎_elim, ap, length, subst, sym, arith}
use Rattle.std.proofs.lemmas.List.{take_all}
use Rattle.stored_file.specs.File.{FileState, LeavesOnly}
use Rattle.stored_file.proofs.Moments.{then_on, weaken}
use Rattle.device_meaning.specs.State.{State}
use Rattle.durable_device.specs.Kept.{IsEither, StandsFor}
use Rattle.device_serve.specs.FrameStream.{FrameReader, IsReady, reader}
use Rattle.device_serve.specs.Rounds.{Answered, AreRounds, Breaks, CrashLeavesRounds, Doing, Ending, IsAfterRounds, ServesStream, Site, Stopping, Unsent}
use Rattle.device_serve.specs.declared.fault.ServeFault.{ServeFault}
use Rattle.device_serve.specs.declared.keep.KeepsNothing.{KeepsNothing}
use Rattle.device_library.specs.Serving.{DoesFrames, EndsFrames, Frames, Handed, IsBetweenFrames, reader_of, settled, told}

-- ---- what a crash leaves

module _ {C D : Type 0} (does : Doing C) (tells : D → FileState) (rests : State → D → Type 0) where
  -- a file that stands for the device after all of some rounds
  after_all : (pieces : List (List ℕ)) (old mid : Site C D) (file : List ℕ) → AreRounds does tells rests pieces old mid → StandsFor file mid.state
      → IsAfterRounds does tells rests pieces old file
  after_all pieces old mid file rounds stands = record {
    count = length pieces;
    within = omega arith;
    mid = mid;
    first = subst (λ (ps : List (List ℕ)). AreRounds does tells rests ps old mid) (sym (take_all (length pieces) pieces (omega arith))) rounds;
    stands = stands;
  }

  -- rounds, and then what leaves the device as it is or leads on to another
  pub then_either : CrashLeavesRounds does tells rests → (pieces : List (List ℕ)) (old mid new : Site C D) → rests old.state old.disk
      → AreRounds does tells rests pieces old mid → LeavesOnly (tells mid.disk) (tells new.disk) (IsEither mid.state new.state)
      → LeavesOnly (tells old.disk) (tells new.disk) (λ file. IsAfterRounds does tells rests pieces old file ⊎ StandsFor file new.state)
  then_either law pieces old mid new at_rest rounds last =
      let P : List ℕ → Type 0 = λ file. IsAfterRounds does tells rests pieces old file ⊎ StandsFor file new.state in
      then_on (tells old.disk) (tells mid.disk) (tells new.disk) P
      (weaken (tells old.disk) (tells mid.disk) (IsAfterRounds does tells rests pieces old) P (law pieces old mid at_rest rounds) (λ file is. inl is))
      (weaken (tells mid.disk) (tells new.disk) (IsEither mid.state new.state) P last
      (λ file. ⊎_elim (λ was. inl (after_all pieces old mid file rounds was)) (λ now. inr now)))

  module _ (ends : Ending C) (stops : Stopping C) where
    -- a round that breaks off
    pub break_moments : (bytes : List ℕ) (left : Option (List ℕ)) (old new : Site C D) (why : ServeFault)
        → Breaks does tells rests ends stops bytes left old new why
        → LeavesOnly (tells old.disk) (tells new.disk) (IsEither old.state new.state)
    break_moments bytes left old new why (Answered answers stopped moments on_disk written) = moments
    break_moments bytes left old new why (Unsent answers begun unsent moments on_disk) = moments

-- ---- what reads the frames

same_turns : (pieces : List (List ℕ)) (old new : Handed) → AreRounds DoesFrames told settled pieces old new → new.codec.turns ≡ old.codec.turns
same_turns [] old new same = ap (λ (s : Handed). s.codec.turns) same
same_turns (piece ∷ pieces) old new (mid, round, rest) = same_turns pieces mid new rest ∙ round.done.goes_on.turns

same_end : (pieces : List (List ℕ)) (old new : Handed) → AreRounds DoesFrames told settled pieces old new → new.codec.ends_runs ≡ old.codec.ends_runs
same_end [] old new same = ap (λ (s : Handed). s.codec.ends_runs) same
same_end (piece ∷ pieces) old new (mid, round, rest) = same_end pieces mid new rest ∙ round.done.goes_on.ends_runs

-- once all frames are served, nothing of the next one has come
pub between_again : (unread : Option (List ℕ)) (old new : Handed) → IsBetweenFrames old.codec
    → ServesStream DoesFrames told settled EndsFrames unread old new
    → IsReady (λ keeper. Unit {0}) (reader_of new.codec) new.codec.output.items → IsBetweenFrames new.codec
between_again unread old new between serves ready =
    let mid = serves.mid in
    let pieces = serves.served.pieces in
    let same : reader_of new.codec ≡ reader_of mid.codec = serves.last.done.same in
    record {
      none = ap (λ (r : FrameReader KeepsNothing). r.session.pending) same ∙ serves.last.done.whole;
      healthy = ap (λ (r : FrameReader KeepsNothing). r.session.fault) same ∙ serves.last.done.healthy;
      turns = ap (λ (r : FrameReader KeepsNothing). r.turns) same ∙ same_turns pieces old mid serves.served.rounds ∙ between.turns;
      ends_runs = ap (λ (r : FrameReader KeepsNothing). r.ends_runs) same ∙ same_end pieces old mid serves.served.rounds ∙ between.ends_runs;
      ready = ready;
    }

-- and before any
pub begins_between : (codec : Frames) (keeper : KeepsNothing) → reader_of codec ≡ reader (record { pending = []; place = 0; fault = None }) 0 false keeper
    → IsReady (λ k. Unit {0}) (reader_of codec) codec.output.items → IsBetweenFrames codec
begins_between codec keeper begun ready = record {
  none = ap (λ (r : FrameReader KeepsNothing). r.session.pending) begun;
  healthy = ap (λ (r : FrameReader KeepsNothing). r.session.fault) begun;
  turns = ap (λ (r : FrameReader KeepsNothing). r.turns) begun;
  ends_runs = ap (λ (r : FrameReader KeepsNothing). r.ends_runs) begun;
  ready = ready;
}
