-- What is known of a file that is read piece by piece.
use Rattle.std.specs.Prelude.{◌≡◌, ◌⊎◌, ◌<◌, ◌≤◌, ◌^◌, ℕ, ◌+◌, Bool, List, ◌++◌, length, take, drop}
use Rattle.stored_file.specs.declared.stored_file.FileError.{FileError}
use Rattle.stored_file.specs.declared.stored_file.FileError.TheVariants.{NoRoom, Failed}
use Rattle.durable_machine.specs.Journal.{BeginsBatch, BeginsNoBatch}
use Rattle.durable_machine.specs.Refused.{HasNoState, IsDamaged, IsUndone}
use Rattle.durable_machine.specs.Replay.{AreDone, IsIdleAt}
use Rattle.durable_machine.specs.Restart.{IsReplayed}
use Rattle.durable_machine.specs.declared.fault.Fault.{Fault}
use Rattle.durable_machine.specs.declared.fault.Fault.TheVariants.{Unreadable, Damaged, Undone, OfFile}

-- so it is with the file of so many bytes, of which these were read: whatever the others are
abbrev pub HoldsOfWhole : ℕ → List ℕ → (List ℕ → Type 0) → Type 0
HoldsOfWhole size given P = (rest : List ℕ) → length (given ++ rest) ≡ size → P (given ++ rest)

-- further bytes were read, and put after those in a window
pub record HasReadOn (was given held holds : List ℕ) : Type 0 where
  pub bytes : List ℕ
  pub read : given ≡ was ++ bytes
  pub put : holds ≡ held ++ bytes

-- why a read failed: that the disk has is told only where it has
abbrev pub FailsToRead : ℕ → ℕ → FileError → Type 0
FailsToRead was faults error = (error ≡ Failed → was < faults) × (error ≡ NoRoom → ⊥)

-- each batch that stands at the front of bytes that begin so takes this many
abbrev pub TakesBytes : ℕ → List ℕ → Type 0
TakesBytes n front =
    (at : ℕ) (events : List (List ℕ)) (rest more : List ℕ) (begins : BeginsBatch at events rest (front ++ more))
    → length (front ++ more) < 2 ^ 63 → length begins.frame ≡ n

-- where no batch stands at the front of the window, none stands there in the file
abbrev pub TellsBatch : ℕ → List ℕ → List ℕ → Type 0
TellsBatch size given window =
    (at : ℕ) (rest : List ℕ) → length (given ++ rest) ≡ size → BeginsNoBatch at window → BeginsNoBatch at (window ++ rest)

-- the sector of the last batch's gate, at an offset of the file, has these bytes; where there is no batch, they are none
pub record HasGate (last end : ℕ) (gate file : List ℕ) : Type 0 where
  pub again : take (length gate) (drop last file) ≡ gate
  pub size : (length gate ≡ 4096) ⊎ ((last ≡ end) × (length gate ≡ 0))
  pub within : last + length gate ≤ end

-- the window has all that was read after some bytes, and isn't done
pub record IsAfter (done : ℕ) (given window : List ℕ) : Type 0 where
  pub read : done ≤ length given
  pub rest : window ≡ drop done given

module _ {S : Type 0} (next : S → Bool → List ℕ → S) where
  -- the batches of a file that begin at an offset led from one state to the other, as far as they were read, up to the window
  pub record AreReadDone (begin : ℕ) (given window : List ℕ) (end last count : ℕ) (gate : List ℕ) (old new : S) : Type 0 where
    pub begun : begin ≤ length given
    pub place : ℕ
    pub done : AreDone next begin (drop begin given) window place count old new
    pub last_is : last ≡ begin + place
    pub ends : end + length window ≡ length given
    pub has_gate : HasGate last end gate given

  -- and no further batch follows in the file; what stands there is in the window, or as much of it as tells whether it is an end
  pub record AreAllRead (begin size : ℕ) (given window : List ℕ) (end last count : ℕ) (gate : List ℕ) (old new : S) : Type 0 where
    pub so_far : AreReadDone begin given window end last count gate old new
    pub nothing : HoldsOfWhole size given (λ file. BeginsNoBatch end (drop end file))
    pub enough : (4096 < length window) ⊎ (length given ≡ size)

  -- an event isn't done again, or a read failed
  abbrev pub HaltsReading : ℕ → ℕ → List ℕ → S → ℕ → ℕ → Fault → Type 0
  HaltsReading begin size given old was faults Unreadable = ⊥
  HaltsReading begin size given old was faults (Damaged n) = ⊥
  HaltsReading begin size given old was faults (Undone n) =
      (offset : ℕ) × (n ≡ begin + offset) × HoldsOfWhole size given (λ file. IsIdleAt next begin offset (drop begin file) old)
  HaltsReading begin size given old was faults (OfFile error) = FailsToRead was faults error

module _ {S : Type 0} (loads : List ℕ → S → Type 0) (next : S → Bool → List ℕ → S) where
  -- this was found in a file: the machine for which it stands, where its batches end, and the last one's gate
  pub record IsFound (end last : ℕ) (gate file : List ℕ) (s : S) : Type 0 where
    pub is : IsReplayed loads next end last file s
    pub has_gate : HasGate last end gate file

  -- the file is refused for this, whatever the bytes are that weren't read; or a read failed
  abbrev pub IsRefusedSoFar : ℕ → List ℕ → ℕ → ℕ → Fault → Type 0
  IsRefusedSoFar size given was faults Unreadable = HoldsOfWhole size given (HasNoState loads next)
  IsRefusedSoFar size given was faults (Damaged n) =
      HoldsOfWhole size given (λ file. IsDamaged loads next n file × HasNoState loads next file)
  IsRefusedSoFar size given was faults (Undone n) = HoldsOfWhole size given (IsUndone loads next n)
  IsRefusedSoFar size given was faults (OfFile error) = FailsToRead was faults error

  -- all of the file was read, and it is refused for this; or a read failed
  abbrev pub IsRefusedWhole : ℕ → List ℕ → ℕ → ℕ → Fault → Type 0
  IsRefusedWhole size file was faults Unreadable = (length file ≡ size) × HasNoState loads next file
  IsRefusedWhole size file was faults (Damaged n) = (length file ≡ size) × IsDamaged loads next n file × HasNoState loads next file
  IsRefusedWhole size file was faults (Undone n) = (length file ≡ size) × IsUndone loads next n file
  IsRefusedWhole size file was faults (OfFile error) = FailsToRead was faults error
