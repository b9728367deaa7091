-- A stream of frames as it comes: what is whole, what has come of the next frame, and its first wrong byte (profile).
use Rattle.std.specs.Prelude.{ℕ, ◌≡◌, ◌<◌, ◌≤◌, ◌+◌, ◌-◌, ◌^◌, ◌⊎◌, ◌==◌, ◌||◌, nat_lt, min, if◌then◌else◌, List, [], ◌++◌, length, take, slice_index, flat_map, Option, None, Some}
use Rattle.std.specs.List.{AllByRecursion}
use Rattle.event_frames.specs.Requests.{Fits, ToldRequest, told_of}
use Rattle.event_frames.specs.declared.request.Request.{Request}
use Rattle.event_frames.specs.Frames.{frame_length, request_frame}
use Rattle.event_frames.specs.declared.fault.Field.{Field}
use Rattle.event_frames.specs.declared.fault.Field.TheVariants as field
use Rattle.event_frames.specs.declared.fault.StreamFault.{StreamFault}
use Rattle.event_frames.specs.declared.fault.StreamFault.TheVariants as fault

-- ---- the bytes that a header may have

-- the most that the part may be: any run, one of two states, else 0
abbrev pub most_part : ℕ → ℕ
most_part kind = if kind == 2 then 255 else (if kind == 3 then 2 else 0)

-- the most that a byte of the queue may be, or one of the lower two of the length: a submission alone has these
abbrev pub most_of_submission : ℕ → ℕ
most_of_submission kind = if kind == 1 then 255 else 0

-- the most that a byte of the number may be: a zone of a fault, turns of a drain
abbrev pub most_of_number : ℕ → ℕ
most_of_number kind = if kind == 3 || kind == 4 then 255 else 0

-- the most that the third byte of the length may be behind two whose sum this is, so that a command can move as much: 131072
-- bytes are two times 65536
abbrev pub most_of_length : ℕ → ℕ → ℕ
most_of_length kind below = if kind == 1 then (if below == 0 then 2 else 1) else 0

-- the least that the byte at this place of a header may be
abbrev pub least_at : List ℕ → ℕ → ℕ
least_at bytes place = if place == 0 then 1 else (if place == 1 then (if slice_index bytes 0 == 3 then 1 else 0) else 0)

-- the most that it may be, by the kind and the bytes before it
abbrev pub most_at : List ℕ → ℕ → ℕ
most_at bytes place =
    if place == 0 then 5
    else (if place == 1 then most_part (slice_index bytes 0)
    else (if nat_lt place 4 then most_of_submission (slice_index bytes 0)
    else (if nat_lt place 8 then most_of_number (slice_index bytes 0)
    else (if nat_lt place 10 then most_of_submission (slice_index bytes 0)
    else (if place == 10 then most_of_length (slice_index bytes 0) (slice_index bytes 8 + slice_index bytes 9) else 0)))))

-- the byte at a place is one that may stand there
pub record IsAllowed (bytes : List ℕ) (place : ℕ) : Type 0 where
  pub least : least_at bytes place ≤ slice_index bytes place
  pub most : slice_index bytes place ≤ most_at bytes place

-- each byte of a header, or of what has come of it, may stand where it does
abbrev pub IsHeader : List ℕ → Type 0
IsHeader bytes = (place : ℕ) → place < length bytes → IsAllowed bytes place

-- ---- a stream

-- less than a whole frame: its header is right as far as it has come, and it is short
pub record IsPartial (bytes : List ℕ) : Type 0 where
  pub header : IsHeader (take 16 bytes)
  pub short : (length bytes < 16) ⊎ (length bytes < frame_length bytes)

-- the byte at this place is the first of a header that may not stand where it does
pub record IsFirstWrong (header : List ℕ) (place : ℕ) : Type 0 where
  pub within : place < length header
  pub before : (k : ℕ) → k < place → IsAllowed header k
  pub wrong : IsAllowed header place → ⊥

-- the field of a header that the byte at a place is of
abbrev pub field_at : ℕ → Field
field_at place =
    if place == 0 then field.Kind
    else (if place == 1 then field.Part
    else (if nat_lt place 4 then field.Queue
    else (if nat_lt place 8 then field.Number else (if nat_lt place 12 then field.Length else field.Zeros))))

-- what a session holds: the bytes of the next frame that have come, where in the stream the first of them stands, counted up to
-- 2 ^ 64 - 1, and why it takes no more
pub record SessionState : Type 0 where
  pub pending : List ℕ
  pub place : ℕ
  pub fault : Option StreamFault

-- a place in the stream, so many bytes behind another
abbrev pub behind : ℕ → ℕ → ℕ
behind place count = min (place + count) (2 ^ 64 - 1)

-- of a stream whose next frame begins with these bytes, at this place, the fault is the first: a byte that may not stand where
-- it does, with the field and where it stands; or want of memory
abbrev pub IsFault : ℕ → List ℕ → StreamFault → Type 0
IsFault place bytes (fault.Byte at part) = (k : ℕ) × IsFirstWrong (take 16 bytes) k × (at ≡ behind place k) × (part ≡ field_at k)
IsFault place bytes (fault.CutOff at) = ⊥
IsFault place bytes fault.Memory = Unit {0}

-- it holds all of the piece too
pub record TakesAll (old new : SessionState) (piece : List ℕ) (count : ℕ) : Type 0 where
  pub all : count ≡ length piece
  pub pending : new.pending ≡ old.pending ++ piece
  pub place : new.place ≡ old.place

-- what it held and the first bytes of the piece are the frame of a request, and it holds nothing
pub record TakesOne (old new : SessionState) (piece : List ℕ) (count : ℕ) (r : ToldRequest) : Type 0 where
  pub some : 0 < count
  pub fits : Fits r
  pub frame : request_frame r ≡ old.pending ++ take count piece
  pub pending : new.pending ≡ []
  pub place : new.place ≡ behind old.place (length (request_frame r))

-- a session takes so many bytes of a piece: all of it, where no frame is whole with it; or those up to the end of the frame of a
-- request, which is given
abbrev pub Takes : SessionState → SessionState → List ℕ → ℕ → Option Request → Type 0
Takes old new piece count None = TakesAll old new piece count
Takes old new piece count (Some r) = TakesOne old new piece count (told_of r)

-- a session is broken by its first fault, and gives that one from then on
pub record Breaks (old new : SessionState) (piece : List ℕ) (fault : StreamFault) : Type 0 where
  pub first : old.fault ≡ None → IsFault old.place (old.pending ++ piece) fault
  pub again : (told : StreamFault) → old.fault ≡ Some told → fault ≡ told
  pub kept : new.fault ≡ Some fault

-- what may stand behind the last whole frame: less than one, or bytes of which one is wrong
abbrev pub IsRest : List ℕ → Type 0
IsRest bytes = IsPartial bytes ⊎ ((place : ℕ) × IsFirstWrong (take 16 bytes) place)

-- a stream is the frames of these requests, and then these bytes
pub record Splits (stream : List ℕ) (requests : List ToldRequest) (rest : List ℕ) : Type 0 where
  pub whole : stream ≡ flat_map request_frame requests ++ rest
  pub each : AllByRecursion Fits requests
  pub behind_them : IsRest rest
