-- Laws of frames.
use Rattle.std.specs.Prelude.{ℕ, ◌≡◌, List, ◌++◌}
use Rattle.event_frames.specs.Requests.{Fits, ToldRequest}
use Rattle.event_frames.specs.Frames.{request_frame}
use Rattle.event_frames.specs.Streams.{Splits}

-- a frame is read back, whatever stands behind it: no other request has these bytes, and its length is told by its header
abbrev pub FramesReadBack : Type 0
FramesReadBack =
    (r s : ToldRequest) (more others : List ℕ) → Fits r → Fits s → request_frame r ++ more ≡ request_frame s ++ others
    → (r ≡ s) × (more ≡ others)

-- a stream splits in one way into requests and a rest, however it was cut into pieces
abbrev pub StreamsSplitInOneWay : Type 0
StreamsSplitInOneWay =
    (stream : List ℕ) (first others : List ToldRequest) (rest left : List ℕ) → Splits stream first rest → Splits stream others left
    → (first ≡ others) × (rest ≡ left)
