-- Which event a frame tells (profile).
use Rattle.std.specs.Prelude.{ℕ, ◌≡◌, ◌==◌, ◌&&◌, not, nat_le, if◌then◌else◌, List, length, take, drop, slice_index, Option, Some, None}
use Rattle.common_definitions.specs.Bytes.{field}
use Rattle.zone_state.specs.declared.state.FaultState.TheVariants.{ReadOnly, Offline}
use Rattle.nvme_entry.specs.declared.command.TheConstants.{MOST_TRANSFER}
use Rattle.device_events.specs.ToldEvents.{ToldEvent}
use Rattle.device_events.specs.ToldEvents as told
use Rattle.event_frames.specs.Frames.{request_frame}
use Rattle.event_frames.specs.Requests.{Fits, ToldRequest}
use Rattle.event_frames.specs.Requests as request
use Rattle.durable_device.specs.declared.frame_event.FrameEvent.{FrameEvent}
use Rattle.durable_device.specs.declared.frame_event.FrameEvent.TheVariants.{Submit, Turn, Fault}
use Rattle.durable_device.specs.declared.frame_event.Header.{Header}

-- what an event is asked for by
abbrev pub request_of : ToldEvent → ToldRequest
request_of (told.Submitted queue entry input) = request.Submitted queue entry input
request_of (told.Turned run) = request.Turned run
request_of (told.Faulted zone state) = request.Faulted zone state

-- the bytes are the frame of this event
pub record IsFrameOf (e : ToldEvent) (bytes : List ℕ) : Type 0 where
  pub fits : Fits (request_of e)
  pub spelled : bytes ≡ request_frame (request_of e)

-- ---- reading

-- the fields of a header
abbrev pub header_in : List ℕ → Header
header_in bytes = record {
  kind = slice_index bytes 0;
  part = slice_index bytes 1;
  queue = field bytes 2 2;
  number = field bytes 4 4;
  size = field bytes 8 4;
  zeros = field bytes 12 4;
}

-- those of a submission, and behind them an entry and as much data as they tell
abbrev pub submission_in : Header → List ℕ → Option ToldEvent
submission_in h behind =
    if nat_le 64 (length behind)
    && (h.part == 0 && h.number == 0 && h.zeros == 0 && h.size == length (drop 64 behind) && nat_le h.size MOST_TRANSFER)
    then Some (told.Submitted h.queue (take 64 behind) (drop 64 behind)) else None

-- those of a turn, and nothing behind them
abbrev pub turn_in : Header → List ℕ → Option ToldEvent
turn_in h behind =
    if h.queue == 0 && h.number == 0 && h.size == 0 && h.zeros == 0 && length behind == 0 then Some (told.Turned h.part) else None

-- those of a fault, and nothing behind them
abbrev pub fault_in : Header → List ℕ → Option ToldEvent
fault_in h behind =
    if not (h.queue == 0 && h.size == 0 && h.zeros == 0 && length behind == 0) then None
    else (if h.part == 1 then Some (told.Faulted h.number ReadOnly) else (if h.part == 2 then Some (told.Faulted h.number Offline) else None))

abbrev pub event_by : Header → List ℕ → Option ToldEvent
event_by h behind =
    if h.kind == 1 then submission_in h behind
    else (if h.kind == 2 then turn_in h behind else (if h.kind == 3 then fault_in h behind else None))

-- the event of which the bytes are the frame; they are that of no other, and none where they are the frame of none
-- (`FramesTellEvents`)
unfoldable pub frame_event : List ℕ → Option ToldEvent
frame_event bytes = if nat_le 16 (length bytes) then event_by (header_in bytes) (drop 16 bytes) else None

-- what is told by an event whose bytes lie in a frame
abbrev pub told_by : FrameEvent → ToldEvent
told_by (Submit queue entry input) = told.Submitted queue entry.now input.now
told_by (Turn run) = told.Turned run
told_by (Fault zone state) = told.Faulted zone state
