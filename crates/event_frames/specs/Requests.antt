-- What a stream asks of a device (profile).
use Rattle.std.specs.Prelude.{ℕ, ◌≡◌, ◌<◌, ◌≤◌, ◌^◌, List, length}
use Rattle.zone_state.specs.declared.state.FaultState.{FaultState}
use Rattle.device_events.specs.declared.event.Event.{Event}
use Rattle.device_events.specs.declared.event.Event.TheVariants as event
use Rattle.event_frames.specs.declared.request.Request.{Request}
use Rattle.event_frames.specs.declared.request.Request.TheVariants as request

-- a request without where its data lies in memory
pub data ToldRequest : Type 0 where
  Submitted : (queue : ℕ) (entry input : List ℕ) → ToldRequest
  Turned : (run : ℕ) → ToldRequest
  Faulted : (zone : ℕ) (state : FaultState) → ToldRequest
  Drained : (turns : ℕ) → ToldRequest
  Saved : ToldRequest

-- what an event is told as
abbrev pub told_event : Event → ToldRequest
told_event (event.Submit queue entry input) = Submitted queue entry input.items
told_event (event.Turn run) = Turned run
told_event (event.Fault zone state) = Faulted zone state

-- what a request is told as
abbrev pub told_of : Request → ToldRequest
told_of (request.Event e) = told_event e
told_of (request.Drain turns) = Drained turns
told_of request.Save = Saved

-- what fits a frame: numbers within their fields, an entry of 64 bytes (NVMe Base 2.0, 3.3.3.1), and at most as much data as a
-- command moves
abbrev pub Fits : ToldRequest → Type 0
Fits (Submitted queue entry input) = (queue < 2 ^ 16) × (length entry ≡ 64) × (length input ≤ 131072)
Fits (Turned run) = run < 2 ^ 8
Fits (Faulted zone state) = zone < 2 ^ 32
Fits (Drained turns) = turns < 2 ^ 32
Fits Saved = Unit {0}
