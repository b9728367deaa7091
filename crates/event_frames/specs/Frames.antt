-- Requests and what answers them as frames of bytes (profile): a header of 16 bytes, an entry or a completion, and data.
use Rattle.std.specs.Prelude.{ℕ, ◌+◌, ◌==◌, if◌then◌else◌, List, [], ◌∷◌, ◌++◌, length, replicate, slice_index}
use Rattle.byteorder.specs.Endian.{little_bytes}
use Rattle.common_definitions.specs.Bytes.{field}
use Rattle.zone_state.specs.declared.state.FaultState.{FaultState}
use Rattle.zone_state.specs.declared.state.FaultState.TheVariants.{ReadOnly, Offline}
use Rattle.device_events.specs.Replies.{ReplyWithData}
use Rattle.device_events.specs.declared.reply.Reply.{Reply}
use Rattle.device_events.specs.declared.reply.Reply.TheVariants as reply
use Rattle.event_frames.specs.Requests.{ToldRequest, Submitted, Turned, Faulted, Drained, Saved}

-- a header: a kind, a part, a queue in two bytes, a number and how much data goes with it in four each, and four zeros
abbrev pub header : ℕ → ℕ → ℕ → ℕ → ℕ → List ℕ
header kind part queue number size = kind ∷ part ∷ (little_bytes 2 queue ++ little_bytes 4 number ++ little_bytes 4 size ++ replicate 4 0)

-- how a fault's state is numbered
abbrev pub state_number : FaultState → ℕ
state_number ReadOnly = 1
state_number Offline = 2

-- the header of a request
abbrev pub request_header : ToldRequest → List ℕ
request_header (Submitted queue entry input) = header 1 0 queue 0 (length input)
request_header (Turned run) = header 2 run 0 0 0
request_header (Faulted zone state) = header 3 (state_number state) 0 zone 0
request_header (Drained turns) = header 4 0 0 turns 0
request_header Saved = header 5 0 0 0 0

-- what goes with it: an entry, and the data beside it
abbrev pub request_body : ToldRequest → List ℕ
request_body (Submitted queue entry input) = entry ++ input
request_body (Turned run) = []
request_body (Faulted zone state) = []
request_body (Drained turns) = []
request_body Saved = []

-- the frame of a request
abbrev pub request_frame : ToldRequest → List ℕ
request_frame r = request_header r ++ request_body r

-- how many bytes a frame that begins with these has
abbrev pub frame_length : List ℕ → ℕ
frame_length bytes = if slice_index bytes 0 == 1 then 80 + field bytes 8 4 else 16

-- ---- what answers requests

-- the header of a reply with so much data
abbrev pub reply_header : Reply → ℕ → List ℕ
reply_header (reply.Complete queue entry length) size = header 1 0 queue 0 size
reply_header (reply.Pending run) size = header 2 run 0 0 size
reply_header reply.Idle size = header 3 0 0 0 size
reply_header reply.FaultTaken size = header 4 0 0 0 size
reply_header reply.FaultRefused size = header 5 0 0 0 size

-- the completion that goes with it
abbrev pub reply_body : Reply → List ℕ
reply_body (reply.Complete queue entry length) = entry
reply_body (reply.Pending run) = []
reply_body reply.Idle = []
reply_body reply.FaultTaken = []
reply_body reply.FaultRefused = []

-- the frame of a reply and its data
abbrev pub frame_of : Reply → List ℕ → List ℕ
frame_of r bytes = reply_header r (length bytes) ++ reply_body r ++ bytes

-- the frame of a reply with its data
abbrev pub reply_frame : ReplyWithData → List ℕ
reply_frame r = frame_of r.reply r.bytes

-- what ends the answer to a drain in which so many turns were given
abbrev pub drained_frame : ℕ → List ℕ
drained_frame turns = header 6 0 0 turns 0

-- the answer to a save
abbrev pub saved_frame : List ℕ
saved_frame = header 7 0 0 0 0
