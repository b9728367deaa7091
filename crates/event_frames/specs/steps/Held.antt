-- What has come of a frame, in its parts: the header, the entry and the data.
use Rattle.std.specs.Prelude.{ℕ, Bool, ◌≡◌, ◌<◌, ◌≤◌, ◌==◌, ◌&&◌, if◌then◌else◌, List, [], ◌++◌, length, slice_index, take, ◌+◌, ◌^◌, Option, Some, None}
use Rattle.common_definitions.specs.Bytes.{AreBytes, field}
use Rattle.zone_state.specs.declared.state.FaultState.{FaultState}
use Rattle.zone_state.specs.declared.state.FaultState.TheVariants.{ReadOnly, Offline}
use Rattle.event_frames.specs.Requests.{ToldRequest, told_of, Submitted, Turned, Faulted, Drained, Saved}
use Rattle.event_frames.specs.Streams.{IsFirstWrong, IsHeader, behind, field_at}
use Rattle.event_frames.specs.declared.fault.StreamFault.{StreamFault}
use Rattle.event_frames.specs.declared.fault.StreamFault.TheVariants as fault
use Rattle.event_frames.specs.declared.request.Request.{Request}
use Rattle.event_frames.specs.declared.parts.Parts.{Parts}
use Rattle.event_frames.specs.declared.parts.Flaw.{Flaw}
use Rattle.event_frames.specs.declared.parts.Flaw.TheVariants.{Byte, Memory}

-- is it the whole header of a submission?
abbrev pub is_submission : List ℕ → Bool
is_submission head = length head == 16 && slice_index head 0 == 1

-- how many bytes of an entry, and of data, go with a header
abbrev pub entry_bytes : List ℕ → ℕ
entry_bytes head = if is_submission head then 64 else 0

abbrev pub input_bytes : List ℕ → ℕ
input_bytes head = if is_submission head then field head 8 4 else 0

-- the state that a number stands for
abbrev pub state_numbered : ℕ → FaultState
state_numbered number = if number == 1 then ReadOnly else Offline

-- the request that a header, an entry and data are of
abbrev pub request_in : List ℕ → List ℕ → List ℕ → ToldRequest
request_in head entry input =
    if slice_index head 0 == 1 then Submitted (field head 2 2) entry input
    else (if slice_index head 0 == 2 then Turned (slice_index head 1)
    else (if slice_index head 0 == 3 then Faulted (field head 4 4) (state_numbered (slice_index head 1))
    else (if slice_index head 0 == 4 then Drained (field head 4 4) else Saved)))

-- how many bytes the frame of a header has; of less than a header, a header's
abbrev pub wanted : List ℕ → ℕ
wanted head = 16 + entry_bytes head + input_bytes head

-- how many bytes of a frame have come
abbrev pub come : Parts → ℕ
come parts = length parts.header.items + length parts.entry.items + length parts.input.items

-- which they are
abbrev pub pending_of : Parts → List ℕ
pending_of parts = parts.header.items ++ parts.entry.items ++ parts.input.items

-- parts of a frame, none of which is longer than it is to be, and each of which has come before the next
pub record AreParts (header entry input : List ℕ) : Type 0 where
  pub bytes : AreBytes header
  pub right : IsHeader header
  pub most_header : length header ≤ 16
  pub most_entry : length entry ≤ entry_bytes header
  pub most_input : length input ≤ input_bytes header
  pub in_order : length entry < entry_bytes header → length input ≡ 0

abbrev pub IsHeld : Parts → Type 0
IsHeld parts = AreParts parts.header.items parts.entry.items parts.input.items

-- a frame grew by so many bytes of a piece: by all of it, or up to its end, which wasn't reached before
pub record Grows (old new : Parts) (piece : List ℕ) (count : ℕ) : Type 0 where
  pub within : count ≤ length piece
  pub grown : pending_of new ≡ pending_of old ++ take count piece
  pub held : IsHeld new
  pub far : come new < wanted new.header.items → count ≡ length piece
  pub some : come old < wanted old.header.items → come new ≡ wanted new.header.items → 0 < count

-- why a frame didn't grow: a wrong byte at a place of its header, or want of memory
abbrev pub HasFlaw : List ℕ → Flaw → Type 0
HasFlaw bytes (Byte place) = IsFirstWrong (take 16 bytes) place
HasFlaw bytes Memory = Unit {0}

-- the fault of a flaw in a frame that begins at a place
abbrev pub fault_at : ℕ → Flaw → StreamFault
fault_at place (Byte offset) = fault.Byte (behind place offset) (field_at offset)
fault_at place Memory = fault.Memory

-- a frame that has come in part
pub record IsBegun (parts : Parts) : Type 0 where
  pub held : IsHeld parts
  pub short : come parts < wanted parts.header.items

-- what a session has: a frame that has come in part, and a place
pub record IsSession (parts : Parts) (place : ℕ) : Type 0 where
  pub begun : IsBegun parts
  pub small : place < 2 ^ 64

-- the request of a frame is given, where it has come whole, and how many bytes it had; nothing is left of it
abbrev pub Finishes : Parts → Parts → Option Request → ℕ → Type 0
Finishes old new None size = (new ≡ old) × (come old < wanted old.header.items) × (size ≡ 0)
Finishes old new (Some r) size =
    (told_of r ≡ request_in old.header.items old.entry.items old.input.items) × (come old ≡ wanted old.header.items) × IsBegun new
    × (pending_of new ≡ []) × (size ≡ come old)
