-- What has come of a PDU, in its parts: the header, and behind it data.
use Rattle.std.specs.Prelude.{ℕ, ◌≡◌, ◌<◌, ◌≤◌, ◌+◌, List, [], ◌++◌, length, take, Option, None, Ok, IfSome, min, Vec, vec_len, vec_capacity}
use Rattle.std.specs.declared.alloc.Global.{Global}
use Rattle.tcp_pdus.specs.declared.common_header.CommonHeader.{CommonHeader}
use Rattle.tcp_pdus.specs.declared.received.HostPdu.{HostPdu}
use Rattle.tcp_pdus.specs.declared.received.HostPdu.TheVariants.{IcReq, H2cTermReq, CapsuleCmd, H2cData}
use Rattle.tcp_pdus.specs.CommonHeader.{common_header_in}
use Rattle.tcp_pdus.specs.Received.{checked, header_bytes, in_capsule}
use Rattle.tcp_connection.specs.declared.expected.Expected.{Expected}
use Rattle.tcp_connection.specs.declared.expected.Progress.{Progress}
use Rattle.tcp_connection.specs.declared.parts.Parts.{Parts}
use Rattle.tcp_connection.specs.declared.expected.Progress.TheVariants.{Partial}
use Rattle.tcp_connection.specs.Reading.{behind_common, behind_header, header_error, reading}
use Rattle.tcp_connection.specs.Receiving.{ReceiverState}
use Rattle.tcp_connection.specs.Transfers.{Transfer, transfer_at, with_data}
use Rattle.tcp_pdus.specs.Transfer.{data_header_in}

-- the data that came of the PDU
abbrev pub body_of : Parts → List ℕ
body_of parts = parts.data.items ++ parts.transfer.items

-- the bytes that came of it
abbrev pub pending_of : Parts → List ℕ
pending_of parts = parts.header.items ++ body_of parts

-- what they stand for
abbrev pub state_of : Expected → Parts → Progress → ReceiverState
state_of e parts progress = record { expected = e; pending = pending_of parts; progress = progress }

-- data stands in one of two places, by what it is of
abbrev pub IsApart : HostPdu → Parts → Type 0
IsApart IcReq parts = parts.transfer.items ≡ []
IsApart H2cTermReq parts = parts.transfer.items ≡ []
IsApart CapsuleCmd parts = parts.transfer.items ≡ []
IsApart H2cData parts = parts.data.items ≡ []

-- a PDU of which the common header passes, in its parts
pub record IsPlaced (pdu : HostPdu) (parts : Parts) : Type 0 where
  pub most : length parts.header.items ≤ header_bytes pdu
  pub in_order : length parts.header.items < header_bytes pdu → body_of parts ≡ []
  pub apart : IsApart pdu parts

-- room for each part
pub record HasRoom (parts : Parts) : Type 0 where
  pub header : 128 ≤ vec_capacity parts.header
  pub «data» : 8192 ≤ vec_capacity parts.data
  pub transfer : 131072 ≤ vec_capacity parts.transfer

-- few enough bytes in each part
pub record HasFew (parts : Parts) : Type 0 where
  pub header : length parts.header.items ≤ 128
  pub «data» : length parts.data.items ≤ 8192
  pub transfer : length parts.transfer.items ≤ 131072

-- bytes of a piece were added, but no more than were missing
pub record Adds (old new : Vec ℕ Global) (piece : List ℕ) (missing size : ℕ) : Type 0 where
  pub count : size ≡ min missing (length piece)
  pub added : new.items ≡ old.items ++ take size piece
  pub room : vec_capacity old ≤ vec_capacity new

-- there is room for what is missing of the data
abbrev pub HasDataRoom : HostPdu → Parts → ℕ → Type 0
HasDataRoom IcReq parts missing = vec_len parts.data + missing ≤ vec_capacity parts.data
HasDataRoom H2cTermReq parts missing = vec_len parts.data + missing ≤ vec_capacity parts.data
HasDataRoom CapsuleCmd parts missing = vec_len parts.data + missing ≤ vec_capacity parts.data
HasDataRoom H2cData parts missing = vec_len parts.transfer + missing ≤ vec_capacity parts.transfer

-- bytes of a piece were added to the data alone
abbrev pub AddsData : HostPdu → Parts → Parts → List ℕ → ℕ → ℕ → Type 0
AddsData IcReq old new piece missing size = Adds old.data new.data piece missing size × (new ≡ record old { «data» = new.data })
AddsData H2cTermReq old new piece missing size = Adds old.data new.data piece missing size × (new ≡ record old { «data» = new.data })
AddsData CapsuleCmd old new piece missing size = Adds old.data new.data piece missing size × (new ≡ record old { «data» = new.data })
AddsData H2cData old new piece missing size =
    Adds old.transfer new.transfer piece missing size × (new ≡ record old { transfer = new.transfer })

-- no more data is expected in a capsule than there is room for
abbrev pub IsBounded : Expected → Type 0
IsBounded expected = in_capsule expected.awaits ≤ 8192

-- what is held: nothing behind a common header that hasn't come whole, or its PDU in parts
pub record IsHeld (expected : Expected) (parts : Parts) : Type 0 where
  pub room : HasRoom parts
  pub bounded : IsBounded expected
  pub few : HasFew parts
  pub short : length parts.header.items < 8 → body_of parts ≡ []
  pub placed : (pdu : HostPdu) → 8 ≤ length parts.header.items
      → checked expected.awaits (common_header_in (take 8 parts.header.items)) ≡ Ok pdu → IsPlaced pdu parts

-- a common header has come, and passes; what is there is less than a PDU
pub record PassesCommon (expected : Expected) (parts : Parts) (common : CommonHeader) (pdu : HostPdu) : Type 0 where
  pub held : IsHeld expected parts
  pub long : 8 ≤ length parts.header.items
  pub is : common ≡ common_header_in (take 8 parts.header.items)
  pub passes : checked expected.awaits common ≡ Ok pdu
  pub less : behind_common expected common (pending_of parts) (Ok pdu) ≡ (Partial, length (pending_of parts))

-- a header has come, and passes
pub record PassesHeader (expected : Expected) (parts : Parts) (common : CommonHeader) (pdu : HostPdu) : Type 0 where
  pub held : IsHeld expected parts
  pub long : length parts.header.items ≡ header_bytes pdu
  pub is : common ≡ common_header_in (take 8 parts.header.items)
  pub passes : checked expected.awaits common ≡ Ok pdu
  pub no_error : header_error expected common pdu parts.header.items ≡ None
  pub most : length (pending_of parts) ≤ common.pdu_length

-- a PDU grew by so many bytes of a piece, to what was wanted
pub record Grows (expected : Expected) (old new : Parts) (piece : List ℕ) (size : ℕ) (progress : Progress) (wanted : Progress × ℕ) : Type 0 where
  pub held : IsHeld expected new
  pub to : progress ≡ wanted.0
  pub count : length (pending_of old) + size ≡ wanted.1
  pub within : size ≤ length piece
  pub grown : pending_of new ≡ take wanted.1 (pending_of old ++ piece)

-- a PDU grew to what its bytes with those of the piece come to,
abbrev pub GrowsToReading : Expected → Parts → Parts → List ℕ → ℕ × Progress → Type 0
GrowsToReading expected old new piece r =
    Grows expected old new piece r.0 r.1 (reading expected (pending_of old ++ piece))

-- behind a common header that passes,
abbrev pub GrowsBehindCommon : Expected → CommonHeader → HostPdu → Parts → Parts → List ℕ → ℕ × Progress → Type 0
GrowsBehindCommon expected common pdu old new piece r =
    Grows expected old new piece r.0 r.1 (behind_common expected common (pending_of old ++ piece) (Ok pdu))

-- and behind a header that passes
abbrev pub GrowsBehindHeader : Expected → CommonHeader → HostPdu → Parts → Parts → List ℕ → ℕ × Progress → Type 0
GrowsBehindHeader expected common pdu old new piece r =
    Grows expected old new piece r.0 r.1 (behind_header pdu common (pending_of old ++ piece) None)

-- what a receiver holds, and what it comes to
pub record IsReceiver (expected : Expected) (parts : Parts) (progress : Progress) : Type 0 where
  pub held : IsHeld expected parts
  pub read : reading expected (pending_of parts) ≡ (progress, length (pending_of parts))

-- a whole H2CData, of which the data fits to what came for its R2T
pub record EndsData (transfers : List (Option Transfer)) (parts : Parts) : Type 0 where
  pub header : length parts.header.items ≡ 24
  pub fits : IfSome (transfer_at (data_header_in parts.header.items).tag transfers)
      (λ t. length t.came + length parts.transfer.items ≤ t.wanted.length)

abbrev pub FitsData : HostPdu → List (Option Transfer) → Parts → Type 0
FitsData IcReq transfers parts = Unit {0}
FitsData H2cTermReq transfers parts = Unit {0}
FitsData CapsuleCmd transfers parts = Unit {0}
FitsData H2cData transfers parts = EndsData transfers parts

-- the R2Ts behind a whole PDU
abbrev pub transfers_after : HostPdu → Parts → List (Option Transfer) → List (Option Transfer)
transfers_after IcReq parts transfers = transfers
transfers_after H2cTermReq parts transfers = transfers
transfers_after CapsuleCmd parts transfers = transfers
transfers_after H2cData parts transfers = with_data (data_header_in parts.header.items).tag parts.transfer.items transfers
