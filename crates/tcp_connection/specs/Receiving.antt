-- A receiver of the PDUs of one connection, and what it takes of a piece of the stream.
use Rattle.std.specs.Prelude.{ℕ, ◌≡◌, ◌-◌, List, [], ◌++◌, length, take, drop, replicate, None}
use Rattle.tcp_pdus.specs.declared.received.Awaits.TheVariants.{Commands, Initialization}
use Rattle.tcp_pdus.specs.declared.received.HostPdu.TheVariants.{IcReq, H2cTermReq, CapsuleCmd, H2cData}
use Rattle.tcp_pdus.specs.declared.transfer.ReadyToTransfer.{ReadyToTransfer}
use Rattle.tcp_pdus.specs.Received.{header_bytes}
use Rattle.tcp_pdus.specs.Transfer.{data_header_in}
use Rattle.tcp_connection.specs.declared.expected.Expected.{Expected}
use Rattle.tcp_connection.specs.declared.expected.Progress.{Progress}
use Rattle.tcp_connection.specs.declared.expected.Progress.TheVariants.{Partial, Whole, Failed}
use Rattle.tcp_connection.specs.Transfers.{with_data, with_wanted, without_command}
use Rattle.tcp_connection.specs.Reading.{reading}

-- what it expects, with the R2Ts that are under way; the bytes of the PDU that it reads; and what they come to
pub record ReceiverState : Type 0 where
  pub expected : Expected
  pub pending : List ℕ
  pub progress : Progress

-- what is left of a piece is taken only while the PDU isn't whole, and no check has failed
abbrev pub taken_by : Progress → ReceiverState → List ℕ → ReceiverState × ℕ
taken_by Partial s piece =
    let r = reading s.expected (s.pending ++ piece) in
    (record s { progress = r.0; pending = take r.1 (s.pending ++ piece) }, r.1 - length s.pending)
taken_by (Whole pdu) s piece = (s, 0)
taken_by (Failed error) s piece = (s, 0)

-- the receiver behind a piece, and how many bytes of it were taken
abbrev pub taken : ReceiverState → List ℕ → ReceiverState × ℕ
taken s piece = taken_by s.progress s piece

-- a receiver to which nothing has come: R2Ts may have four tags, and none is under way
abbrev pub fresh : ReceiverState
fresh = record {
  expected = record { awaits = Initialization; transfers = replicate 4 None };
  pending = [];
  progress = Partial;
}

-- the tag for which an H2CData comes, and its data
abbrev pub tag_in : List ℕ → ℕ
tag_in pending = (data_header_in (take 24 pending)).tag

-- the data of a whole H2CData joins what came for its tag before
abbrev pub joined : List ℕ → Expected → Expected
joined pending e = record e { transfers = with_data (tag_in pending) (drop 24 pending) e.transfers }

-- behind a whole PDU the next one begins
abbrev pub next_by : Progress → ReceiverState → ReceiverState
next_by (Whole IcReq) s = record s { pending = []; progress = Partial }
next_by (Whole H2cTermReq) s = record s { pending = []; progress = Partial }
next_by (Whole CapsuleCmd) s = record s { pending = []; progress = Partial }
next_by (Whole H2cData) s = record { expected = joined s.pending s.expected; pending = []; progress = Partial }
next_by Partial s = s
next_by (Failed error) s = s

abbrev pub next : ReceiverState → ReceiverState
next s = next_by s.progress s

-- between PDUs nothing of the next one has come
pub record IsBetween (s : ReceiverState) : Type 0 where
  pub nothing : s.pending ≡ []
  pub partial : s.progress ≡ Partial

-- commands are awaited from now on, with so much data in a capsule at most
abbrev pub awaiting : ℕ → ReceiverState → ReceiverState
awaiting in_capsule s = record s { expected = record s.expected { awaits = Commands in_capsule } }

-- the data of this R2T is expected, too
abbrev pub expecting : ReadyToTransfer → ReceiverState → ReceiverState
expecting wanted s = record s { expected = record s.expected { transfers = with_wanted wanted s.expected.transfers } }

-- the R2T of a command goes, where it has one, with its data
abbrev pub forgetting : ℕ → ReceiverState → ReceiverState
forgetting command s = record s { expected = record s.expected { transfers = without_command command s.expected.transfers } }

-- the header of a whole PDU, or what was read of one in which a check failed
abbrev pub IsHeaderOf : Progress → ReceiverState → List ℕ → Type 0
IsHeaderOf Partial s bytes = Unit {0}
IsHeaderOf (Whole pdu) s bytes = bytes ≡ take (header_bytes pdu) s.pending
IsHeaderOf (Failed error) s bytes = bytes ≡ s.pending

-- the data of a whole PDU that is no H2CData
abbrev pub IsDataOf : Progress → ReceiverState → List ℕ → Type 0
IsDataOf Partial s bytes = Unit {0}
IsDataOf (Whole IcReq) s bytes = bytes ≡ drop 128 s.pending
IsDataOf (Whole H2cTermReq) s bytes = bytes ≡ drop 24 s.pending
IsDataOf (Whole CapsuleCmd) s bytes = bytes ≡ drop 72 s.pending
IsDataOf (Whole H2cData) s bytes = Unit {0}
IsDataOf (Failed error) s bytes = Unit {0}
