-- What a Connect that succeeds sets up, and what completes one (NVMe Base 2.0, 6.3).
use Rattle.std.specs.Prelude.{ℕ, ◌<◌, ◌≤◌, ◌+◌}
use Rattle.zone_state.specs.declared.status.Status.{Status}
use Rattle.zone_state.specs.declared.status.TheConstants.Status.{SUCCESS}
use Rattle.tcp_connection.specs.declared.queue.Outcome.{Outcome}
use Rattle.tcp_target.specs.declared.connect_checks.TheConstants.{CONNECT_INVALID_PARAMETERS}
use Rattle.tcp_target.specs.declared.connected.Connected.{Connected}
use Rattle.tcp_target.specs.declared.connect_request.ConnectRequest.{ConnectRequest}
use Rattle.tcp_target.specs.ConnectRequest.{has_flow_control}

-- success tells the controller in bits 15:0; bits 31:16 ask for no authentication
abbrev pub success : ℕ → Outcome
success controller = record { status = SUCCESS; dw0 = controller; dw1 = 0 }

-- a refusal; one for a parameter that is invalid tells where that stands: in bits 15:0 how far from the front of the entry, or, where
-- bit 16 is set, of the data
abbrev pub refusal : Status → Outcome
refusal status = record { status = status; dw0 = 0; dw1 = 0 }

abbrev pub invalid_in_entry : ℕ → Outcome
invalid_in_entry place = record { status = CONNECT_INVALID_PARAMETERS; dw0 = place; dw1 = 0 }

abbrev pub invalid_in_data : ℕ → Outcome
invalid_in_data place = record { status = CONNECT_INVALID_PARAMETERS; dw0 = 0x10000 + place; dw1 = 0 }

-- the most bytes of data in a capsule, of whatever queue (IOCCSZ counts them and the entry)
abbrev pub in_capsule : ℕ
in_capsule = 8192

-- a queue of this controller, with SQSIZE and one entries
abbrev pub connected : ConnectRequest → ℕ → Connected
connected request controller = record {
  controller = controller;
  queue = record { id = request.queue; entries = request.size + 1; has_flow_control = has_flow_control request };
  in_capsule = in_capsule;
}

-- so a queue has entries, and no more than there may be, and capsules no more data than is taken
pub record IsAllowed (c : Connected) : Type 0 where
  pub some : 0 < c.queue.entries
  pub most : c.queue.entries ≤ 128
  pub few : c.in_capsule ≤ 8192
