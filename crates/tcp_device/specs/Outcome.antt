-- How a command ended that a device has completed.
use Rattle.std.specs.Prelude.{ℕ, ◌≡◌, ◌/◌, ◌%◌, ◌^◌, List, Option, Some, None}
use Rattle.zone_state.specs.Status.{type_of}
use Rattle.zone_state.specs.declared.status.Status.{Status}
use Rattle.zone_state.specs.declared.status.StatusType.{StatusType}
use Rattle.zone_state.specs.declared.status.StatusType.TheVariants.{Generic}
use Rattle.nvme_entry.specs.Completion.{completion_bytes}
use Rattle.nvme_entry.specs.CompletionFields.{AreCompletionFields}
use Rattle.nvme_entry.specs.Dwords.{dword}
use Rattle.nvme_entry.specs.declared.completion.Completion.{Completion}
use Rattle.tcp_connection.specs.declared.queue.Outcome.{Outcome}

-- a completion has the status code type in bits 27:25 of Dword 3, and the status code in bits 24:17; of another type, which no completion
-- of the device has, it stands for an internal error (NVMe Base 2.0, 3.3.3.2)
abbrev pub status_by : Option StatusType → ℕ → Status
status_by (Some kind) code = record { kind = kind; code = code }
status_by None code = record { kind = Generic; code = 6 }

abbrev pub status_in : List ℕ → Status
status_in entry = status_by (type_of (dword entry 3 / 2 ^ 25 % 2 ^ 3)) (dword entry 3 / 2 ^ 17 % 2 ^ 8)

-- what the host is told of it: its status, and Dwords 0 and 1
abbrev pub outcome_in : List ℕ → Outcome
outcome_in entry = record { status = status_in entry; dw0 = dword entry 0; dw1 = dword entry 1 }

-- the outcome of each completion that a device gives is the one that it spelled
abbrev pub outcome_of : Completion → Outcome
outcome_of c = record { status = c.status; dw0 = c.dw0; dw1 = c.dw1 }

abbrev pub OutcomesAreTold : Type 0
OutcomesAreTold = (c : Completion) → AreCompletionFields c → outcome_in (completion_bytes c) ≡ outcome_of c
