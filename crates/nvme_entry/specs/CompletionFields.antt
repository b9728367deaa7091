-- What the bytes of a completion queue entry tell a host.
use Rattle.std.specs.Prelude.{ℕ, ◌≡◌, ◌<◌, ◌/◌, ◌%◌, ◌^◌, List, length, Option, Some}
use Rattle.std.specs.Option.{option_map}
use Rattle.zone_state.specs.Status.{type_of}
use Rattle.zone_state.specs.declared.status.StatusType.{StatusType}
use Rattle.nvme_entry.specs.Completion.{completion_bytes}
use Rattle.nvme_entry.specs.Dwords.{dword}
use Rattle.nvme_entry.specs.declared.completion.Completion.{Completion}

-- the completion with the fields that bytes tell, where they tell a known status code type: in Dword 2 the queue
-- identifier stands in bits 31:16; in Dword 3 the command identifier in bits 15:0, the status code in bits 24:17 and
-- its type in bits 27:25 (NVMe Base 2.0, 3.3.3.2)
abbrev pub completion_in : List ℕ → Option Completion
completion_in bytes = option_map
    (λ (kind : StatusType). record {
      dw0 = dword bytes 0;
      dw1 = dword bytes 1;
      queue = dword bytes 2 / 2 ^ 16;
      cid = dword bytes 3 % 2 ^ 16;
      status = record { kind = kind; code = dword bytes 3 / 2 ^ 17 % 2 ^ 8 };
    })
    (type_of (dword bytes 3 / 2 ^ 25 % 2 ^ 3))

-- the fields have the numbers of their types
pub record AreCompletionFields (c : Completion) : Type 0 where
  pub dw0 : c.dw0 < 2 ^ 32
  pub dw1 : c.dw1 < 2 ^ 32
  pub queue : c.queue < 2 ^ 16
  pub cid : c.cid < 2 ^ 16
  pub code : c.status.code < 2 ^ 8

-- a host reads from a completion, of 16 bytes, what the device put into it
abbrev pub CompletionsTell : Type 0
CompletionsTell = (c : Completion) → AreCompletionFields c → (length (completion_bytes c) ≡ 16) × (completion_in (completion_bytes c) ≡ Some c)
