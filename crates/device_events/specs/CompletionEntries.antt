-- Completions that bytes spell.
use Rattle.std.specs.Prelude.{◌≡◌, ◌==◌, ◌/◌, ◌&&◌, ℕ, Bool, List, slice_index, Option, Some, None}
use Rattle.zone_state.specs.declared.status.StatusType.TheVariants.{Generic}
use Rattle.nvme_entry.specs.Completion.{completion_bytes}
use Rattle.nvme_entry.specs.CompletionFields.{completion_in}
use Rattle.nvme_entry.specs.declared.completion.Completion.{Completion}

-- its bytes spell this completion
abbrev pub IsReadBack : Completion → Type 0
IsReadBack completion = completion_in (completion_bytes completion) ≡ Some completion

-- the completion, or one of zeros where there is none
abbrev pub completion_or_zeros : Option Completion → Completion
completion_or_zeros (Some completion) = completion
completion_or_zeros None = record { dw0 = 0; dw1 = 0; queue = 0; cid = 0; status = record { kind = Generic; code = 0 } }

-- the status field of a completion queue entry is 0, success: it is bits 15:1 of bytes 14 and 15, above the phase tag (NVMe
-- Base 2.0, 3.3.3.2)
abbrev pub tells_success : List ℕ → Bool
tells_success entry = (slice_index entry 14 / 2 == 0) && (slice_index entry 15 == 0)

-- its status code type is 7h and its status code C7h: memory was wanting (profile; NVMe Base 2.0, 3.3.3.2)
abbrev pub tells_want : List ℕ → Bool
tells_want entry = (slice_index entry 14 == 142) && (slice_index entry 15 == 15)
