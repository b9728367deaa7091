-- Completion queue entries, as capsules have them (NVMe Base 2.0, 3.3.3.2).
use Rattle.std.specs.Prelude.{ℕ, Bool, true, not, ◌+◌, ◌*◌, ◌==◌, List, ◌++◌, if◌then◌else◌}
use Rattle.byteorder.specs.Endian.{little_bytes}
use Rattle.zone_state.specs.declared.status.Status.{Status}
use Rattle.zone_state.specs.declared.status.StatusType.{StatusType}
use Rattle.zone_state.specs.declared.status.StatusType.TheVariants.{Generic, CommandSpecific, VendorSpecific}
use Rattle.zone_state.specs.Status.{type_number}
use Rattle.tcp_pdus.specs.declared.answer.Answer.{Answer}

-- what a command came to would come again, but for success, and for Connect Controller Busy (181h)
abbrev pub is_final_of : StatusType → ℕ → Bool
is_final_of Generic code = not (code == 0x00)
is_final_of CommandSpecific code = not (code == 0x81)
is_final_of VendorSpecific code = true

abbrev pub is_final : Status → Bool
is_final status = is_final_of status.kind status.code

-- Dword 3, bits 31:16: the phase, which isn't used, the code in 8 bits, the type in 3; Do Not Retry in the highest
abbrev pub status_field : Status → ℕ
status_field status = let told = status.code * 2 + type_number status.kind * 512 in if is_final status then told + 32768 else told

-- Dwords 0 and 1, SQHD, the queue's identifier, the command's, and the status
abbrev pub answer_bytes : Answer → List ℕ
answer_bytes a =
    little_bytes 4 a.dw0 ++ little_bytes 4 a.dw1 ++ little_bytes 2 a.head ++ little_bytes 2 a.queue ++ little_bytes 2 a.command
    ++ little_bytes 2 (status_field a.status)
