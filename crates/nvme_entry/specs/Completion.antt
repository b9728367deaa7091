-- The bytes of a completion queue entry.
use Rattle.std.specs.Prelude.{ℕ, List, [], ◌∷◌, ◌+◌, ◌*◌, ◌^◌}
use Rattle.std.specs.List.{flat_map}
use Rattle.byteorder.specs.Endian.{little_bytes}
use Rattle.zone_state.specs.Status.{type_number}
use Rattle.zone_state.specs.declared.status.Status.{Status}
use Rattle.nvme_entry.specs.declared.completion.Completion.{Completion}

-- Dword 3: the command identifier in bits 15:0, the phase tag in bit 16, the status code in bits
-- 24:17 and the status code type in bits 27:25 (NVMe Base 2.0, 3.3.3.2)
abbrev pub status_dword : ℕ → Status → ℕ
status_dword cid status = cid + status.code * 2 ^ 17 + type_number status.kind * 2 ^ 25

-- the four dwords; Dword 2 has the queue identifier in bits 31:16 (NVMe Base 2.0, 3.3.3.2)
abbrev pub dwords : Completion → List ℕ
dwords c = c.dw0 ∷ c.dw1 ∷ c.queue * 2 ^ 16 ∷ status_dword c.cid c.status ∷ []

-- the bytes of the dwords, the lowest of each first
abbrev pub completion_bytes : Completion → List ℕ
completion_bytes c = flat_map (little_bytes 4) (dwords c)
