-- Which way a command's data goes, and how its place is told (NVMe Base 2.0, 3.3.3.1).
use Rattle.std.specs.Prelude.{ℕ, Bool, true, false, ◌%◌, ◌/◌, ◌==◌, List, if◌then◌else◌, slice_index}
use Rattle.common_definitions.specs.Bytes.{field}
use Rattle.tcp_pdus.specs.declared.direction.Direction.{Direction}
use Rattle.tcp_pdus.specs.declared.direction.Direction.TheVariants.{Neither, FromHost, ToHost}

-- Command Dword 0, bits 31:16
abbrev pub identifier_of : List ℕ → ℕ
identifier_of entry = field entry 2 2

-- bits 1:0 of the opcode, of a Fabrics command (7Fh) those of its type in byte 4
abbrev pub transfer_bits : List ℕ → ℕ
transfer_bits entry = (if slice_index entry 0 == 0x7F then slice_index entry 4 else slice_index entry 0) % 4

-- 01b host to controller, 10b controller to host; 00b is no data, and no command has data both ways (11b)
abbrev pub direction : List ℕ → Direction
direction entry =
    let bits = transfer_bits entry in if bits == 1 then FromHost else if bits == 2 then ToHost else Neither

abbrev pub is_from_host : Direction → Bool
is_from_host Neither = false
is_from_host FromHost = true
is_from_host ToHost = false

-- Command Dword 0, bits 15:14: 01b, the data pointer is an SGL, as Fabrics ask for
abbrev pub uses_sgls : List ℕ → Bool
uses_sgls entry = slice_index entry 1 / 64 == 1
