-- How much data a command gives, as the SGL descriptor in its entry says (NVMe Base 2.0, 4.1.2 and 3.3.3.2).
use Rattle.std.specs.Prelude.{ℕ, ◌==◌, List, Option}
use Rattle.common_definitions.specs.Checks.{demand}
use Rattle.zone_state.specs.declared.status.Status.{Status}
use Rattle.tcp_pdus.specs.Sgl.{descriptor_in}
use Rattle.tcp_admin.specs.declared.status.TheConstants.{DATA_SGL_LENGTH_INVALID}

-- the check that the descriptor's length is that of the answer
abbrev pub has_length : List ℕ → ℕ → Option Status
has_length entry size = demand ((descriptor_in entry).length == size) DATA_SGL_LENGTH_INVALID
