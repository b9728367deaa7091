-- Where a command's data is: the SGL descriptor in its entry (NVMe Base 2.0, 4.1.2), and what of it is refused at once.
use Rattle.std.specs.Prelude.{ℕ, Bool, not, ◌==◌, ◌&&◌, ◌||◌, nat_le, List, [], ◌∷◌, Option, Some, None, Result, if◌then◌else◌, slice_index}
use Rattle.common_definitions.specs.Bytes.{field}
use Rattle.common_definitions.specs.Checks.{demand, first_failed, unless_failed}
use Rattle.tcp_pdus.specs.declared.transfer.TheConstants.{MAX_H2C_DATA}
use Rattle.zone_state.specs.declared.status.Status.{Status}
use Rattle.zone_state.specs.declared.status.TheConstants.Status.{INVALID_FIELD_IN_COMMAND}
use Rattle.tcp_pdus.specs.declared.direction.Direction.{Direction}
use Rattle.tcp_pdus.specs.declared.sgl.SglDescriptor.{SglDescriptor}
use Rattle.tcp_pdus.specs.declared.sgl.TheConstants.{SGL_DESCRIPTOR_TYPE_INVALID, SGL_OFFSET_INVALID}
use Rattle.tcp_pdus.specs.Direction.{direction, is_from_host, uses_sgls}

-- SGL 1 in bytes 24 to 39: the address, the length in 32 to 35, the type with its sub type in 39
abbrev pub descriptor_in : List ℕ → SglDescriptor
descriptor_in entry = record { address = field entry 24 8; length = field entry 32 4; kind = slice_index entry 39 }

-- data in the capsule (an SGL Data Block with an offset, 01h): the host sends it, and it is all that stands behind the entry
abbrev pub in_capsule_checks : Direction → SglDescriptor → ℕ → List (Option Status)
in_capsule_checks way sgl inside =
    demand (is_from_host way) SGL_DESCRIPTOR_TYPE_INVALID
    ∷ demand (sgl.address == 0 && sgl.length == inside) SGL_OFFSET_INVALID ∷ []

-- data that the transport moves (a Transport SGL Data Block, 5Ah): none is in the capsule, and one R2T can ask for all of it
abbrev pub fits : Direction → SglDescriptor → Bool
fits way sgl = not (is_from_host way) || nat_le sgl.length MAX_H2C_DATA

abbrev pub transport_checks : Direction → SglDescriptor → ℕ → List (Option Status)
transport_checks way sgl inside = demand (inside == 0 && fits way sgl) INVALID_FIELD_IN_COMMAND ∷ []

-- the checks of a descriptor, in order; no other type is one of a capsule's
abbrev pub data_checks : Direction → SglDescriptor → ℕ → List (Option Status)
data_checks way sgl inside =
    if sgl.kind == 0x01 then in_capsule_checks way sgl inside else
    if sgl.kind == 0x5A then transport_checks way sgl inside else Some SGL_DESCRIPTOR_TYPE_INVALID ∷ []

-- how many bytes the host is to send for an R2T, where there are any
abbrev pub wanted : Direction → SglDescriptor → Option ℕ
wanted way sgl = if sgl.kind == 0x5A && is_from_host way && not (sgl.length == 0) then Some sgl.length else None

-- all checks of an entry whose capsule has so many bytes of data, in order
abbrev pub capsule_checks : List ℕ → ℕ → List (Option Status)
capsule_checks entry inside =
    demand (uses_sgls entry) INVALID_FIELD_IN_COMMAND ∷ data_checks (direction entry) (descriptor_in entry) inside

-- what the host is to send for an R2T, or the status of the first check that fails
abbrev pub wanted_checked : List ℕ → ℕ → Result (Option ℕ) Status
wanted_checked entry inside =
    unless_failed (first_failed (capsule_checks entry inside)) (wanted (direction entry) (descriptor_in entry))
