-- Identify (NVMe Base 2.0, 5.17; ZNS 1.1, 4.1.5): the data structures, byte by byte, and which one is given.
use Rattle.std.specs.Prelude.{ℕ, Bool, true, ◌+◌, ◌*◌, ◌-◌, ◌^◌, ◌==◌, ◌&&◌, nat_lt, List, [], ◌∷◌, ◌++◌, Option, Some, None, Result, if◌then◌else◌, slice_index}
use Rattle.std.specs.Option.{ok_or}
use Rattle.common_definitions.specs.Bytes.{field}
use Rattle.common_definitions.specs.Checks.{demand, first_failed, unless_failed}
use Rattle.common_definitions.specs.Readings.{◌>>=◌}
use Rattle.zone_state.specs.declared.status.Status.{Status}
use Rattle.zone_state.specs.declared.status.TheConstants.Status.{INVALID_FIELD_IN_COMMAND, INVALID_NAMESPACE_OR_FORMAT}
use Rattle.tcp_admin.specs.declared.identify.Structure.{Structure}
use Rattle.tcp_admin.specs.declared.identify.Structure.TheVariants.{Namespace, Controller, NamespaceList, NamespaceListOf, NamespaceDescriptors, ZonedNamespace, NvmController, ZonedController, CommandSets}
use Rattle.tcp_admin.specs.declared.subsystem.NamespaceFormat.{NamespaceFormat}
use Rattle.tcp_admin.specs.declared.subsystem.Subsystem.{Subsystem}
use Rattle.tcp_admin.specs.Pages.{Field, byte_at, bytes_at, number_at, page}
use Rattle.tcp_admin.specs.Properties.{version}
use Rattle.tcp_admin.specs.Transfers.{has_length}

-- Command Set Identifiers: NVM 0, Zoned Namespace 2
abbrev pub nvm : ℕ
nvm = 0

abbrev pub zoned : ℕ
zoned = 2

-- ---- Identify Controller (NVMe Base 2.0, 5.17.2.1)

-- SN, MN, FR
abbrev pub name_fields : Subsystem → List Field
name_fields s = bytes_at 4 s.serial_number ∷ bytes_at 24 s.model ∷ bytes_at 64 s.firmware ∷ []

-- CMIC, the subsystem may have several controllers (bit 1); MDTS, 2 ^ 5 times the 4096 bytes that CAP.MPSMIN gives; CNTLID; VER;
-- CNTRLTYPE, an I/O controller
abbrev pub controller_fields : ℕ → List Field
controller_fields id = byte_at 76 2 ∷ byte_at 77 5 ∷ number_at 78 2 id ∷ number_at 80 4 version ∷ byte_at 111 1 ∷ []

-- ACL and AERL, zero-based, four of each; FRMW, one slot, which is read only; LPA, the effects log (bit 1); KAS, in 100 ms
abbrev pub admin_fields : List Field
admin_fields = byte_at 258 3 ∷ byte_at 259 3 ∷ byte_at 260 (1 * 2 + 1) ∷ byte_at 261 2 ∷ number_at 320 2 10 ∷ []

-- SQES and CQES, 2 ^ 6 and 2 ^ 4 bytes, least and most; MAXCMD; NN; SGLS, supported (bit 0), also with an offset, as of data in a capsule
-- (bit 20). ONCS and VWC are 0: no optional commands, and no volatile write cache
abbrev pub queue_fields : List Field
queue_fields =
    byte_at 512 (6 * 16 + 6) ∷ byte_at 513 (4 * 16 + 4) ∷ number_at 514 2 128 ∷ number_at 516 4 1 ∷ number_at 536 4 (2 ^ 20 + 1) ∷ []

-- SUBNQN; IOCCSZ and IORCSZ, in 16 bytes: an entry with 8192 bytes of data, and an entry; MSDBD, one descriptor. ICDOFF is 0: data in a
-- capsule begins behind the entry
abbrev pub fabrics_fields : Subsystem → List Field
fabrics_fields s = bytes_at 768 s.nqn ∷ number_at 1792 4 (4 + 512) ∷ number_at 1796 4 1 ∷ byte_at 1803 1 ∷ []

abbrev pub identity_fields : ℕ → Subsystem → List Field
identity_fields id s = name_fields s ++ controller_fields id ++ admin_fields ++ queue_fields ++ fabrics_fields s

-- ---- the namespace (NVMe Base 2.0, 5.17.2.2 and 5.17.2.4)

-- NSZE, NCAP and NUSE: all blocks; NMIC, several controllers may have the namespace (bit 0); NGUID; LBADS of LBA format 0. NLBAF and FLBAS
-- are 0: that is the only format
abbrev pub size_fields : NamespaceFormat → List Field
size_fields n = number_at 0 8 n.blocks ∷ number_at 8 8 n.blocks ∷ number_at 16 8 n.blocks ∷ []

abbrev pub namespace_fields : Subsystem → NamespaceFormat → List Field
namespace_fields s n = size_fields n ++ byte_at 30 1 ∷ bytes_at 104 s.nguid ∷ byte_at 130 n.block_size_log2 ∷ []

-- Namespace Identification Descriptors, NIDT, NIDL and from the fifth byte on NID: NGUID (02h, 16 bytes) and CSI (04h, one byte)
abbrev pub descriptor_fields : Subsystem → List Field
descriptor_fields s =
    byte_at 0 0x02 ∷ byte_at 1 16 ∷ bytes_at 4 s.nguid ∷ byte_at 20 0x04 ∷ byte_at 21 1 ∷ byte_at 24 zoned ∷ []

-- Identify Namespace of zoned namespaces (ZNS 1.1, 4.1.5.1): MAR and MOR, zero-based; ZSZE of LBA format 0. ZOC and ZDES are 0: no zone's
-- capacity changes, and zones have no descriptor extensions
abbrev pub zoned_fields : NamespaceFormat → List Field
zoned_fields n =
    number_at 4 4 (n.active_limit - 1) ∷ number_at 8 4 (n.open_limit - 1) ∷ number_at 2816 8 n.zone_blocks ∷ []

-- ---- lists, and what is told of command sets (NVMe Base 2.0, 5.17.2.3 and 5.17.2.20)

-- the identifiers of the active namespaces above one: where there is namespace 1 among them, its
abbrev pub list_fields : Bool → List Field
list_fields lists = if lists then number_at 0 4 1 ∷ [] else []

-- Identify Controller of zoned namespaces (ZNS 1.1, 4.1.5.2): ZASL, as MDTS
abbrev pub zoned_controller_fields : List Field
zoned_controller_fields = byte_at 0 5 ∷ []

-- Identify I/O Command Set: one combination, of a bit for each Command Set Identifier
abbrev pub command_sets_fields : List Field
command_sets_fields = number_at 0 8 (2 ^ 0 + 2 ^ 2) ∷ []

-- ---- which is given

-- CNS in byte 40, CSI in byte 47, NSID in bytes 4 to 7
abbrev pub structure_of : ℕ → ℕ → Option Structure
structure_of cns csi =
    if cns == 0x00 then Some Namespace else
    if cns == 0x01 then Some Controller else
    if cns == 0x02 then Some NamespaceList else
    if cns == 0x03 then Some NamespaceDescriptors else
    if cns == 0x05 && csi == zoned then Some ZonedNamespace else
    if cns == 0x06 && csi == nvm then Some NvmController else
    if cns == 0x06 && csi == zoned then Some ZonedController else
    if cns == 0x07 then Some (NamespaceListOf csi) else
    if cns == 0x1C then Some CommandSets else None

abbrev pub structure_in : List ℕ → Result Structure Status
structure_in entry = ok_or (structure_of (slice_index entry 40) (slice_index entry 47)) INVALID_FIELD_IN_COMMAND

abbrev pub namespace_in : List ℕ → ℕ
namespace_in entry = field entry 4 4

-- what is told of a namespace is told of namespace 1; a list begins above any but the two highest identifiers
abbrev pub may_name : Structure → ℕ → Bool
may_name Namespace nsid = nsid == 1
may_name NamespaceDescriptors nsid = nsid == 1
may_name ZonedNamespace nsid = nsid == 1
may_name NamespaceList nsid = nat_lt nsid 0xFFFFFFFE
may_name (NamespaceListOf csi) nsid = nat_lt nsid 0xFFFFFFFE
may_name Controller nsid = true
may_name NvmController nsid = true
may_name ZonedController nsid = true
may_name CommandSets nsid = true

-- the fields of a structure: the one of the NVM command set's controller is zeros
abbrev pub structure_fields : Structure → ℕ → ℕ → Subsystem → NamespaceFormat → List Field
structure_fields Namespace nsid id s n = namespace_fields s n
structure_fields Controller nsid id s n = identity_fields id s
structure_fields NamespaceList nsid id s n = list_fields (nsid == 0)
structure_fields (NamespaceListOf csi) nsid id s n = list_fields (nsid == 0 && csi == zoned)
structure_fields NamespaceDescriptors nsid id s n = descriptor_fields s
structure_fields ZonedNamespace nsid id s n = zoned_fields n
structure_fields NvmController nsid id s n = []
structure_fields ZonedController nsid id s n = zoned_controller_fields
structure_fields CommandSets nsid id s n = command_sets_fields

abbrev pub structure_bytes : Structure → ℕ → ℕ → Subsystem → NamespaceFormat → List ℕ
structure_bytes structure nsid id s n = page 4096 (structure_fields structure nsid id s n)

-- the checks of an Identify whose structure there is, in order
abbrev pub identify_checks : Structure → List ℕ → List (Option Status)
identify_checks structure entry =
    demand (may_name structure (namespace_in entry)) INVALID_NAMESPACE_OR_FORMAT ∷ has_length entry 4096 ∷ []

abbrev pub identified : List ℕ → ℕ → Subsystem → NamespaceFormat → Result (List ℕ) Status
identified entry id s n =
    structure_in entry >>= λ structure.
    unless_failed (first_failed (identify_checks structure entry)) (structure_bytes structure (namespace_in entry) id s n)
