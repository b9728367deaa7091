-- What holds of what is given.
use Rattle.std.specs.Prelude.{ℕ, ◌≡◌, ◌≤◌, ◌+◌, ◌-◌, ◌⊎◌, List, [], ◌∷◌, ◌++◌, length, replicate}
use Rattle.tcp_pdus.specs.Sgl.{descriptor_in}
use Rattle.tcp_admin.specs.declared.controller.Controller.{Controller}
use Rattle.tcp_admin.specs.declared.identify.Structure.{Structure}
use Rattle.tcp_admin.specs.declared.logs.LogPage.{LogPage}
use Rattle.tcp_admin.specs.declared.subsystem.NamespaceFormat.{NamespaceFormat}
use Rattle.tcp_admin.specs.declared.subsystem.Subsystem.{Subsystem}
use Rattle.tcp_admin.specs.Admin.{response}
use Rattle.tcp_admin.specs.Identify.{structure_bytes, structure_fields}
use Rattle.tcp_admin.specs.Logs.{log_bytes, log_fields, page_bytes}
use Rattle.tcp_admin.specs.Pages.{Field}

-- the texts of a target are as long as their places
pub record IsSubsystem (s : Subsystem) : Type 0 where
  pub name : length s.nqn ≤ 223
  pub serial_number : length s.serial_number ≡ 20
  pub model : length s.model ≡ 40
  pub firmware : length s.firmware ≡ 8
  pub nguid : length s.nguid ≡ 16

-- each data structure of Identify has 4096 bytes (NVMe Base 2.0, 5.17.2), and each log page as many as it is said to have
abbrev pub StructuresAreWhole : Type 0
StructuresAreWhole =
    (structure : Structure) (nsid id : ℕ) (s : Subsystem) (n : NamespaceFormat) → IsSubsystem s
    → length (structure_bytes structure nsid id s n) ≡ 4096

abbrev pub LogsAreWhole : Type 0
LogsAreWhole = (log : LogPage) (csi : ℕ) (s : Subsystem) → IsSubsystem s → length (log_bytes log csi s) ≡ page_bytes log

-- fields in order, from a place on, with zeros between them and behind, up to a length
abbrev pub in_order : ℕ → List Field → ℕ → List ℕ
in_order from [] size = replicate (size - from) 0
in_order from (field ∷ fields) size =
    replicate (field.at - from) 0 ++ (field.bytes ++ in_order (field.at + length field.bytes) fields size)

-- and each has its fields in the order of its table, so that no field hides another
abbrev pub StructuresTell : Type 0
StructuresTell =
    (structure : Structure) (nsid id : ℕ) (s : Subsystem) (n : NamespaceFormat) → IsSubsystem s
    → structure_bytes structure nsid id s n ≡ in_order 0 (structure_fields structure nsid id s n) 4096

abbrev pub LogsTell : Type 0
LogsTell =
    (log : LogPage) (csi : ℕ) (s : Subsystem) → IsSubsystem s → log_bytes log csi s ≡ in_order 0 (log_fields log csi s) (page_bytes log)

-- a command gives no data, or as much as its SGL descriptor says
abbrev pub FitsSgl : List ℕ → List ℕ → Type 0
FitsSgl entry bytes = (bytes ≡ []) ⊎ (length bytes ≡ (descriptor_in entry).length)

abbrev pub DataFitsSgl : Type 0
DataFitsSgl =
    (entry : List ℕ) (s : Subsystem) (n : NamespaceFormat) (c : Controller) → IsSubsystem s
    → FitsSgl entry (response entry s n c).«data»
