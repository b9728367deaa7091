-- Laws of the texts of a namespace, and of the versions.
use Rattle.std.specs.Prelude.{ℕ, ◌≡◌, ◌≢◌, ◌<◌, ◌≤◌, ◌+◌, ◌*◌, true, List, [], ◌++◌, length, take, Result, Ok, Err}
use Rattle.program_interface.specs.BlockSize.{IsBlockSize}
use Rattle.image_text.specs.declared.fault.LoadFault.{LoadFault}
use Rattle.image_text.specs.declared.fault.LoadFault.TheVariants as fault
use Rattle.image_store.specs.declared.geometry.TheConstants.{MOST_ZONES}
use Rattle.image_text.specs.declared.header.TheConstants.{HEADER_BYTES}
use Rattle.image_text.specs.declared.version.Version.{Version}
use Rattle.image_text.specs.declared.version.Version.TheVariants.{Two}
use Rattle.image_text.specs.declared.zone_row.TheConstants.{ZONE_ROW_BYTES}
use Rattle.common_definitions.specs.Bytes.{AreBytes}
use Rattle.image_store.specs.Geometry.{Shape, IsShape}
use Rattle.image_store.specs.Namespace.{ZonedNamespace, shape, IsNamespace}
use Rattle.common_definitions.specs.Readings.{◌>>=◌}
use Rattle.image_text.specs.Reading.{namespace_in, rows_end}
use Rattle.image_text.specs.Text.{text, text_of}
use Rattle.image_text.specs.Version.{HasText, has_block, numbers_of_version}

-- what is saved loads again as the same namespace; this follows from `EachVersionLoads` and `LastVersionHasAll`
abbrev pub SavedTextsLoad : Type 0
SavedTextsLoad = (ns : ZonedNamespace) → IsNamespace ns → namespace_in (text ns) ≡ Ok ns

-- and so does its text of each version that has its shape
abbrev pub EachVersionLoads : Type 0
EachVersionLoads =
    (version : Version) (ns : ZonedNamespace) → IsNamespace ns → HasText version (shape ns) → namespace_in (text_of version ns) ≡ Ok ns

-- what loads is a namespace that an image can have
abbrev pub LoadedTextsAreNamespaces : Type 0
LoadedTextsAreNamespaces = (bytes : List ℕ) (ns : ZonedNamespace) → AreBytes bytes → namespace_in bytes ≡ Ok ns → IsNamespace ns

-- no other text loads: what does is the text, of a version, of the namespace that it stands for
abbrev pub OnlyTextsLoad : Type 0
OnlyTextsLoad =
    (bytes : List ℕ) (ns : ZonedNamespace) → AreBytes bytes → namespace_in bytes ≡ Ok ns
    → (version : Version) × HasText version (shape ns) × (bytes ≡ text_of version ns)

-- what is saved of an image that was loaded stands for the same namespace as what was loaded; this follows from
-- `LoadedTextsAreNamespaces` and `SavedTextsLoad`
abbrev pub UpgradedStandsForTheSame : Type 0
UpgradedStandsForTheSame =
    (bytes : List ℕ) (ns : ZonedNamespace) → AreBytes bytes → namespace_in bytes ≡ Ok ns → namespace_in (text ns) ≡ Ok ns

-- a text loaded and saved again
abbrev pub upgraded : List ℕ → Result (List ℕ) LoadFault
upgraded bytes = namespace_in bytes >>= λ ns. Ok (text ns)

-- to do that twice is to do it once; this follows from `UpgradedStandsForTheSame`
abbrev pub UpgradingTwiceIsOnce : Type 0
UpgradingTwiceIsOnce = (bytes new : List ℕ) → AreBytes bytes → upgraded bytes ≡ Ok new → upgraded new ≡ Ok new

-- a text that was cut, wherever, is refused as cut short
abbrev pub CutTextsAreTruncated : Type 0
CutTextsAreTruncated =
    (version : Version) (ns : ZonedNamespace) → IsNamespace ns → HasText version (shape ns)
    → (n : ℕ) → n < length (text_of version ns) → namespace_in (take n (text_of version ns)) ≡ Err fault.Truncated

-- and one with more behind it, whatever that is, as trailing
abbrev pub LongerTextsAreTrailing : Type 0
LongerTextsAreTrailing =
    (version : Version) (ns : ZonedNamespace) → IsNamespace ns → HasText version (shape ns)
    → (more : List ℕ) → more ≢ [] → namespace_in (text_of version ns ++ more) ≡ Err fault.Trailing

-- up to which byte a text has to be read to find a fault of it: those of its magic, of its header, of the zones' rows
-- up to the one that is told, or else of all rows
abbrev pub fault_end : List ℕ → LoadFault → ℕ
fault_end bytes fault.Magic = 8
fault_end bytes (fault.Header first) = HEADER_BYTES
fault_end bytes (fault.ZoneRow zone first) = HEADER_BYTES + (zone + 1) * ZONE_ROW_BYTES
fault_end bytes _ = rows_end bytes

-- the fault that a text is refused with, other than one of its end, is that of each text that is no shorter and has
-- the same bytes up to where the fault stands
abbrev pub FaultsAreByPrefix : Type 0
FaultsAreByPrefix =
    (bytes other : List ℕ) (first : LoadFault) → namespace_in bytes ≡ Err first → first ≢ fault.Truncated → first ≢ fault.Trailing
    → length bytes ≤ length other → take (fault_end bytes first) other ≡ take (fault_end bytes first) bytes
    → namespace_in other ≡ Err first

-- the device has each block size, and as many zones, as a version has
abbrev pub VersionsAreKnown : Type 0
VersionsAreKnown =
    (version : Version) → ((bytes : ℕ) → has_block version bytes ≡ true → IsBlockSize bytes) × ((numbers_of_version version).most_zones ≤ MOST_ZONES)

-- and the last version has all that the device has
abbrev pub LastVersionHasAll : Type 0
LastVersionHasAll = (s : Shape) → IsShape s → HasText Two s
