-- What commands and faults leave as it was.
use Rattle.std.specs.Prelude.{ℕ, ◌≡◌, ◌++◌, ◌==◌, ◌||◌, Bool, true, false, List, Option}
use Rattle.zone_resources.specs.Holds.{names, is_source, is_destination}
use Rattle.zone_resources.specs.declared.holds.Holds.{Holds}
use Rattle.nvme_entry.specs.declared.command.StandardCommand.{StandardCommand}
use Rattle.image_store.specs.Namespace.{ZonedNamespace, zone_at, shape}
use Rattle.zns_commands.specs.Address.{zone_number}
use Rattle.zns_commands.specs.Change.{Change, Nothing, Writing, Moving}
use Rattle.zns_commands.specs.Laws.{NamespaceEvent, Commanded, Faulted, after}
use Rattle.zns_commands.specs.Meaning.{change_of, meaning}
use Rattle.zns_commands.specs.Send.{gives_way_to, takes}
use Rattle.zns_commands.specs.Resources.{gives_way}

-- the holds under which an event is taken
abbrev pub holds_of : NamespaceEvent → Holds
holds_of (Commanded holds command input) = holds
holds_of (Faulted holds zone fault) = holds

-- is the zone the one that is named, or the one that gives way to it?
abbrev pub is_either : ℕ → Option ℕ → ℕ → Bool
is_either named gives z = named == z || names z gives

-- may a change reach the zone? It may reach the one that it names, the one that gives way to that, and those that Select
-- All takes
abbrev pub reaches : ZonedNamespace → Holds → Change → ℕ → Bool
reaches ns holds (Writing lba blocks) z =
    let named = zone_number ns lba in is_either named (gives_way ns holds (zone_at ns named).state) z
reaches ns holds (Moving lba action true) z = takes action (zone_at ns z).state
reaches ns holds (Moving lba action false) z =
    let named = zone_number ns lba in is_either named (gives_way_to ns holds action (zone_at ns named).state) z
reaches ns holds _ z = false

-- may an event change the zone?
abbrev pub touches : ZonedNamespace → NamespaceEvent → ℕ → Bool
touches ns (Commanded holds command input) z = reaches ns holds (change_of command) z
touches ns (Faulted holds zone fault) z = zone == z

-- an event leaves each other zone as it is
abbrev pub OtherZonesAreLeft : Type 0
OtherZonesAreLeft =
    (event : NamespaceEvent) (ns : ZonedNamespace) (z : ℕ)
    → touches ns event z ≡ false → zone_at (after event ns) z ≡ zone_at ns z

-- a command that only reads leaves the namespace as it is
abbrev pub QueriesChangeNothing : Type 0
QueriesChangeNothing =
    (ns : ZonedNamespace) (holds : Holds) (command : StandardCommand) (input : List ℕ)
    → change_of command ≡ Nothing → (meaning ns holds command input).namespace ≡ ns

-- an event leaves a zone that a run appends to as it is, its state and its blocks
abbrev pub HeldDestinationsAreLeft : Type 0
HeldDestinationsAreLeft =
    (event : NamespaceEvent) (ns : ZonedNamespace) (z : ℕ)
    → is_destination (holds_of event) z ≡ true → zone_at (after event ns) z ≡ zone_at ns z

-- the blocks of before, and perhaps some behind them
pub record Grows (before after : List (List ℕ)) : Type 0 where
  pub more : List (List ℕ)
  pub is : after ≡ before ++ more

-- what is written in a zone that a run reads from stays the beginning of what is
abbrev pub HeldSourcesKeepBlocks : Type 0
HeldSourcesKeepBlocks =
    (event : NamespaceEvent) (ns : ZonedNamespace) (z : ℕ) → is_source (holds_of event) z ≡ true
    → Grows (zone_at ns z).blocks (zone_at (after event ns) z).blocks

-- no event changes how many zones there are, their size and capacity, the bytes of a block, or the limits
abbrev pub ShapesAreKept : Type 0
ShapesAreKept = (event : NamespaceEvent) (ns : ZonedNamespace) → shape (after event ns) ≡ shape ns
