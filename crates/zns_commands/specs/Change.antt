-- What commands change.
use Rattle.std.specs.Prelude.{ℕ, ◌≤◌, Bool, List}
use Rattle.common_definitions.specs.Bytes.{AreBytes}
use Rattle.zone_state.specs.declared.action.Action.{Action}
use Rattle.zone_resources.specs.declared.holds.Holds.{Holds}
use Rattle.image_store.specs.Namespace.{ZonedNamespace}
use Rattle.zns_commands.specs.Address.{zone_number}
use Rattle.zns_commands.specs.Send.{send_effect}
use Rattle.zns_commands.specs.Write.{with_written}

-- a change of a namespace: none, blocks that are written to the zone of an address, or an action that is taken on that zone or,
-- with Select All, on all that it takes
pub data Change : Type 0 where
  Nothing : Change
  Writing : (lba blocks : ℕ) → Change
  Moving : (lba : ℕ) (action : Action) (select_all : Bool) → Change

-- the namespace after a change, where these bytes are what is written
abbrev pub changed : ZonedNamespace → Holds → Change → List ℕ → ZonedNamespace
changed ns holds Nothing input = ns
changed ns holds (Writing lba blocks) input = with_written ns holds (zone_number ns lba) input
changed ns holds (Moving lba action select_all) input = send_effect ns holds lba action select_all

-- what an entry can ask for that has these bytes beside it: blocks to write are at least one
abbrev pub CanBeAsked : Change → List ℕ → Type 0
CanBeAsked (Writing lba blocks) input = (1 ≤ blocks) × AreBytes input
CanBeAsked _ input = Unit {0}
