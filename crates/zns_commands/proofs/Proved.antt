-- Laws of this crate, proved, and lemmas: what the proofs of other crates cite of it.
use Rattle.zns_commands.specs.Left.{HeldDestinationsAreLeft, ShapesAreKept, HeldSourcesKeepBlocks}
use Rattle.zns_commands.specs.Laws.{AddedBlocksKeepNamespacesSound, EmptyIsNamespace, EventsKeepNamespacesSound, RefusedCommandsChangeNothing, StatusesAreStandard}
pub use Rattle.zns_commands.proofs.FittingZones.{no_bytes}
use Rattle.zns_commands.proofs.HeldSources as held_sources
use Rattle.zns_commands.proofs.HeldZones as held_zones
use Rattle.zns_commands.proofs.KeptBlocks.{event_shape}
pub use Rattle.zns_commands.proofs.KeptBlocks.{KeepsZone, events_keep_zones, grows_by_none, grows_on, replaced_grows, uncleared_is_readable, with_zone_shape}
use Rattle.zns_commands.proofs.OpenZones as open_zones
pub use Rattle.zns_commands.proofs.OpenZones.{blocks_are_the_effect, open_is_there, taken_blocks_pass}
pub use Rattle.zns_commands.proofs.ReadBack.{BlocksLieAt, appended_stays, lying_is_read, written_stays}
use Rattle.zns_commands.proofs.Refusals as refusals
use Rattle.zns_commands.proofs.SoundEvents as sound_events
pub use Rattle.zns_commands.proofs.WrittenZones.{count_of}

pub events_keep_namespaces_sound : EventsKeepNamespacesSound
events_keep_namespaces_sound = sound_events.events_keep_namespaces_sound

pub empty_is_namespace : EmptyIsNamespace
empty_is_namespace = sound_events.empty_is_namespace

pub added_blocks_keep_namespaces_sound : AddedBlocksKeepNamespacesSound
added_blocks_keep_namespaces_sound = open_zones.added_blocks_keep_namespaces_sound

pub held_destinations_are_left : HeldDestinationsAreLeft
held_destinations_are_left = held_zones.held_destinations_are_left

pub held_sources_keep_blocks : HeldSourcesKeepBlocks
held_sources_keep_blocks = held_sources.held_sources_keep_blocks

pub shapes_are_kept : ShapesAreKept
shapes_are_kept = event_shape

pub refused_commands_change_nothing : RefusedCommandsChangeNothing
refused_commands_change_nothing = refusals.refused_commands_change_nothing

pub statuses_are_standard : StatusesAreStandard
statuses_are_standard = refusals.statuses_are_standard
