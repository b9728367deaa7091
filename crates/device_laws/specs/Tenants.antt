-- Tenants of one device: what they own, which events respect that, and what these leave as it was of what others own.
use Rattle.std.specs.Prelude.{ℕ, Bool, true, false, ◌≡◌, ◌&&◌, not, List, [], ◌∷◌, Some, Result, Ok, Err, IfSome, ◌⊎◌}
use Rattle.zone_state.specs.declared.state.ZoneState.TheVariants.{Closed, ImplicitlyOpened}
use Rattle.zone_state.specs.declared.status.Status.{Status}
use Rattle.nvme_entry.specs.Entry.{decoded}
use Rattle.nvme_entry.specs.declared.command.Command.{Command}
use Rattle.nvme_entry.specs.declared.command.Command.TheVariants as commands
use Rattle.nvme_entry.specs.declared.command.StandardCommand.{StandardCommand}
use Rattle.nvme_entry.specs.declared.command.StandardCommand.TheVariants.{Append, Read, Receive, Send, Write}
use Rattle.image_store.specs.Namespace.{ZoneWithBlocks, ZonedNamespace, shape, zone_at}
use Rattle.zns_commands.specs.Address.{zone_number}
use Rattle.device_meaning.specs.Admission.{destination_zone, source_zone}
use Rattle.device_meaning.specs.Events.{Occurrence, state_after}
use Rattle.device_meaning.specs.Happenings.{happens}
use Rattle.device_meaning.specs.Judging.{Judge}
use Rattle.device_meaning.specs.State.{Place, State, loaded_at, place_at}
use Rattle.device_events.specs.ToldEvents.{ToldEvent}
use Rattle.device_events.specs.ToldEvents as told

-- What a tenant owns: queues, zones and program slots. Its runs are those of its queues, at whatever places the device gives them.
pub record Tenant : Type 0 where
  pub queues : ℕ → Bool
  pub zones : ℕ → Bool
  pub slots : ℕ → Bool

-- A zone keeps its blocks, so that its write pointer stays too. It keeps its state, or was implicitly opened and is closed, as a zone
-- is that gives way to another (ZNS 1.1, 2.1.1).
pub record KeepsBlocks (old new : ZoneWithBlocks) : Type 0 where
  pub blocks : new.blocks ≡ old.blocks
  pub state : (new.state ≡ old.state) ⊎ ((old.state ≡ ImplicitlyOpened) × (new.state ≡ Closed))

-- ---- what is read

module _ (judge : Judge) (s t : State) where
  -- an entry is answered in both states the same, with the same data, whatever its queue is and what lies beside it
  abbrev pub IsAnsweredTheSame : List ℕ → Type 0
  IsAnsweredTheSame entry =
      (queue : ℕ) (input : List ℕ) (starved : Bool)
      → (happens judge t starved (told.Submitted queue entry input)).reply
      ≡ (happens judge s starved (told.Submitted queue entry input)).reply

  -- each Read of a zone is,
  abbrev pub ReadsAreTheSame : ℕ → Type 0
  ReadsAreTheSame z =
      (entry : List ℕ) (lba blocks : ℕ) → decoded entry ≡ Ok (commands.Standard (Read lba blocks)) → zone_number s.namespace lba ≡ z
      → IsAnsweredTheSame entry

  -- and each Result of a slot
  abbrev pub ResultsAreTheSame : ℕ → Type 0
  ResultsAreTheSame slot = (entry : List ℕ) → decoded entry ≡ Ok (commands.Result slot) → IsAnsweredTheSame entry

module _ (tenant : Tenant) where
  -- ---- events that respect what the tenant owns

  -- does a command of the standards change no zone but its own? Select All may change any (ZNS 1.1, 3.4.3); Read and Zone Management
  -- Receive change none
  abbrev pub names_own_zone : ZonedNamespace → StandardCommand → Bool
  names_own_zone ns (Write lba blocks) = tenant.zones (zone_number ns lba)
  names_own_zone ns (Read lba blocks) = true
  names_own_zone ns (Send lba action true) = false
  names_own_zone ns (Send lba action false) = tenant.zones (zone_number ns lba)
  names_own_zone ns (Receive lba dwords filter partial) = true
  names_own_zone ns (Append lba blocks) = tenant.zones (zone_number ns lba)

  -- and any command? A Load names its slot, a Run its slot and both zones. An entry that names no command, and a Result, change nothing
  abbrev pub names_own : ZonedNamespace → Result Command Status → Bool
  names_own ns (Err status) = true
  names_own ns (Ok (commands.Standard c)) = names_own_zone ns c
  names_own ns (Ok (commands.Load load)) = tenant.slots load.slot
  names_own ns (Ok (commands.Run command)) =
      tenant.slots command.slot && (tenant.zones (source_zone ns command) && tenant.zones (destination_zone ns command))
  names_own ns (Ok (commands.Result slot)) = true

  -- an event respects what the tenant owns: an entry in a queue of its own that names so, a turn of a run of its own, or a fault of a
  -- zone of its own
  abbrev pub Respects : State → ToldEvent → Type 0
  Respects s (told.Submitted queue entry input) = (tenant.queues queue ≡ true) × (names_own s.namespace (decoded entry) ≡ true)
  Respects s (told.Turned run) = IfSome (place_at s run) (λ place. tenant.queues place.queue ≡ true)
  Respects s (told.Faulted zone state) = tenant.zones zone ≡ true

  -- each of these events does so, in the state that it finds
  abbrev pub AllRespect : Judge → List Occurrence → State → Type 0
  AllRespect judge [] s = Unit {0}
  AllRespect judge (o ∷ os) s = Respects s o.event × AllRespect judge os (happens judge s o.starved o.event).state

  -- a run uses a slot and zones that the tenant owns
  pub record UsesOwn (place : Place) : Type 0 where
    pub slot : tenant.slots place.slot ≡ true
    pub source : tenant.zones place.source ≡ true
    pub destination : tenant.zones place.destination ≡ true

  -- each active run of its queues does, as where none is active
  abbrev pub RunsUseOwn : State → Type 0
  RunsUseOwn s = (run : ℕ) (place : Place) → place_at s run ≡ Some place → tenant.queues place.queue ≡ true → UsesOwn place

  -- ---- what others own

  -- What others own is as it was: each zone keeps its blocks; each slot its program, its limit and its result; and each run of their
  -- queues its place, with the turns that are left of it. None of these ends or begins, and the shape of the namespace is the same.
  pub record OthersAreKept (s t : State) : Type 0 where
    pub zones : (z : ℕ) → tenant.zones z ≡ false → KeepsBlocks (zone_at s.namespace z) (zone_at t.namespace z)
    pub slots : (slot : ℕ) → tenant.slots slot ≡ false → loaded_at t slot ≡ loaded_at s slot
    pub none_ends : (run : ℕ) (place : Place) → place_at s run ≡ Some place → tenant.queues place.queue ≡ false
        → place_at t run ≡ Some place
    pub none_begins : (run : ℕ) (place : Place) → place_at t run ≡ Some place → tenant.queues place.queue ≡ false
        → place_at s run ≡ Some place
    pub shape_kept : shape t.namespace ≡ shape s.namespace

  -- each Read of another's zone, and each Result of another's slot, is answered as it was
  pub record OthersReadTheSame (judge : Judge) (s t : State) : Type 0 where
    pub reads : (z : ℕ) → tenant.zones z ≡ false → ReadsAreTheSame judge s t z
    pub results : (slot : ℕ) → tenant.slots slot ≡ false → ResultsAreTheSame judge s t slot

  -- a state after events of the tenant: others have what they had, read what they read, and the tenant's runs still use only what it owns
  pub record LeavesOthers (judge : Judge) (s t : State) : Type 0 where
    pub kept : OthersAreKept s t
    pub read : OthersReadTheSame judge s t
    pub runs : RunsUseOwn t

-- whatever events of a tenant come that respect what it owns, they leave what others own
abbrev pub TenantsLeaveOthers : Judge → Type 0
TenantsLeaveOthers judge =
    (tenant : Tenant) (s : State) (events : List Occurrence) → RunsUseOwn tenant s → AllRespect tenant judge events s
    → LeavesOthers tenant judge s (state_after judge events s)

-- ---- what a tenant finds again

-- all others together, as one tenant: they own what this one doesn't
abbrev pub everyone_else : Tenant → Tenant
everyone_else mine = record {
  queues = λ queue. not (mine.queues queue);
  zones = λ z. not (mine.zones z);
  slots = λ slot. not (mine.slots slot);
}

-- a tenant has what it had: the blocks of its zones, its programs and their results, and its runs with the turns that are left of
-- them; and each Read of its zones and each Result of its slots is answered as it was
pub record HasWhatItHad (mine : Tenant) (judge : Judge) (s t : State) : Type 0 where
  pub zones : (z : ℕ) → mine.zones z ≡ true → KeepsBlocks (zone_at s.namespace z) (zone_at t.namespace z)
  pub slots : (slot : ℕ) → mine.slots slot ≡ true → loaded_at t slot ≡ loaded_at s slot
  pub runs : (run : ℕ) (place : Place) → mine.queues place.queue ≡ true → place_at s run ≡ Some place → place_at t run ≡ Some place
  pub reads : (z : ℕ) → mine.zones z ≡ true → ReadsAreTheSame judge s t z
  pub results : (slot : ℕ) → mine.slots slot ≡ true → ResultsAreTheSame judge s t slot

-- whatever all others do, of whom none names what a tenant owns, it has then what it had (it follows from `TenantsLeaveOthers`)
abbrev pub OthersLeaveMine : Judge → Type 0
OthersLeaveMine judge =
    (mine : Tenant) (s : State) (events : List Occurrence)
    → RunsUseOwn (everyone_else mine) s → AllRespect (everyone_else mine) judge events s
    → HasWhatItHad mine judge s (state_after judge events s)

-- each of these events respects what the tenant owns, or what all others do
abbrev pub EachRespectsOne : Tenant → Judge → List Occurrence → State → Type 0
EachRespectsOne mine judge [] s = Unit {0}
EachRespectsOne mine judge (o ∷ os) s =
    (Respects mine s o.event ⊎ Respects (everyone_else mine) s o.event)
    × EachRespectsOne mine judge os (happens judge s o.starved o.event).state

-- Where all that happens to a device respects the one or the other, from a state without active runs on, the runs of each use only what
-- it owns, in each state that is left. So what the laws above ask of runs holds there.
abbrev pub RespectKeepsRunsApart : Judge → Type 0
RespectKeepsRunsApart judge =
    (mine : Tenant) (s : State) (events : List Occurrence) → RunsUseOwn mine s → RunsUseOwn (everyone_else mine) s
    → EachRespectsOne mine judge events s
    → RunsUseOwn mine (state_after judge events s) × RunsUseOwn (everyone_else mine) (state_after judge events s)
