-- What each event of a tenant that respects what it owns leaves of what others own.
use Rattle.std.proofs.Common.{◌≡◌, ◌≢◌, ℕ, Bool, true, false, List, [], ◌∷◌, set, get_or, Option, Some, None, Result, Ok, refl, sym, subst, ◌∙◌, inl, inr, get_or-set_other}
use Rattle.std.specs.Prelude.{◌&&◌, IfSome}
use Rattle.std.proofs.lemmas.Bool.{and_parts}
use Rattle.zone_state.specs.declared.status.Status.{Status}
use Rattle.nvme_entry.specs.Entry.{decoded}
use Rattle.nvme_entry.specs.declared.command.Command.{Command}
use Rattle.nvme_entry.specs.declared.command.Command.TheVariants as commands
use Rattle.nvme_entry.specs.declared.command.LoadCommand.{LoadCommand}
use Rattle.nvme_entry.specs.declared.command.RunCommand.{RunCommand}
use Rattle.accepted_programs.proofs.Proved.{set_known}
use Rattle.image_store.specs.Namespace.{ZonedNamespace, shape, zone_at}
use Rattle.zns_commands.specs.Fault.{faulted}
use Rattle.zns_commands.specs.Laws.{Commanded, Faulted}
use Rattle.zns_commands.specs.Meaning.{meaning}
use Rattle.zns_commands.proofs.Proved.{shapes_are_kept}
use Rattle.device_meaning.specs.Admission.{Loaded, destination_zone, source_zone}
use Rattle.device_meaning.specs.EventReplies.{Happening, Submission, submission_of}
use Rattle.device_meaning.specs.Events.{Occurrence, state_after}
use Rattle.device_meaning.specs.Happenings.{admitted_place, happens, just_loaded, keeping, place_left, slots_left, take_turn}
use Rattle.device_meaning.specs.Judging.{Judge}
use Rattle.device_meaning.specs.Outcome.{Ending, Turn}
use Rattle.device_meaning.specs.State.{Place, State, free_place, holds_at, loaded_at, place_at, with_namespace, with_slot}
use Rattle.device_meaning.proofs.Proved.{HoldsOfEach, IsLoad, added_leaves, added_shape, of_entry, of_turn}
use Rattle.device_events.specs.ToldEvents.{ToldEvent}
use Rattle.device_events.specs.ToldEvents as told
use Rattle.device_laws.specs.Tenants.{AllRespect, KeepsBlocks, OthersAreKept, Respects, RunsUseOwn, Tenant, UsesOwn, names_own}
use Rattle.device_laws.proofs.OthersZones.{command_kept, fault_kept, kept_on, kept_same}
use Rattle.device_laws.proofs.OwnTurns.{not_free}

module _ (tenant : Tenant) where
  -- what others own is kept, and the tenant's runs use what it owns
  pub record Keeps (s t : State) : Type 0 where
    pub kept : OthersAreKept tenant s t
    pub runs : RunsUseOwn tenant t

  pub others_same : (s : State) → OthersAreKept tenant s s
  others_same s = record {
    zones = λ z others. kept_same (zone_at s.namespace z);
    slots = λ slot others. refl;
    none_ends = λ run place at others. at;
    none_begins = λ run place at others. at;
    shape_kept = refl;
  }

  others_on : (s t u : State) → OthersAreKept tenant s t → OthersAreKept tenant t u → OthersAreKept tenant s u
  others_on s t u a b = record {
    zones = λ z others. kept_on (zone_at s.namespace z) (zone_at t.namespace z) (zone_at u.namespace z) (a.zones z others) (b.zones z others);
    slots = λ slot others. b.slots slot others ∙ a.slots slot others;
    none_ends = λ run place at others. b.none_ends run place (a.none_ends run place at others) others;
    none_begins = λ run place at others. a.none_begins run place (b.none_begins run place at others) others;
    shape_kept = b.shape_kept ∙ a.shape_kept;
  }

  -- what is the tenant's is no other's
  own_or_not : (of : ℕ → Bool) (x y : ℕ) → of x ≡ true → of y ≡ false → y ≢ x
  own_or_not of x y own others same =
      let not_own : of x ≡ false = subst (λ (n : ℕ). of n ≡ false) same others in
      absurd cc

  module _ (s : State) (uses : RunsUseOwn tenant s) where
    unchanged : Keeps s s
    unchanged = record { kept = others_same s; runs = uses }

    -- another namespace
    moved : (later : ZonedNamespace) → ((z : ℕ) → tenant.zones z ≡ false → KeepsBlocks (zone_at s.namespace z) (zone_at later z))
        → shape later ≡ shape s.namespace → Keeps s (with_namespace s later)
    moved later zones same = record {
      kept = record {
        zones = zones;
        slots = λ slot others. refl;
        none_ends = λ run place at others. at;
        none_begins = λ run place at others. at;
        shape_kept = same;
      };
      runs = uses;
    }

    -- another program in a slot of the tenant's
    loaded : (slot : ℕ) (new : Option Loaded) → tenant.slots slot ≡ true → Keeps s (with_slot s slot new)
    loaded slot new own = record {
      kept = record {
        zones = λ z others. kept_same (zone_at s.namespace z);
        slots = λ other others. get_or-set_other s.slots slot other new None (own_or_not tenant.slots slot other own others);
        none_ends = λ run place at others. at;
        none_begins = λ run place at others. at;
        shape_kept = refl;
      };
      runs = uses;
    }

    -- ---- entries

    module _ (sub : Submission) (mine : tenant.queues sub.queue ≡ true) where
      -- a run at a free place
      started : (command : RunCommand) (run : ℕ) → free_place s ≡ Some run → UsesOwn tenant (admitted_place sub s command)
          → Keeps s (record { namespace = s.namespace; slots = s.slots; places = set s.places run (Some (admitted_place sub s command)) })
      started command run free own =
          let new = admitted_place sub s command in
          record {
            kept = record {
              zones = λ z others. kept_same (zone_at s.namespace z);
              slots = λ slot others. refl;
              none_ends = λ other place at others. get_or-set_other s.places run other (Some new) None (not_free s.places run other place free at) ∙ at;
              none_begins = λ other place at others. elim (set_known s.places run other (Some new) place at) [
                | inl is ↦
                    let same : new ≡ place = cc is.1 in
                    let not_own : tenant.queues sub.queue ≡ false = subst (λ (p : Place). tenant.queues p.queue ≡ false) (sym same) others in
                    absurd cc
                | inr is ↦ is.1
              ];
              shape_kept = refl;
            };
            runs = λ other place at owned. elim (set_known s.places run other (Some new) place at) [
              | inl is ↦ let same : new ≡ place = cc is.1 in subst (UsesOwn tenant) same own
              | inr is ↦ uses other place is.1 owned
            ];
          }

      run_uses : (command : RunCommand) → names_own tenant s.namespace (Ok (commands.Run command)) ≡ true → UsesOwn tenant (admitted_place sub s command)
      run_uses command own =
          let zones = tenant.zones (source_zone s.namespace command) && tenant.zones (destination_zone s.namespace command) in
          let parts = and_parts (tenant.slots command.slot) zones own in
          let both = and_parts (tenant.zones (source_zone s.namespace command)) (tenant.zones (destination_zone s.namespace command)) parts.1 in
          record { slot = parts.0; source = both.0; destination = both.1 }

      module _ (judge : Judge) (own : names_own tenant s.namespace (decoded sub.entry) ≡ true) where
        named : (asked : Result Command Status) → decoded sub.entry ≡ asked → names_own tenant s.namespace asked ≡ true
        named asked is = subst (λ (r : Result Command Status). names_own tenant s.namespace r ≡ true) is own

        load_keeps : (load : LoadCommand) (h : Happening) → decoded sub.entry ≡ Ok (commands.Load load) → IsLoad judge sub s load h → Keeps s h.state
        load_keeps load h asked is = elim is.state [
          | inl same ↦ subst (Keeps s) (sym same) unchanged
          | inr takes ↦
              subst (Keeps s) (sym takes.taken)
              (loaded load.slot (Some (just_loaded takes.program load.limit)) (named (Ok (commands.Load load)) asked))
        ]

        entry_keeps : HoldsOfEach judge (λ h. Keeps s h.state) sub s
        entry_keeps = record {
          unchanged = λ status output is. unchanged;
          standard = λ c asked.
              let holds = holds_at s in
              moved (meaning s.namespace holds c sub.input).namespace
              (λ z others. command_kept tenant z others s.namespace holds c sub.input (named (Ok (commands.Standard c)) asked))
              (shapes_are_kept (Commanded holds c sub.input) s.namespace);
          load = λ load h asked is. load_keeps load h asked is;
          start = λ command run asked passed free. started command run free (run_uses command (named (Ok (commands.Run command)) asked));
        }

    -- ---- turns

    module _ (run : ℕ) (place : Place) (at : place_at s run ≡ Some place) (mine : tenant.queues place.queue ≡ true) where
      left_slots : (own : tenant.slots place.slot ≡ true) (ending : Option Ending) (slot : ℕ) → tenant.slots slot ≡ false
          → get_or (slots_left s place ending) slot None ≡ loaded_at s slot
      left_slots own None slot others = refl
      left_slots own (Some ending) slot others =
          get_or-set_other s.slots place.slot slot (keeping (loaded_at s place.slot) ending.result) None
          (own_or_not tenant.slots place.slot slot own others)

      -- what is left of the run is the tenant's
      left_is : (later : List Turn) (ending : Option Ending) (p : Place) → place_left place later ending ≡ Some p → record place { turns = later } ≡ p
      left_is later None p is = cc
      left_is later (Some ending) p is = absurd cc

      taken : (turn : Turn) (later : List Turn) → Keeps s (take_turn s run place (turn ∷ later)).state
      taken turn later =
          let own = uses run place at mine in
          let left = place_left place later turn.ending in
          record {
            kept = record {
              zones = λ z others.
                  subst (KeepsBlocks (zone_at s.namespace z))
                  (sym (added_leaves s.namespace place.destination z turn.blocks (own_or_not tenant.zones place.destination z own.destination others)))
                  (kept_same (zone_at s.namespace z));
              slots = λ slot others. left_slots own.slot turn.ending slot others;
              none_ends = λ other p here others.
                  get_or-set_other s.places run other left None
                  (λ same.
                  let one : place_at s run ≡ Some p = subst (λ (n : ℕ). place_at s n ≡ Some p) same here in
                  let two : place ≡ p = cc in
                  let not_own : tenant.queues place.queue ≡ false = subst (λ (q : Place). tenant.queues q.queue ≡ false) (sym two) others in
                  absurd cc)
                  ∙ here;
              none_begins = λ other p here others. elim (set_known s.places run other left p here) [
                | inl is ↦
                    let not_own : tenant.queues place.queue ≡ false =
                    subst (λ (q : Place). tenant.queues q.queue ≡ false) (sym (left_is later turn.ending p is.1)) others in
                    absurd cc
                | inr is ↦ is.1
              ];
              shape_kept = added_shape s.namespace place.destination turn.blocks;
            };
            runs = λ other p here owned. elim (set_known s.places run other left p here) [
              | inl is ↦
                  subst (UsesOwn tenant) (left_is later turn.ending p is.1)
                  (record { slot = own.slot; source = own.source; destination = own.destination })
              | inr is ↦ uses other p is.1 owned
            ];
          }

    -- ---- any event

    event_keeps : (judge : Judge) (starved : Bool) (e : ToldEvent) → Respects tenant s e → Keeps s (happens judge s starved e).state
    event_keeps judge starved (told.Submitted queue entry input) respects =
        let sub = submission_of queue entry input in
        of_entry judge (λ (h : Happening). Keeps s h.state) sub s (entry_keeps sub respects.0 judge respects.1) starved
    event_keeps judge starved (told.Turned run) respects =
        of_turn (λ (h : Happening). Keeps s h.state) s run unchanged
        (λ place turn later at first.
        taken run place at (subst (λ (o : Option Place). IfSome o (λ p. tenant.queues p.queue ≡ true)) at respects) turn later)
    event_keeps judge starved (told.Faulted zone state) own =
        let holds = holds_at s in
        moved (faulted s.namespace holds zone state) (λ z others. fault_kept tenant z others s.namespace holds zone state own)
        (shapes_are_kept (Faulted holds zone state) s.namespace)

  module _ (judge : Judge) where
    pub events_keep : (events : List Occurrence) (s : State) → RunsUseOwn tenant s → AllRespect tenant judge events s
        → Keeps s (state_after judge events s)
    events_keep [] s uses respect = unchanged s uses
    events_keep (o ∷ os) s uses respect =
        let t = (happens judge s o.starved o.event).state in
        let first = event_keeps s uses judge o.starved o.event respect.0 in
        let later = events_keep os t first.runs respect.1 in
        record { kept = others_on s t (state_after judge os t) first.kept later.kept; runs = later.runs }
