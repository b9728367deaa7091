-- Where runs that were kept go on, and where they can't.
use Rattle.std.proofs.Common.{◌≡◌, ◌≤◌, ◌+◌, ◌-◌, ◌*◌, ◌/◌, ℕ, Bool, true, false, cond, List, length, map, get_or, Option, Some, None, option_map, refl, ap, sym, subst, ◌∙◌, inl, inr, arith}
use Rattle.std.specs.Prelude.{is_some, nat_le, nat_lt}
use Rattle.std.proofs.Math.ListN.{get_or-map}
use Rattle.std.proofs.Math.Nat.{div-lt_iff_lt-mul}
use Rattle.std.proofs.lemmas.Bool.{cases_lt, le-leb, lt-ltb}
use Rattle.std.proofs.lemmas.List.{get_or_past}
use Rattle.zone_state.specs.State.{is_open}
use Rattle.nvme_entry.specs.declared.command.RunCommand.{RunCommand}
use Rattle.image_store.specs.Geometry.{zone_block_at, zone_block_of}
use Rattle.image_store.specs.Namespace.{ZoneWithBlocks, ZonedNamespace, no_zone, shape, zone_at}
use Rattle.image_store.specs.declared.geometry.ZoneBlock.{ZoneBlock}
use Rattle.zns_commands.specs.Address.{zone_block_in, zone_number}
use Rattle.program_interface.specs.RunSizes.{Sizes}
use Rattle.emit_append.specs.Need.{need_behind}
use Rattle.word_domain.specs.declared.domain.Domain.{Ghosts}
use Rattle.verifier.specs.Verified.{sizes_of}
use Rattle.device_meaning.specs.Admission.{granted_sizes, sizes_in}
use Rattle.device_meaning.specs.View.{Active}
use Rattle.runner.specs.DeviceState.{active_of, loaded_slot}
use Rattle.runner.specs.Restored.{CanGoOn}
use Rattle.runner.specs.declared.active_run.ActiveRun.{ActiveRun}
use Rattle.runner.specs.declared.loaded_program.LoadedProgram.{LoadedProgram}
use Rattle.runner.specs.steps.Ready.{AreWritten, IsForBlocks}
use Rattle.runner.specs.steps.RunningAgain.{AreSourcesWritten, CountsFit, HasPassed, IsAgain, IsDestination, IsOpened, IsSource}

-- a block that the shape doesn't have is in no zone
outside : (ns : ZonedNamespace) (lba : ℕ) → 1 ≤ ns.size → None ≡ zone_block_of (shape ns) lba → zone_at ns (zone_number ns lba) ≡ no_zone
outside ns lba size none = elim (cases_lt lba (length ns.zones * ns.size)) [
  | inl less ↦
      let there : None ≡ Some (zone_block_at ns.size lba) =
      none ∙ ap (λ (t : Bool). cond t (Some (zone_block_at ns.size lba)) None) (lt-ltb lba (length ns.zones * ns.size) less) in
      absurd cc
  | inr past ↦ elim (cases_lt (lba / ns.size) (length ns.zones)) [
    | inl inside ↦
        let less = (div-lt_iff_lt-mul size).0 inside in
        absurd (omega (arith, less, past))
    | inr beyond ↦ get_or_past ns.zones (lba / ns.size) no_zone beyond
  ]
]

-- and where it has that block, it is found there
pub found_block : (ns : ZonedNamespace) (lba : ℕ) (first : ZoneBlock) → Some first ≡ zone_block_of (shape ns) lba → first ≡ zone_block_in ns lba
found_block ns lba first is = by (nat_lt lba (length ns.zones * ns.size)) is
  where
    by : (t : Bool) → Some first ≡ cond t (Some (zone_block_at ns.size lba)) None → first ≡ zone_block_in ns lba
    by true is = cc
    by false is = absurd cc

pub unwritten_outside : (ns : ZonedNamespace) (command : RunCommand) → 1 ≤ ns.size → 1 ≤ command.blocks → None ≡ zone_block_of (shape ns) command.lba
    → AreSourcesWritten ns command → ⊥
unwritten_outside ns command size some none written =
    let blank = ap (λ (z : ZoneWithBlocks). length z.blocks) (outside ns command.lba size none) in
    omega (arith, some, written, blank)

pub unopened_outside : (ns : ZonedNamespace) (lba : ℕ) → 1 ≤ ns.size → 1 ≤ ns.capacity → None ≡ zone_block_of (shape ns) lba → IsOpened ns (zone_number ns lba) → ⊥
unopened_outside ns lba size capacity none (inl opened) =
    let shut : is_open (zone_at ns (zone_number ns lba)).state ≡ false = ap (λ (z : ZoneWithBlocks). is_open z.state) (outside ns lba size none) in
    cc (opened, shut)
unopened_outside ns lba size capacity none (inr full) =
    let blank = ap (λ (z : ZoneWithBlocks). length z.blocks) (outside ns lba size none) in
    omega (arith, full, capacity, blank)

-- ---- what the tests tell

module _ {D : Type 0} {domain : Ghosts D} (ns : ZonedNamespace) (slots : List (Option (LoadedProgram D domain))) (a : Active) where
  abbrev slot_is : get_or (map loaded_slot slots) a.command.slot None ≡ loaded_slot (get_or slots a.command.slot None)
  slot_is = get_or-map loaded_slot slots a.command.slot None

  by_slot : (o : Option (LoadedProgram D domain)) → None ≡ option_map (λ p. sizes_of p.prepared) o → is_some (loaded_slot o) ≡ true → ⊥
  by_slot None none there = cc
  by_slot (Some p) none there = cc

  -- its program isn't there
  pub not_there : None ≡ option_map (λ p. sizes_of p.prepared) (get_or slots a.command.slot None) → CanGoOn ns (map loaded_slot slots) a → ⊥
  not_there none can = by_slot (get_or slots a.command.slot None) none (ap is_some (sym slot_is) ∙ can.begun.loaded)

  by_sizes : (o : Option (LoadedProgram D domain)) (sizes : Sizes) → Some sizes ≡ option_map (λ p. sizes_of p.prepared) o
      → (p : LoadedProgram D domain) × (o ≡ Some p) × (sizes ≡ sizes_of p.prepared)
  by_sizes None sizes some = absurd cc
  by_sizes (Some p) sizes some = (p, refl, cc)

  -- or it is, for these sizes
  pub there_for : (sizes : Sizes) → Some sizes ≡ option_map (λ p. sizes_of p.prepared) (get_or slots a.command.slot None)
      → (p : LoadedProgram D domain) × (get_or slots a.command.slot None ≡ Some p) × (sizes ≡ sizes_of p.prepared)
  there_for sizes some = by_sizes (get_or slots a.command.slot None) sizes some

  -- one that can go on counts what one can
  pub counts_of : (block : ℕ) → block ≡ ns.block → CanGoOn ns (map loaded_slot slots) a → CountsFit block a
  counts_of block same can = record {
    left = can.begun.left;
    frames = can.begun.frames;
    appended = can.begun.appended;
    pending = omega (arith, same, can.begun.pending);
  }

  -- it appends to another zone than it reads from
  pub other_than : (source : ZoneBlock) (destination : ℕ) → IsSource ns a.command source → IsDestination ns a.command destination → source.zone ≡ destination
      → CanGoOn ns (map loaded_slot slots) a → ⊥
  other_than source destination from to same can = can.begun.other (sym (ap (λ (b : ZoneBlock). b.zone) from.is) ∙ same ∙ to.is)

  module _ (p : LoadedProgram D domain) (loaded : get_or slots a.command.slot None ≡ Some p) (accepted : IsForBlocks ns p) where
    -- the sizes that its program is granted
    pub granted : sizes_in ns (get_or (map loaded_slot slots) a.command.slot None) ≡ granted_sizes ns (sizes_of p.prepared).limit
    granted = ap (sizes_in ns) (slot_is ∙ ap loaded_slot loaded)

    pub sizes_are : (sizes : Sizes) → sizes ≡ sizes_of p.prepared → sizes ≡ granted_sizes ns (sizes_of p.prepared).limit
    sizes_are sizes same = same ∙ ap (λ (block : ℕ). record { block = block; limit = (sizes_of p.prepared).limit }) accepted

    -- what is left of it fits
    pub no_room : (sizes : Sizes) (destination : ℕ) → sizes ≡ sizes_of p.prepared → IsDestination ns a.command destination
        → nat_le (length (zone_at ns destination).blocks + need_behind (length a.so_far.pending) (a.command.blocks - a.so_far.index) sizes) ns.capacity ≡ false
        → CanGoOn ns (map loaded_slot slots) a → ⊥
    no_room sizes destination same to full can =
        let needs : ℕ → Sizes → ℕ = λ z s. length (zone_at ns z).blocks + need_behind (length a.so_far.pending) (a.command.blocks - a.so_far.index) s in
        let fits : needs destination sizes ≤ ns.capacity =
        subst (λ (s : Sizes). needs destination s ≤ ns.capacity) (granted ∙ sym (sizes_are sizes same))
        (subst (λ (z : ℕ). needs z (sizes_in ns (get_or (map loaded_slot slots) a.command.slot None)) ≤ ns.capacity) (sym to.is) can.room) in
        let fit = le-leb (needs destination sizes) ns.capacity fits in
        cc (fit, full)

-- ---- the run that goes on

module _ {D : Type 0} {domain : Ghosts D} (ns : ZonedNamespace) (slots : List (Option (LoadedProgram D domain))) (p : LoadedProgram D domain) (source : ZoneBlock) (destination : ℕ) (active : ActiveRun)
    (passed : HasPassed ns slots p source destination (active_of active)) (from : active.source ≡ source) (to : active.destination ≡ destination)
    (block : active.packer.block ≡ ns.block) where
  abbrev a : Active
  a = active_of active

  can_go_on : CanGoOn ns (map loaded_slot slots) a
  can_go_on =
      let at = passed.source_is.is in
      record {
        begun = record {
          loaded = ap is_some (slot_is ns slots a ∙ ap loaded_slot passed.loaded);
          left = passed.counts.left;
          written = subst (λ (b : ZoneBlock). AreWritten ns b a.command.blocks) at passed.source_is.written;
          other = λ same. passed.other (ap (λ (b : ZoneBlock). b.zone) at ∙ same ∙ sym passed.destination_is.is);
          scratch = passed.scratch;
          pending = passed.counts.pending;
          bytes = passed.bytes;
          frames = passed.counts.frames;
          appended = passed.counts.appended;
        };
        room = subst (λ (z : ℕ). length (zone_at ns z).blocks
            + need_behind (length a.so_far.pending) (a.command.blocks - a.so_far.index) (sizes_in ns (get_or (map loaded_slot slots) a.command.slot None)) ≤ ns.capacity)
            passed.destination_is.is
            (subst (λ (s : Sizes). length (zone_at ns destination).blocks
            + need_behind (length a.so_far.pending) (a.command.blocks - a.so_far.index) s ≤ ns.capacity)
            (sym (granted ns slots a p passed.loaded passed.accepted)) passed.room);
        opened = subst (IsOpened ns) passed.destination_is.is passed.destination_is.opened;
      }

  pub is_again : IsAgain ns slots a active
  is_again = record {
    seen = refl;
    can = can_go_on;
    running = record {
      program = p;
      loaded = passed.loaded;
      accepted = passed.accepted;
      fits = record {
        source = from ∙ passed.source_is.is;
        destination = to ∙ passed.destination_is.is;
        other = λ same. passed.other (sym (ap (λ (b : ZoneBlock). b.zone) from) ∙ same ∙ to);
        left = passed.counts.left;
        most = passed.most;
        written = subst (λ (b : ZoneBlock). AreWritten ns b active.command.blocks) (sym from) passed.source_is.written;
        small = omega (arith, passed.source_is.small, ap (λ (b : ZoneBlock). b.offset) from);
        address = passed.source_is.address;
        packer = block;
        frames = passed.counts.frames;
        appended = passed.counts.appended;
      };
      left = subst (λ (z : ℕ). length (zone_at ns z).blocks
          + need_behind (length active.packer.pending) (active.command.blocks - active.index) (granted_sizes ns (sizes_of p.prepared).limit) ≤ ns.capacity) (sym to) passed.room;
    };
  }

module _ {D : Type 0} {domain : Ghosts D} where
  -- the same, of what was kept
  pub again : (ns : ZonedNamespace) (slots : List (Option (LoadedProgram D domain))) (p : LoadedProgram D domain) (source : ZoneBlock) (destination : ℕ) (active : ActiveRun) (a : Active)
      → active_of active ≡ a → HasPassed ns slots p source destination a → active.source ≡ source → active.destination ≡ destination → active.packer.block ≡ ns.block
      → IsAgain ns slots a active
  again ns slots p source destination active a seen passed from to block =
      subst (λ (x : Active). IsAgain ns slots x active) seen
      (is_again ns slots p source destination active (subst (HasPassed ns slots p source destination) (sym seen) passed) from to block)
