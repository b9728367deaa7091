-- What is seen of active runs stays, whatever is written behind their source blocks.
use Rattle.std.proofs.Common.{◌≡◌, ◌≢◌, ℕ, zero, suc, ◌+◌, ◌-◌, ◌/◌, ◌%◌, ◌≤◌, List, [], ◌∷◌, length, map, set, get_or, Option, Some, None, refl, ap, sym, subst, ◌∙◌, arith, length-append}
use Rattle.std.proofs.Math.ListN.{get_or-map}
use Rattle.image_store.specs.Geometry.{Shape}
use Rattle.image_store.specs.Namespace.{ZoneWithBlocks, ZonedNamespace, shape, zone_at}
use Rattle.image_store.specs.declared.geometry.ZoneBlock.{ZoneBlock}
use Rattle.emit_append.specs.Need.{need_behind}
use Rattle.zns_commands.specs.Address.{zone_number}
use Rattle.zns_commands.specs.Left.{Grows}
use Rattle.word_domain.specs.declared.domain.Domain.{Ghosts}
use Rattle.device_meaning.specs.Admission.{SameProgram}
use Rattle.device_meaning.specs.State.{Place, place_at}
use Rattle.device_meaning.specs.View.{KeepsSource, place_of, seen}
use Rattle.device_meaning.proofs.Proved.{seen_stays}
use Rattle.runner.specs.DeviceState.{active_of, loaded_slot, running, device_state}
use Rattle.runner.specs.steps.Ready.{FitsNamespace, HasRoomLeft}
use Rattle.runner.specs.declared.active_run.ActiveRun.{ActiveRun}
use Rattle.runner.specs.declared.loaded_program.LoadedProgram.{LoadedProgram}

module _ {D : Type 0} {domain : Ghosts D} where
  -- what a run needs to be seen as before: its source blocks and its program
  pub record Stays (ns later : ZonedNamespace) (slots slots' : List (Option (LoadedProgram D domain))) (a : ActiveRun) : Type 0 where
    pub source : KeepsSource ns later (active_of a)
    pub program : SameProgram (get_or (map loaded_slot slots) a.command.slot None) (get_or (map loaded_slot slots') a.command.slot None)

-- ---- a run

pub still_fits : (ns later : ZonedNamespace) (a : ActiveRun) → FitsNamespace ns a → shape later ≡ shape ns
    → Grows (zone_at ns a.source.zone).blocks (zone_at later a.source.zone).blocks → FitsNamespace later a
still_fits ns later a fits same grows =
    let size : ns.size ≡ later.size = ap (λ (s : Shape). s.size) (sym same) in
    let block : ns.block ≡ later.block = ap (λ (s : Shape). s.block) (sym same) in
    let longer = ap length grows.is ∙ length-append (zone_at ns a.source.zone).blocks grows.more in
    let spot : ℕ → ZoneBlock = λ n. record { zone = a.command.lba / n; offset = a.command.lba % n } in
    record {
      source = fits.source ∙ ap spot size;
      destination = fits.destination ∙ ap (λ (n : ℕ). a.command.destination / n) size;
      other = fits.other;
      left = fits.left;
      most = fits.most;
      written = omega (arith, fits.written, longer);
      small = fits.small;
      address = fits.address;
      packer = fits.packer ∙ block;
      frames = fits.frames;
      appended = fits.appended;
    }

-- and what is left of it has room in its destination, where that is as before
pub still_left : (ns later : ZonedNamespace) (limit : ℕ) (a : ActiveRun) → HasRoomLeft ns limit a → shape later ≡ shape ns
    → zone_at later a.destination ≡ zone_at ns a.destination → HasRoomLeft later limit a
still_left ns later limit a left same zone =
    let begun = length a.packer.pending in
    let count = a.command.blocks - a.index in
    let room : Shape → ZoneWithBlocks → Type 0 = λ s z. length z.blocks + need_behind begun count (record { block = s.block; limit = limit }) ≤ s.capacity in
    subst (λ (z : ZoneWithBlocks). room (shape later) z) (sym zone) (subst (λ (s : Shape). room s (zone_at ns a.destination)) (sym same) left)

-- the source blocks of a run that fits are kept where they grow
pub keeps_source : (ns later : ZonedNamespace) (a : ActiveRun) → FitsNamespace ns a → shape later ≡ shape ns
    → Grows (zone_at ns a.source.zone).blocks (zone_at later a.source.zone).blocks → KeepsSource ns later (active_of a)
keeps_source ns later a fits same grows =
    let zone : a.source.zone ≡ zone_number ns a.command.lba = ap (λ (p : ZoneBlock). p.zone) fits.source in
    let offset : a.source.offset ≡ a.command.lba % ns.size = ap (λ (p : ZoneBlock). p.offset) fits.source in
    let written = subst (λ (z : ℕ). a.source.offset + a.command.blocks ≤ length (zone_at ns z).blocks) zone fits.written in
    record {
      size = ap (λ (s : Shape). s.size) same;
      block = ap (λ (s : Shape). s.block) same;
      grows = subst (λ (z : ℕ). Grows (zone_at ns z).blocks (zone_at later z).blocks) zone grows;
      written = omega (arith, written, offset, fits.left);
    }

-- the source blocks of a run that fits are kept where its source grows, as it is found by its first address
pub grows_there : (ns later : ZonedNamespace) (a : ActiveRun) → FitsNamespace ns a
    → Grows (zone_at ns (zone_number ns a.command.lba)).blocks (zone_at later (zone_number ns a.command.lba)).blocks
    → Grows (zone_at ns a.source.zone).blocks (zone_at later a.source.zone).blocks
grows_there ns later a fits grows =
    subst (λ (z : ℕ). Grows (zone_at ns z).blocks (zone_at later z).blocks) (sym (ap (λ (p : ZoneBlock). p.zone) fits.source)) grows

-- ---- all runs

module _ {D : Type 0} {domain : Ghosts D} where
  -- what is seen at a place
  pub place_is : (ns : ZonedNamespace) (slots : List (Option (LoadedProgram D domain))) (runs : List (Option ActiveRun)) (k : ℕ)
      → place_at (device_state ns slots runs) k ≡ seen ns (map loaded_slot slots) (running (get_or runs k None))
  place_is ns slots runs k =
      get_or-map (seen ns (map loaded_slot slots)) (map running runs) k None
      ∙ ap (seen ns (map loaded_slot slots)) (get_or-map running runs k None)

  -- the place of a run
  pub placed_at : (ns : ZonedNamespace) (slots : List (Option (LoadedProgram D domain))) (runs : List (Option ActiveRun)) (k : ℕ) (a : ActiveRun)
      → get_or runs k None ≡ Some a → place_at (device_state ns slots runs) k ≡ Some (place_of ns (map loaded_slot slots) (active_of a))
  placed_at ns slots runs k a at = place_is ns slots runs k ∙ ap (λ (o : Option ActiveRun). seen ns (map loaded_slot slots) (running o)) at

module _ {D : Type 0} {domain : Ghosts D} (ns later : ZonedNamespace) (slots slots' : List (Option (LoadedProgram D domain))) where
  abbrev StayAll : List (Option ActiveRun) → Type 0
  StayAll runs = (k : ℕ) (a : ActiveRun) → get_or runs k None ≡ Some a → Stays ns later slots slots' a

  stays_seen : (r : Option ActiveRun) → ((a : ActiveRun) → r ≡ Some a → Stays ns later slots slots' a)
      → seen later (map loaded_slot slots') (running r) ≡ seen ns (map loaded_slot slots) (running r)
  stays_seen None stays = refl
  stays_seen (Some a) stays =
      let s = stays a refl in ap Some (seen_stays ns later (map loaded_slot slots) (map loaded_slot slots') (active_of a) s.source s.program)

  pub places_stay : (runs : List (Option ActiveRun)) → StayAll runs → (device_state later slots' runs).places ≡ (device_state ns slots runs).places
  places_stay [] stays = refl
  places_stay (r ∷ rs) stays =
      ap (λ (p : Option Place). p ∷ (device_state later slots' rs).places) (stays_seen r (stays zero))
      ∙ ap (λ (ps : List (Option Place)). seen ns (map loaded_slot slots) (running r) ∷ ps) (places_stay rs (λ k. stays (suc k)))

  -- the same, where another run, or none, takes one of the places
  pub others_stay : (runs : List (Option ActiveRun)) (i : ℕ) (r : Option ActiveRun)
      → ((k : ℕ) (a : ActiveRun) → k ≢ i → get_or runs k None ≡ Some a → Stays ns later slots slots' a)
      → (device_state later slots' (set runs i r)).places ≡ set (device_state ns slots runs).places i (seen later (map loaded_slot slots') (running r))
  others_stay [] i r stays = refl
  others_stay (x ∷ xs) zero r stays =
      ap (λ (ps : List (Option Place)). seen later (map loaded_slot slots') (running r) ∷ ps)
      (places_stay xs (λ k a at. stays (suc k) a (λ same. absurd (omega (arith, same))) at))
  others_stay (x ∷ xs) (suc i) r stays =
      let rest = others_stay xs i r (λ k a other at. stays (suc k) a (λ same. other (omega (arith, same))) at) in
      ap (λ (p : Option Place). p ∷ (device_state later slots' (set xs i r)).places)
      (stays_seen x (λ a at. stays zero a (λ same. absurd (omega (arith, same))) at))
      ∙ ap (λ (ps : List (Option Place)). seen ns (map loaded_slot slots) (running x) ∷ ps) rest
