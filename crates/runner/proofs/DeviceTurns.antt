-- A turn, over all that a device has.
use Rattle.std.proofs.Common.{◌≡◌, ◌≢◌, ℕ, ◌<◌, ◌≤◌, ◌/◌, false, List, [], ◌∷◌, length, map, set, get_or, Option, Some, None, IfSome, refl, ap, sym, subst, ◌∙◌, arith, inl, inr}
use Rattle.std.specs.Prelude.{is_some}
use Rattle.std.specs.Option.{option_map_or}
use Rattle.std.proofs.Math.ListN.{get_or-map}
use Rattle.std.proofs.Math.Seq.{map-set_same}
use Rattle.std.proofs.lemmas.List.{get_or_past, map-set, set-get_or}
use Rattle.nvme_entry.specs.declared.command.RunCommand.{RunCommand}
use Rattle.instruction_set.specs.declared.instruction.Instruction.{Instruction}
use Rattle.program_meaning.proofs.Proved.{the_value}
use Rattle.accepted_programs.proofs.Proved.{set_known, set_some}
use Rattle.device_meaning.specs.Judging.{IsSoundJudge, Judge, interval_judge}
use Rattle.word_domain.specs.declared.domain.Domain.{Ghosts}
use Rattle.verifier.specs.Verified.{program_of, sizes_of}
use Rattle.image_store.specs.Geometry.{Shape}
use Rattle.image_store.specs.Namespace.{ZonedNamespace, shape, zone_at}
use Rattle.image_store.proofs.Proved.{block_some}
use Rattle.zns_commands.specs.Address.{zone_number}
use Rattle.zns_commands.specs.Left.{Grows}
use Rattle.zns_commands.specs.declared.answer.Answer.{Answer}
use Rattle.device_meaning.specs.Admission.{Loaded, SameProgram, task_of}
use Rattle.device_meaning.specs.EventReplies.{Happening, idle}
use Rattle.device_meaning.specs.Laws.{KeepsFor, RoomIn}
use Rattle.device_meaning.specs.Happenings.{added, keeping, place_left, slots_left, take_turn, turn_reply, turned, turned_at}
use Rattle.device_meaning.specs.Outcome.{Turn, rest}
use Rattle.device_meaning.specs.State.{Place, State, place_at}
use Rattle.device_meaning.specs.View.{place_of, seen, to_come, turns_of}
use Rattle.device_events.specs.ToldEvents as told
use Rattle.device_events.specs.declared.reply.Reply.{Reply}
use Rattle.device_events.specs.declared.reply.Reply.TheVariants as reply
use Rattle.device_meaning.proofs.Proved.{blocks_leave_others, events_keep_for_runs, states_are_sound, turned_is}
use Rattle.runner.specs.steps.Answered.{complete_reply}
use Rattle.runner.specs.DeviceState.{active_of, loaded_slot, loaded_of, running, device_state}
use Rattle.runner.specs.steps.Ready.{FitsNamespace, HasRoomLeft, IsForBlocks, IsReady, IsRunning}
use Rattle.device_meaning.specs.Reached.{IsReached}
use Rattle.runner.specs.steps.Turning.{FitsAt, FitsIn, FitsOn, TurnGoesOn, HasEnded, IsTurned, Keeps, SlotTurned}
use Rattle.runner.specs.declared.active_run.ActiveRun.{ActiveRun}
use Rattle.runner.specs.declared.loaded_program.LoadedProgram.{LoadedProgram}
use Rattle.runner.proofs.MayBeThere.{found}
use Rattle.runner.proofs.Staying.{Stays, grows_there, keeps_source, others_stay, place_is, placed_at, still_fits, still_left}

module _ {D : Type 0} {domain : Ghosts D} (ns : ZonedNamespace) (slots : List (Option (LoadedProgram D domain))) (runs : List (Option ActiveRun)) (ready : IsReady ns slots runs)
    (k : ℕ) (a : ActiveRun) (at : get_or runs k None ≡ Some a) (p : LoadedProgram D domain) (loaded : get_or slots a.command.slot None ≡ Some p) where
  abbrev s : State
  s = device_state ns slots runs

  abbrev after : State
  after = (turned s k).state

  abbrev place : Place
  place = place_of ns (map loaded_slot slots) (active_of a)

  abbrev code : List (Option Instruction)
  code = program_of p.prepared

  abbrev limit : ℕ
  limit = (sizes_of p.prepared).limit

  here : place_at s k ≡ Some place
  here = placed_at ns slots runs k a at

  fits : FitsNamespace ns a
  fits = (ready.running k a at).fits

  accepted : IsForBlocks ns p
  accepted = ready.programs a.command.slot p loaded

  slot_is : get_or (map loaded_slot slots) a.command.slot None ≡ Some (loaded_of p)
  slot_is = get_or-map loaded_slot slots a.command.slot None ∙ ap loaded_slot loaded

  turns_are : place.turns ≡ turns_of ns code limit (active_of a)
  turns_are = ap (λ (o : Option Loaded). rest (task_of ns o a.command) (active_of a).so_far (to_come ns (active_of a))) slot_is

  left : HasRoomLeft ns limit a
  left =
      let own = ready.running k a at in
      subst (λ (o : Option (LoadedProgram D domain)). IfSome o (λ q. HasRoomLeft ns (sizes_of q.prepared).limit a)) (sym own.loaded ∙ loaded) own.left

  fits_on : (judge : Judge) → IsSoundJudge judge → IsReached judge s → FitsOn ns code limit a
  fits_on judge judges reached =
      let sound = states_are_sound judge judges s reached in
      record {
        run = fits;
        some = omega (arith, block_some sound.namespace.shape);
        limits = subst (λ (block : ℕ). limit ≤ block) accepted p.prepared.are_sizes.fits;
        room =
            subst (λ (z : ℕ). RoomIn ns.capacity (zone_at ns z) (turns_of ns code limit (active_of a))) (sym fits.destination)
            (subst (RoomIn ns.capacity (zone_at ns (zone_number ns a.command.destination))) turns_are (sound.rooms k place here));
        left = left;
      }

  fits_in : (judge : Judge) → IsSoundJudge judge → IsReached judge s → FitsIn ns (get_or slots a.command.slot None) a
  fits_in judge judges reached = subst (λ (o : Option (LoadedProgram D domain)). FitsIn ns o a) (sym loaded) (accepted, fits_on judge judges reached)

  -- ---- the first of its turns is done, and its program and its place are these

  module _ (new : ZonedNamespace) (q : LoadedProgram D domain) (r : Option ActiveRun) (turn : Turn) (later : List Turn)
      (first : turns_of ns code limit (active_of a) ≡ turn ∷ later) (written : new ≡ added ns a.destination turn.blocks)
      (same : q.prepared ≡ p.prepared) (programs : slots_left s place turn.ending ≡ map loaded_slot (set slots a.command.slot (Some q))) where
    abbrev slots' : List (Option (LoadedProgram D domain))
    slots' = set slots a.command.slot (Some q)

    comes : turned s k ≡ take_turn s k place (turn ∷ later)
    comes = turned_is s k place turn later here (turns_are ∙ first)

    written_there : added ns place.destination turn.blocks ≡ new
    written_there = ap (λ (z : ℕ). added ns z turn.blocks) (sym fits.destination) ∙ sym written

    namespace_is : after.namespace ≡ new
    namespace_is = ap (λ (h : Happening). h.state.namespace) comes ∙ written_there

    programs_are : after.slots ≡ map loaded_slot slots'
    programs_are = ap (λ (h : Happening). h.state.slots) comes ∙ programs

    keeps : (j : ℕ) (b : ActiveRun) → get_or runs j None ≡ Some b → KeepsFor (place_of ns (map loaded_slot slots) (active_of b)) s after
    keeps j b there =
        events_keep_for_runs interval_judge s (record { event = told.Turned k; starved = false }) j (place_of ns (map loaded_slot slots) (active_of b))
        (placed_at ns slots runs j b there)

    same_shape : shape new ≡ shape ns
    same_shape = subst (λ (m : ZonedNamespace). shape m ≡ shape ns) namespace_is (keeps k a at).shape_kept

    same_block : ns.block ≡ new.block
    same_block = ap (λ (x : Shape). x.block) (sym same_shape)

    grows : (j : ℕ) (b : ActiveRun) → get_or runs j None ≡ Some b → Grows (zone_at ns b.source.zone).blocks (zone_at new b.source.zone).blocks
    grows j b there =
        grows_there ns new b (ready.running j b there).fits
        (subst (λ (m : ZonedNamespace). Grows (zone_at ns (zone_number ns b.command.lba)).blocks (zone_at m (zone_number ns b.command.lba)).blocks) namespace_is
        (keeps j b there).source)

    stays : (j : ℕ) (b : ActiveRun) → get_or runs j None ≡ Some b → Stays ns new slots slots' b
    stays j b there = record {
      source = keeps_source ns new b (ready.running j b there).fits same_shape (grows j b there);
      program = subst (λ (xs : List (Option Loaded)). SameProgram (get_or (map loaded_slot slots) b.command.slot None) (get_or xs b.command.slot None)) programs_are
          (keeps j b there).program;
    }

    still_for : (i : ℕ) (x : LoadedProgram D domain) → get_or slots' i None ≡ Some x → IsForBlocks new x
    still_for i x there = elim (set_known slots a.command.slot i (Some q) x there) [
      | inl is ↦ subst (λ o. IfSome o (IsForBlocks new)) is.1 (ap (λ v. (sizes_of v).block) same ∙ accepted ∙ same_block)
      | inr was ↦ ready.programs i x was.1 ∙ same_block
    ]

    -- the limit of what is in a slot
    abbrev limit_at : Option (LoadedProgram D domain) → ℕ
    limit_at o = option_map_or (λ x. (sizes_of x.prepared).limit) o 0

    same_limit : (i : ℕ) (x z : LoadedProgram D domain) → get_or slots i None ≡ Some x → get_or slots' i None ≡ Some z
        → (sizes_of x.prepared).limit ≡ (sizes_of z.prepared).limit
    same_limit i x z was there = elim (set_known slots a.command.slot i (Some q) z there) [
      | inl is ↦
          ap limit_at (sym was ∙ ap (λ (n : ℕ). get_or slots n None) is.0 ∙ loaded) ∙ ap (λ v. (sizes_of v).limit) (sym same) ∙ ap limit_at is.1
      | inr other ↦ ap limit_at (sym was ∙ other.1)
    ]

    -- a run whose program was in its slot, and is
    is_running : (b : ActiveRun) (x : LoadedProgram D domain) → get_or slots b.command.slot None ≡ Some x → FitsNamespace new b
        → HasRoomLeft new (sizes_of x.prepared).limit b → IsRunning new slots' b
    is_running b x was fit room =
        let z = the_value _ (set_some slots a.command.slot b.command.slot q (ap is_some was)) in
        record {
          program = z.0;
          loaded = z.1;
          accepted = still_for b.command.slot z.0 z.1;
          fits = fit;
          left = subst (λ (n : ℕ). HasRoomLeft new n b) (same_limit b.command.slot x z.0 was z.1) room;
        }

    abbrev OwnFits : ActiveRun → Type 0
    OwnFits b = (b.command ≡ a.command) × FitsNamespace new b × HasRoomLeft new limit b

    -- it appends to the zone of before
    same_destination : (b : ActiveRun) → OwnFits b → a.destination ≡ b.destination
    same_destination b own =
        let size : ns.size ≡ new.size = ap (λ (x : Shape). x.size) (sym same_shape) in
        fits.destination
        ∙ ap (λ (n : ℕ). a.command.destination / n) size
        ∙ ap (λ (command : RunCommand). command.destination / new.size) (sym own.0)
        ∙ sym own.1.destination

    -- each run was at its place, and appended to the same zone
    was_there : IfSome r OwnFits → (j : ℕ) (b : ActiveRun) → get_or (set runs k r) j None ≡ Some b
        → (o : ActiveRun) × (get_or runs j None ≡ Some o) × (o.destination ≡ b.destination)
    was_there own j b there = elim (set_known runs k j r b there) [
      | inl is ↦
          let mine : OwnFits b = subst (λ o. IfSome o OwnFits) is.1 own in
          (a, ap (λ (n : ℕ). get_or runs n None) is.0 ∙ at, same_destination b mine)
      | inr was ↦ (b, was.1, refl)
    ]

    -- the zones that others append to stay
    other_zone : (j : ℕ) (b : ActiveRun) → j ≢ k → get_or runs j None ≡ Some b → zone_at new b.destination ≡ zone_at ns b.destination
    other_zone j b other there =
        ap (λ (m : ZonedNamespace). zone_at m b.destination) written
        ∙ (blocks_leave_others ns a.destination turn.blocks).others b.destination (λ same. other (ready.apart j k b a there at same))

    all_ready : IfSome r OwnFits → IsReady new slots' (set runs k r)
    all_ready own = record {
      programs = still_for;
      running = λ j b there. elim (set_known runs k j r b there) [
        | inl is ↦
            let mine : OwnFits b = subst (λ o. IfSome o OwnFits) is.1 own in
            is_running b p (ap (λ (command : RunCommand). get_or slots command.slot None) mine.0 ∙ loaded) mine.1 mine.2
        | inr was ↦
            let is = ready.running j b was.1 in
            is_running b is.program is.loaded (still_fits ns new b is.fits same_shape (grows j b was.1))
            (still_left ns new (sizes_of is.program.prepared).limit b is.left same_shape (other_zone j b was.0 was.1))
      ];
      apart = λ i j b c at_i at_j same.
          let first = was_there own i b at_i in
          let second = was_there own j c at_j in
          ready.apart i j first.0 second.0 first.1 second.1 (first.2 ∙ same ∙ sym second.2);
    }

    is_turned : (given : Reply) → given ≡ (turn_reply k place turn.ending).reply
        → seen new (map loaded_slot slots') (running r) ≡ place_left place later turn.ending → IfSome r OwnFits
        → IsTurned s k new slots' (set runs k r) given
    is_turned given reply_is left own =
        let with_places : List (Option Place) → State = λ places. record { namespace = new; slots = map loaded_slot slots'; places = places } in
        let places = set s.places k (place_left place later turn.ending) in
        record {
          reply = reply_is ∙ sym (ap (λ (h : Happening). h.reply.reply) comes);
          state =
              ap with_places (others_stay ns new slots slots' runs k r (λ j b other there. stays j b there))
              ∙ ap (λ (o : Option Place). with_places (set s.places k o)) left
              ∙ ap (λ (xs : List (Option Loaded)). record { namespace = new; slots = xs; places = places }) (sym programs)
              ∙ ap (λ (m : ZonedNamespace). record { namespace = m; slots = slots_left s place turn.ending; places = places }) (sym written_there)
              ∙ sym (ap (λ (h : Happening). h.state) comes);
          ready = all_ready own;
        }

  -- ---- a turn after which it goes on

  module _ (new : ZonedNamespace) (q : LoadedProgram D domain) (b : ActiveRun) (same : q ≡ record p { count = q.count }) (g : TurnGoesOn ns new code limit a b) (kept : Keeps a b) where
    abbrev later : List Turn
    later = turns_of new code limit (active_of b)

    abbrev turn : Turn
    turn = record { blocks = g.blocks; ending = None }

    programs_same : map loaded_slot (set slots a.command.slot (Some q)) ≡ map loaded_slot slots
    programs_same =
        map-set_same loaded_slot slots a.command.slot (Some q) None (ap (λ (x : LoadedProgram D domain). loaded_slot (Some x)) same ∙ ap loaded_slot (sym loaded))

    prepared_same : q.prepared ≡ p.prepared
    prepared_same = ap (λ (x : LoadedProgram D domain). x.prepared) same

    abbrev sees : ℕ → ℕ → RunCommand → ℕ → List Turn → Place
    sees queue cid command size turns = record {
      queue = queue;
      cid = cid;
      slot = command.slot;
      source = zone_number (record ns { size = size }) command.lba;
      destination = zone_number (record ns { size = size }) command.destination;
      turns = turns;
    }

    own_slot : get_or (map loaded_slot (set slots a.command.slot (Some q))) b.command.slot None ≡ Some (loaded_of p)
    own_slot =
        ap (λ (xs : List (Option Loaded)). get_or xs b.command.slot None) programs_same
        ∙ ap (λ (command : RunCommand). get_or (map loaded_slot slots) command.slot None) kept.command
        ∙ slot_is

    own_place : place_of new (map loaded_slot (set slots a.command.slot (Some q))) (active_of b) ≡ record place { turns = later }
    own_place =
        ap (λ (o : Option Loaded). sees b.queue b.cid b.command new.size (rest (task_of new o b.command) (active_of b).so_far (to_come new (active_of b)))) own_slot
        ∙ ap (λ (x : Shape). sees b.queue b.cid b.command x.size later) (same_shape new q (Some b) turn later g.turns g.namespace prepared_same (sym programs_same))
        ∙ ap (λ (command : RunCommand). sees b.queue b.cid command ns.size later) kept.command
        ∙ ap (λ (cid : ℕ). sees b.queue cid a.command ns.size later) kept.cid
        ∙ ap (λ (queue : ℕ). sees queue a.cid a.command ns.size later) kept.queue

    goes_turned : FitsNamespace new b → IsTurned s k new (set slots a.command.slot (Some q)) (set runs k (Some b)) (reply.Pending k)
    goes_turned fit =
        is_turned new q (Some b) turn later g.turns g.namespace prepared_same (sym programs_same) (reply.Pending k) refl (ap Some own_place) (kept.command, fit, g.left)

  -- ---- a turn that ends it

  module _ (new : ZonedNamespace) (q : LoadedProgram D domain) (b : ActiveRun) (answer : Answer) (same : q ≡ record p { count = q.count; result = b.scratch })
      (e : HasEnded ns new code limit a b answer) (kept : Keeps a b) where
    abbrev last : Turn
    last = record {
      blocks = e.blocks;
      ending = Some (record { status = answer.status; dw0 = answer.dw0; dw1 = answer.dw1; result = Some b.scratch });
    }

    programs_end : slots_left s place last.ending ≡ map loaded_slot (set slots a.command.slot (Some q))
    programs_end =
        ap (λ (o : Option Loaded). set (map loaded_slot slots) a.command.slot (keeping o (Some b.scratch))) slot_is
        ∙ ap (λ (x : LoadedProgram D domain). set (map loaded_slot slots) a.command.slot (loaded_slot (Some x))) (sym same)
        ∙ sym (map-set loaded_slot slots a.command.slot (Some q))

    completion_told : complete_reply b.queue b.cid answer ≡ (turn_reply k place last.ending).reply
    completion_told =
        ap (λ (queue : ℕ). complete_reply queue b.cid answer) kept.queue
        ∙ ap (λ (cid : ℕ). complete_reply a.queue cid answer) kept.cid
        ∙ ap (λ (n : ℕ). complete_reply a.queue a.cid (record answer { length = n })) e.no_data

    ends_turned : IsTurned s k new (set slots a.command.slot (Some q)) (set runs k None) (complete_reply b.queue b.cid answer)
    ends_turned =
        is_turned new q None last [] e.turns e.namespace (ap (λ (x : LoadedProgram D domain). x.prepared) same) programs_end
        (complete_reply b.queue b.cid answer) completion_told refl tt

  -- ---- what its program and its run are afterwards

  given_more : (new : ZonedNamespace) (q : Option (LoadedProgram D domain)) (b : ActiveRun) → SlotTurned ns new (Some p) q a b None
      → IsTurned s k new (set slots a.command.slot q) (set runs k (Some b)) (reply.Pending k)
  given_more new None b done = absurd done
  given_more new (Some q) b done = goes_turned new q b done.0 done.1 done.2 done.3

  given_last : (new : ZonedNamespace) (q : Option (LoadedProgram D domain)) (b : ActiveRun) (answer : Answer) → SlotTurned ns new (Some p) q a b (Some answer)
      → IsTurned s k new (set slots a.command.slot q) (set runs k None) (complete_reply b.queue b.cid answer)
  given_last new None b answer done = absurd done
  given_last new (Some q) b answer done = ends_turned new q b answer done.0 done.1 done.2

-- ---- at any place

module _ {D : Type 0} {domain : Ghosts D} where
  -- the run at a place fits, with the program of its slot
  pub fits_at : (judge : Judge) → IsSoundJudge judge → (ns : ZonedNamespace) (slots : List (Option (LoadedProgram D domain))) (runs : List (Option ActiveRun)) (k : ℕ) (place : Option ActiveRun)
      → IsReady ns slots runs → IsReached judge (device_state ns slots runs) → get_or runs k None ≡ place → FitsAt ns slots place
  fits_at judge judges ns slots runs k None ready reached at = tt
  fits_at judge judges ns slots runs k (Some a) ready reached at =
      let own = ready.running k a at in fits_in ns slots runs ready k a at own.program own.loaded judge judges reached

  -- no run is at a place that there isn't
  pub idles_past : (ns : ZonedNamespace) (slots : List (Option (LoadedProgram D domain))) (runs : List (Option ActiveRun)) (s : State) (k : ℕ) → device_state ns slots runs ≡ s
      → length runs ≤ k → turned s k ≡ idle s
  idles_past ns slots runs s k view past =
      let free = place_is ns slots runs k ∙ ap (λ (o : Option ActiveRun). seen ns (map loaded_slot slots) (running o)) (get_or_past runs k None past) in
      ap (turned_at s k) (ap (λ (t : State). place_at t k) (sym view) ∙ free)

  -- no run is there
  idles : (ns : ZonedNamespace) (slots : List (Option (LoadedProgram D domain))) (runs : List (Option ActiveRun)) (k : ℕ) → IsReady ns slots runs
      → get_or runs k None ≡ None → IsTurned (device_state ns slots runs) k ns slots runs reply.Idle
  idles ns slots runs k ready none =
      let s = device_state ns slots runs in
      let free : place_at s k ≡ None = place_is ns slots runs k ∙ ap (λ (o : Option ActiveRun). seen ns (map loaded_slot slots) (running o)) none in
      let comes : turned s k ≡ idle s = ap (λ (o : Option Place). turned_at s k o) free in
      record { reply = sym (ap (λ (h : Happening). h.reply.reply) comes); state = sym (ap (λ (h : Happening). h.state) comes); ready = ready }

  pub idles_there : (ns : ZonedNamespace) (slots : List (Option (LoadedProgram D domain))) (runs : List (Option ActiveRun)) (k : ℕ) (o : Option ActiveRun) → IsReady ns slots runs
      → get_or runs k None ≡ o → o ≡ None → IsTurned (device_state ns slots runs) k ns slots (set runs k o) reply.Idle
  idles_there ns slots runs k o ready at none =
      subst (λ (xs : List (Option ActiveRun)). IsTurned (device_state ns slots runs) k ns slots xs reply.Idle)
      (sym (ap (set runs k) (sym at) ∙ set-get_or runs k None)) (idles ns slots runs k ready (at ∙ none))

module _ {D : Type 0} {domain : Ghosts D} (ns new : ZonedNamespace) (slots : List (Option (LoadedProgram D domain))) (k slot : ℕ) (a b : ActiveRun) (default q : Option (LoadedProgram D domain)) (is_slot : slot ≡ a.command.slot)
    (within : slot < length slots) (runs : List (Option ActiveRun)) (at : get_or runs k None ≡ Some a) (ready : IsReady ns slots runs) where
  abbrev own : IsRunning ns slots a
  own = ready.running k a at

  in_slot : get_or slots slot default ≡ Some own.program
  in_slot = found slots slot a.command.slot default own.program is_slot within own.loaded

  abbrev Comes : ℕ → Option ActiveRun → Reply → Type 0
  Comes slot place given = IsTurned (device_state ns slots runs) k new (set slots slot q) (set runs k place) given

  pub more_there : SlotTurned ns new (get_or slots slot default) q a b None → Comes slot (Some b) (reply.Pending k)
  more_there turn =
      subst (λ (n : ℕ). Comes n (Some b) (reply.Pending k)) (sym is_slot)
      (given_more ns slots runs ready k a at own.program own.loaded new q b
      (subst (λ (o : Option (LoadedProgram D domain)). SlotTurned ns new o q a b None) in_slot turn))

  pub last_there : (answer : Answer) → SlotTurned ns new (get_or slots slot default) q a b (Some answer) → Comes slot None (complete_reply b.queue b.cid answer)
  last_there answer turn =
      subst (λ (n : ℕ). Comes n None (complete_reply b.queue b.cid answer)) (sym is_slot)
      (given_last ns slots runs ready k a at own.program own.loaded new q b answer
      (subst (λ (o : Option (LoadedProgram D domain)). SlotTurned ns new o q a b (Some answer)) in_slot turn))
