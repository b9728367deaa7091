-- A turn of a run, as the code takes it.
use Rattle.std.proofs.Common.{◌≡◌, ◌≢◌, ℕ, suc, ◌+◌, ◌-◌, ◌<◌, ◌≤◌, ◌%◌, Bool, true, false, List, [], ◌∷◌, ◌++◌, length, take, drop, Option, Some, None, refl, sym, ap, subst, ◌∙◌, arith, inl, inr, append-nil, length-append, length-take, append_assoc}
use Rattle.std.specs.Prelude.{◌⊎◌, ◌==◌}
use Rattle.std.proofs.lemmas.Bool.{cases_lt, ne_eqb}
use Rattle.std.proofs.lemmas.List.{at_drop_more, length-take-le, length-drop}
use Rattle.zone_state.specs.declared.status.TheConstants.Status.{SUCCESS}
use Rattle.instruction_set.specs.declared.instruction.Instruction.{Instruction}
use Rattle.program_meaning.specs.BlockRun.{BlockRun}
use Rattle.program_meaning.specs.declared.end.End.{End}
use Rattle.program_meaning.specs.declared.end.End.TheVariants as end
use Rattle.emit_append.specs.Packer.{after_put, given_by_finish, given_by_put, new_packer}
use Rattle.emit_append.specs.Packing.{packed, pending_of, released}
use Rattle.emit_append.specs.Need.{need_behind}
use Rattle.emit_append.proofs.Proved.{need_behind_falls, one_group_releases_none, packing_goes_on}
use Rattle.program_interface.specs.RunSizes.{Sizes}
use Rattle.image_store.specs.Geometry.{Shape}
use Rattle.image_store.specs.Namespace.{ZoneWithBlocks, ZonedNamespace, zone_at}
use Rattle.image_store.specs.declared.geometry.ZoneBlock.{ZoneBlock}
use Rattle.zns_commands.specs.Address.{zone_number}
use Rattle.zns_commands.proofs.Proved.{open_is_there}
use Rattle.device_meaning.specs.Admission.{granted_sizes, task_by}
use Rattle.device_meaning.specs.BlockRuns.{Task, goes_on, scratch_after}
use Rattle.device_meaning.specs.Laws.{Ends, RoomIn, further, next_turn}
use Rattle.device_meaning.specs.Happenings.{added}
use Rattle.device_meaning.specs.Outcome.{Ending, Progress, Turn, appended_by, coming_to, last_turn, last_turn_by, emitted_by, rest, success}
use Rattle.device_meaning.specs.View.{Active, to_come, turns_of}
use Rattle.device_meaning.proofs.Proved.{blocks_leave_others, is_added, open_on, rest_ends, rest_goes_on, room_is_open, room_stays}
use Rattle.runner.specs.DeviceState.{active_of}
use Rattle.runner.specs.steps.Ready.{HasRoomLeft}
use Rattle.runner.specs.steps.Turning.{FitsOn, TurnGoesOn, HasEnded, HasRoom, HasRunNext, next_block, next_block_run, with_packer}
use Rattle.verified_run.specs.declared.exit.Exit.{Exit}
use Rattle.runner.specs.declared.active_run.ActiveRun.{ActiveRun}
use Rattle.runner.proofs.Appends.{added_both}

-- ---- the source blocks still to come

module _ (ns : ZonedNamespace) (program : List (Option Instruction)) (limit : ℕ) where
  abbrev moved : Active → BlockRun → Active
  moved a run = record { queue = a.queue; cid = a.cid; command = a.command; so_far = further (task_by ns program limit a.command) a.so_far run }

  module _ (a : Active) (left : a.so_far.index < a.command.blocks)
      (written : a.command.lba % ns.size + a.command.blocks ≤ length (zone_at ns (zone_number ns a.command.lba)).blocks) where
    abbrev blocks : List (List ℕ)
    blocks = (zone_at ns (zone_number ns a.command.lba)).blocks

    abbrev at : ℕ
    at = a.command.lba % ns.size + a.so_far.index

    abbrev later : List (List ℕ)
    later = take (a.command.blocks - (a.so_far.index + 1)) (drop (a.command.lba % ns.size + (a.so_far.index + 1)) blocks)

    come : to_come ns a ≡ next_block ns a ∷ later
    come =
        let n : a.command.blocks - a.so_far.index ≡ suc (a.command.blocks - (a.so_far.index + 1)) = omega (arith, left) in
        let k : at + 1 ≡ a.command.lba % ns.size + (a.so_far.index + 1) = omega arith in
        ap (λ (n : ℕ). take n (drop at blocks)) n
        ∙ at_drop_more (take (suc (a.command.blocks - (a.so_far.index + 1)))) blocks at [] (omega (arith, left, written))
        ∙ ap (λ (k : ℕ). next_block ns a ∷ take (a.command.blocks - (a.so_far.index + 1)) (drop k blocks)) k

    abbrev task : Task
    task = task_by ns program limit a.command

    abbrev run : BlockRun
    run = next_block_run ns program limit a

    on_by : (more : List (List ℕ)) → 1 ≤ length more → goes_on run.end ≡ true
        → rest task a.so_far (next_block ns a ∷ more) ≡ next_turn task a.so_far run ∷ rest task (further task a.so_far run) more
    on_by [] some on = absurd (omega (arith, some))
    on_by (b ∷ bs) some on = rest_goes_on task a.so_far (next_block ns a) b bs on

    later_some : a.so_far.index + 1 < a.command.blocks → 1 ≤ length later
    later_some more =
        let start = a.command.lba % ns.size + (a.so_far.index + 1) in
        rw (length-take-le (a.command.blocks - (a.so_far.index + 1)) (drop start blocks) (rw (length-drop start blocks) (omega (arith, more, written))))
        (omega (arith, more))

    turns_go : a.so_far.index + 1 < a.command.blocks → goes_on run.end ≡ true
        → turns_of ns program limit a ≡ next_turn task a.so_far run ∷ turns_of ns program limit (moved a run)
    turns_go more on = ap (rest task a.so_far) come ∙ on_by later (later_some more) on

    later_none : a.command.blocks ≤ a.so_far.index + 1 → later ≡ []
    later_none last =
        let none : a.command.blocks - (a.so_far.index + 1) ≡ 0 = omega (arith, last) in
        ap (λ (n : ℕ). take n (drop (a.command.lba % ns.size + (a.so_far.index + 1)) blocks)) none

    turns_end : Ends task a.so_far (next_block ns a) later
        → turns_of ns program limit a ≡ last_turn ns.block (emitted_by a.so_far) run ∷ []
    turns_end ends = ap (rest task a.so_far) come ∙ rest_ends task a.so_far (next_block ns a) later ends

-- ---- what a last turn comes to

module _ (block : ℕ) (so_far : Progress) (run : BlockRun) where
  abbrev all : List (List ℕ)
  all = packed block (so_far.pending ∷ run.state.group ∷ [])

  last_by : (e : End) (r0 : ℕ) → e ≡ end.Exit r0 → last_turn_by e block (emitted_by so_far) run
      ≡ record { blocks = all; ending = Some (success (so_far.frames + run.state.frames) (so_far.appended + length all) (scratch_after run)) }
  last_by (end.Exit r) r0 is =
      ap (λ (first : List (List ℕ)). record {
        blocks = coming_to first all;
        ending = Some (success (so_far.frames + run.state.frames) (so_far.appended + length all) (scratch_after run));
      }) (one_group_releases_none block so_far.pending)
  last_by (end.Trap slot cause) r0 is = cc
  last_by end.OutOfFuel r0 is = cc

  -- all blocks are those that the packer gives at once, and those that it gives at the end
  all_is : all ≡ released block (so_far.pending ∷ run.state.group ∷ []) ++ packed block (pending_of block (so_far.pending ∷ run.state.group ∷ []) ∷ [])
  all_is = (packing_goes_on block (so_far.pending ∷ run.state.group ∷ []) []).blocks

-- ---- what is written for a turn

added_leaves_turns : (ns : ZonedNamespace) (z : ℕ) (bs : List (List ℕ)) (program : List (Option Instruction)) (limit : ℕ) (a : Active)
    → zone_number ns a.command.lba ≢ z → turns_of (added ns z bs) program limit a ≡ turns_of ns program limit a
added_leaves_turns ns z [] program limit a other = refl
added_leaves_turns ns z (b ∷ bs) program limit a other =
    ap (λ (zone : ZoneWithBlocks). rest (task_by ns program limit a.command) a.so_far (take (a.command.blocks - a.so_far.index) (drop (a.command.lba % ns.size + a.so_far.index) zone.blocks)))
    ((blocks_leave_others ns z (b ∷ bs)).others (zone_number ns a.command.lba) other)

module _ (ns : ZonedNamespace) (z : ℕ) (ending : Option Ending) (turns : List Turn) (some : 1 ≤ ns.block) where
  abbrev Room : List (List ℕ) → Type 0
  Room bs = RoomIn ns.capacity (zone_at ns z) (record { blocks = bs; ending = ending } ∷ turns)

  room_first : (bs more : List (List ℕ)) → Room (bs ++ more) → HasRoom ns z bs
  room_first [] more h = tt
  room_first (b ∷ bs) more h = record {
    some = some;
    opened = room_is_open ns.capacity (zone_at ns z) b (bs ++ more) ending turns h;
    room = omega (arith, h.room, length-append ((b ∷ bs) ++ more) (appended_by turns), length-append (b ∷ bs) more);
  }

  added_twice : (bs more : List (List ℕ)) → Room (bs ++ more) → added (added ns z bs) z more ≡ added ns z (bs ++ more)
  added_twice [] more h = refl
  added_twice (b ∷ bs) [] h = ap (added ns z) (sym (append-nil (b ∷ bs)))
  added_twice (b ∷ bs) (c ∷ cs) h =
      let opened = room_is_open ns.capacity (zone_at ns z) b (bs ++ (c ∷ cs)) ending turns h in
      added_both ns z b c bs cs (open_is_there ns.zones z opened) (omega (arith, h.room, length-append ((b ∷ bs) ++ (c ∷ cs)) (appended_by turns)))

module _ (ns : ZonedNamespace) (z : ℕ) (ending : Option Ending) (turns : List Turn) (some : 1 ≤ ns.block) where
  room_second : (bs more : List (List ℕ)) → Room ns z ending turns some (bs ++ more) → HasRoom (added ns z bs) z more
  room_second bs more h =
      let rest : RoomIn ns.capacity (zone_at (added ns z bs) z) (record { blocks = more; ending = None } ∷ turns) =
      room_stays ns z bs None (record { blocks = more; ending = None } ∷ turns)
      (record { room = subst (λ (n : ℕ). length (zone_at ns z).blocks + n ≤ ns.capacity) (ap length (append_assoc bs more (appended_by turns))) h.room; opened = h.opened }) in
      let same = (blocks_leave_others ns z bs).same_shape in
      let block : (added ns z bs).block ≡ ns.block = ap (λ (s : Shape). s.block) same in
      let capacity : (added ns z bs).capacity ≡ ns.capacity = ap (λ (s : Shape). s.capacity) same in
      room_first (added ns z bs) z None turns (rw block some) more [] (rw (capacity, append-nil more) rest)

-- a zone has so many blocks more
longer : (ns : ZonedNamespace) (z : ℕ) (bs : List (List ℕ)) → HasRoom ns z bs → length (zone_at (added ns z bs) z).blocks ≡ length (zone_at ns z).blocks + length bs
longer ns z [] room = omega arith
longer ns z (b ∷ bs) room =
    ap length (is_added ns z (b ∷ bs) (open_on (zone_at ns z).state room.opened)).blocks_is ∙ length-append (zone_at ns z).blocks (b ∷ bs)

-- ---- a turn

module _ (ns : ZonedNamespace) (program : List (Option Instruction)) (limit : ℕ) (a : ActiveRun) (h : FitsOn ns program limit a) where
  abbrev ran : BlockRun
  ran = next_block_run ns program limit (active_of a)

  abbrev sent : List (List ℕ)
  sent = given_by_put a.packer ran.state.group

  abbrev closing : List (List ℕ)
  closing = given_by_finish (after_put a.packer ran.state.group)

  -- the run once its group is packed
  abbrev stepped : ActiveRun
  stepped = record {
    queue = a.queue;
    cid = a.cid;
    command = a.command;
    source = a.source;
    destination = a.destination;
    index = a.index + 1;
    scratch = scratch_after ran;
    packer = after_put a.packer ran.state.group;
    frames = a.frames + ran.state.frames;
    appended = a.appended + length sent;
  }

  abbrev groups : List (List ℕ)
  groups = a.packer.pending ∷ ran.state.group ∷ []

  written_in : a.command.lba % ns.size + a.command.blocks ≤ length (zone_at ns (zone_number ns a.command.lba)).blocks
  written_in = subst (λ (place : ZoneBlock). place.offset + a.command.blocks ≤ length (zone_at ns place.zone).blocks) h.run.source h.run.written

  other_zone : zone_number ns a.command.lba ≢ a.destination
  other_zone e = h.run.other (ap (λ (place : ZoneBlock). place.zone) h.run.source ∙ e)

  going : goes_on ran.end ≡ true → a.index + 1 < a.command.blocks
      → turns_of ns program limit (active_of a) ≡ record { blocks = sent; ending = None } ∷ turns_of ns program limit (active_of stepped)
  going on more =
      turns_go ns program limit (active_of a) h.run.left written_in more on
      ∙ ap (λ (block : ℕ). record { blocks = released block groups; ending = None } ∷ turns_of ns program limit (record {
        queue = a.queue;
        cid = a.cid;
        command = a.command;
        so_far = record { index = a.index + 1; scratch = scratch_after ran; pending = pending_of block groups; frames = a.frames + ran.state.frames; appended = a.appended + length (released block groups) };
      })) (sym h.run.packer)

  -- ---- what is left of it

  -- the namespace behind it
  abbrev behind : ZonedNamespace
  behind = added ns a.destination sent

  module _ (begun : length a.packer.pending ≤ a.packer.block) (within : length ran.state.group ≤ limit) where
    abbrev counts : ℕ → ℕ → Sizes → Type 0
    counts appended pending sizes = appended + need_behind pending (a.command.blocks - (a.index + 1)) sizes
        ≤ need_behind (length a.packer.pending) (a.command.blocks - (a.index + 1) + 1) (granted_sizes ns limit)

    falls : counts (length sent) (length (pending_of a.packer.block groups)) (granted_sizes ns limit)
    falls =
        subst (λ (block : ℕ). counts (length (released block groups)) (length (pending_of block groups)) (granted_sizes ns limit)) (sym h.run.packer)
        (need_behind_falls (granted_sizes ns limit) a.packer.pending ran.state.group (a.command.blocks - (a.index + 1)) h.limits
        (omega (arith, begun, h.run.packer)) within)

    left_is : HasRoom ns a.destination sent → a.index + 1 < a.command.blocks → HasRoomLeft behind limit stepped
    left_is room more =
        let count : a.command.blocks - a.index ≡ a.command.blocks - (a.index + 1) + 1 = omega (arith, more) in
        let had = subst (λ (n : ℕ). length (zone_at ns a.destination).blocks + need_behind (length a.packer.pending) n (granted_sizes ns limit) ≤ ns.capacity) count h.left in
        let long = longer ns a.destination sent room in
        let pending = length (pending_of a.packer.block groups) in
        let has : length (zone_at behind a.destination).blocks + need_behind pending (a.command.blocks - (a.index + 1)) (granted_sizes ns limit) ≤ ns.capacity =
        omega (arith, falls, had, long) in
        subst (λ (s : Shape). length (zone_at behind a.destination).blocks
        + need_behind pending (a.command.blocks - (a.index + 1)) (record { block = s.block; limit = limit }) ≤ s.capacity)
        (sym (blocks_leave_others ns a.destination sent).same_shape) has

  goes_is : goes_on ran.end ≡ true → a.index + 1 < a.command.blocks → HasRoomLeft behind limit stepped → TurnGoesOn ns behind program limit a stepped
  goes_is on more left = record {
    blocks = sent;
    turns = going on more ∙ ap (λ (turns : List Turn). record { blocks = sent; ending = None } ∷ turns)
        (sym (added_leaves_turns ns a.destination sent program limit (active_of stepped) other_zone));
    namespace = refl;
    left = left;
  }

  -- the last turn, which appends these blocks
  abbrev end_of : List (List ℕ) → Turn
  end_of blocks = record {
    blocks = blocks;
    ending = Some (success (a.frames + ran.state.frames) (a.appended + length blocks) (scratch_after ran));
  }

  abbrev Over : Type 0
  Over = (goes_on ran.end ≡ false) ⊎ (a.command.blocks ≤ a.index + 1)

  ends : (r0 : ℕ) → ran.end ≡ end.Exit r0 → Over → turns_of ns program limit (active_of a) ≡ end_of (sent ++ closing) ∷ []
  ends r0 exit over =
      let gone : Ends (task_by ns program limit a.command) (active_of a).so_far (next_block ns (active_of a))
      (take (a.command.blocks - (a.index + 1)) (drop (a.command.lba % ns.size + (a.index + 1)) (zone_at ns (zone_number ns a.command.lba)).blocks)) = elim over [
        | inl stops ↦ inl stops
        | inr last ↦ inr (later_none ns program limit (active_of a) h.run.left written_in last)
      ] in
      turns_end ns program limit (active_of a) h.run.left written_in gone
      ∙ ap (λ (turn : Turn). turn ∷ []) (last_by ns.block (active_of a).so_far ran ran.end r0 exit)
      ∙ ap (λ (block : ℕ). end_of (packed block groups) ∷ []) (sym h.run.packer)
      ∙ ap (λ (blocks : List (List ℕ)). end_of blocks ∷ []) (all_is a.packer.block (active_of a).so_far ran)

  abbrev In : List Turn → Type 0
  In turns = RoomIn ns.capacity (zone_at ns a.destination) turns

  go_room : goes_on ran.end ≡ true → a.index + 1 < a.command.blocks → HasRoom ns a.destination sent
  go_room on more =
      let later = turns_of ns program limit (active_of stepped) in
      room_first ns a.destination None later h.some sent []
      (subst (λ (bs : List (List ℕ)). In (record { blocks = bs; ending = None } ∷ later)) (sym (append-nil sent)) (subst In (going on more) h.room))

  abbrev ending : Option Ending
  ending = (end_of (sent ++ closing)).ending

  end_room : (r0 : ℕ) → ran.end ≡ end.Exit r0 → Over → In (end_of (sent ++ closing) ∷ [])
  end_room r0 exit over = subst In (ends r0 exit over) h.room

  first_by : (on : Bool) → goes_on ran.end ≡ on → (r0 : ℕ) → ran.end ≡ end.Exit r0 → (a.index + 1 < a.command.blocks) ⊎ (a.command.blocks ≤ a.index + 1)
      → HasRoom ns a.destination sent
  first_by true on r0 exit (inl more) = go_room on more
  first_by true on r0 exit (inr last) = room_first ns a.destination ending [] h.some sent closing (end_room r0 exit (inr last))
  first_by false on r0 exit more = room_first ns a.destination ending [] h.some sent closing (end_room r0 exit (inl on))

  first_room : (r0 : ℕ) → ran.end ≡ end.Exit r0 → HasRoom ns a.destination sent
  first_room r0 exit = first_by (goes_on ran.end) refl r0 exit (cases_lt (a.index + 1) a.command.blocks)

  last_room : (r0 : ℕ) → ran.end ≡ end.Exit r0 → Over → HasRoom (added ns a.destination sent) a.destination closing
  last_room r0 exit over = room_second ns a.destination ending [] h.some sent closing (end_room r0 exit over)

  ended_is : (r0 : ℕ) → ran.end ≡ end.Exit r0 → Over → (b : ActiveRun) → b.scratch ≡ scratch_after ran
      → HasEnded ns (added (added ns a.destination sent) a.destination closing) program limit a b
      (record { status = SUCCESS; dw0 = a.frames + ran.state.frames; dw1 = a.appended + length sent + length closing; length = 0 })
  ended_is r0 exit over b same =
      let n : a.appended + length (sent ++ closing) ≡ a.appended + length sent + length closing = omega (arith, length-append sent closing) in
      let last : ℕ → List ℕ → Turn = λ n bytes. record {
        blocks = sent ++ closing;
        ending = Some (success (a.frames + ran.state.frames) n bytes);
      } in
      record {
        blocks = sent ++ closing;
        turns = ends r0 exit over
            ∙ ap (λ (n : ℕ). last n (scratch_after ran) ∷ []) n
            ∙ ap (λ (bytes : List ℕ). last (a.appended + length sent + length closing) bytes ∷ []) (sym same);
        no_data = refl;
        namespace = added_twice ns a.destination ending [] h.some sent closing (end_room r0 exit over);
      }

  -- ---- as the code has them: the run once its program has run, and once the group of that is packed

  module _ (ran_on : ActiveRun) (told : Exit) (bytes : List ℕ) (next : HasRunNext ns program limit a ran_on told bytes) where
    abbrev group : List ℕ
    group = take told.group_length bytes

    abbrev given : List (List ℕ)
    given = given_by_put ran_on.packer group

    pub room_for_put : HasRoom ns ran_on.destination given
    room_for_put = rw (next.same, sym next.run.group) (first_room told.r0 next.run.exit)

    module _ (then : ZonedNamespace) (put : ActiveRun) (written : then ≡ added ns ran_on.destination given)
        (put_is : put ≡ with_packer ran_on (after_put ran_on.packer group) (length given)) where
      -- the same, once the block is counted
      abbrev counted : ActiveRun
      counted = record put { index = put.index + 1; frames = put.frames + told.frames }

      index_is : put.index ≡ a.index
      index_is = ap (λ (x : ActiveRun). x.index) put_is ∙ ap (λ (x : ActiveRun). x.index) next.same

      blocks_are : put.command.blocks ≡ a.command.blocks
      blocks_are = ap (λ (x : ActiveRun). x.command.blocks) put_is ∙ ap (λ (x : ActiveRun). x.command.blocks) next.same

      pub goes : length ran_on.packer.pending ≤ ran_on.packer.block → told.r0 ≡ 0 → counted.index < counted.command.blocks → TurnGoesOn ns then program limit a counted
      goes begun none more =
          let on : goes_on ran.end ≡ true = ap goes_on next.run.exit ∙ ap (λ (n : ℕ). n == 0) none in
          let later : a.index + 1 < a.command.blocks = omega (arith, index_is, blocks_are, more) in
          let had = subst (λ (x : ActiveRun). length x.packer.pending ≤ x.packer.block) next.same begun in
          let within : length ran.state.group ≤ limit = omega (arith, ap length next.run.group, length-take told.group_length bytes, next.within) in
          rw (written, put_is, next.same, sym next.run.group, sym next.run.frames) (goes_is on later (left_is had within (go_room on later) later))

      is_over : (told.r0 ≢ 0) ⊎ (counted.command.blocks ≤ counted.index) → Over
      is_over (inl other) = inl (ap goes_on next.run.exit ∙ ne_eqb told.r0 0 other)
      is_over (inr last) = inr (omega (arith, index_is, blocks_are, last))

      pub room_for_finish : (told.r0 ≢ 0) ⊎ (counted.command.blocks ≤ counted.index) → HasRoom then counted.destination (given_by_finish counted.packer)
      room_for_finish over = rw (written, put_is, next.same, sym next.run.group) (last_room told.r0 next.run.exit (is_over over))

      pub ends_there : (told.r0 ≢ 0) ⊎ (counted.command.blocks ≤ counted.index) → (last : ZonedNamespace) (finished : ActiveRun)
          → last ≡ added then counted.destination (given_by_finish counted.packer)
          → finished ≡ with_packer counted (new_packer counted.packer.block) (length (given_by_finish counted.packer))
          → HasEnded ns last program limit a finished (record { status = SUCCESS; dw0 = finished.frames; dw1 = finished.appended; length = 0 })
      ends_there over last finished last_is finished_is =
          rw (last_is, finished_is, written, put_is, next.same, sym next.run.group, sym next.run.frames) (ended_is told.r0 next.run.exit (is_over over) _ refl)
