-- What was written is read back, whatever events happen in between.
use Rattle.std.proofs.Common.{◌≡◌, ℕ, suc, ◌+◌, ◌*◌, ◌^◌, ◌≤◌, Bool, false, List, [], ◌∷◌, ◌++◌, length, take, drop, Result, refl, ap, sym, subst, ◌∙◌, arith, append_assoc, length-append}
use Rattle.std.specs.List.{concat}
use Rattle.std.proofs.lemmas.Bool.{le-leb}
use Rattle.std.proofs.lemmas.Bool.Decides.{nat_tests}
use Rattle.std.proofs.lemmas.List.{append-nil, length-drop, length-take-le, take-append-drop}
use Rattle.zone_state.specs.State.{is_cleared}
use Rattle.zone_state.specs.Zone.{IsZone}
use Rattle.zone_state.specs.declared.state.ZoneState.{ZoneState}
use Rattle.zone_state.specs.declared.state.ZoneState.TheVariants.{Empty, Offline}
use Rattle.zone_state.specs.declared.status.Status.{Status}
use Rattle.nvme_entry.specs.declared.command.Command.{Command}
use Rattle.nvme_entry.specs.declared.command.Command.TheVariants as commands
use Rattle.nvme_entry.specs.declared.command.StandardCommand.{StandardCommand}
use Rattle.nvme_entry.specs.declared.command.StandardCommand.TheVariants.{Write, Read, Append}
use Rattle.nvme_entry.specs.declared.command.TheConstants.{MOST_TRANSFER}
use Rattle.device_meaning.specs.Judging.{Judge}
use Rattle.image_store.specs.Namespace.{ZonedNamespace, zone_at, IsNamespace}
use Rattle.image_store.proofs.Proved.{blocks_lie_in_zones, written_is_within}
use Rattle.zns_commands.specs.Address.{zone_number}
use Rattle.zns_commands.specs.Effect.{Effect}
use Rattle.zns_commands.specs.Meaning.{meaning}
use Rattle.zns_commands.specs.Laws.{AreRead}
use Rattle.zns_commands.proofs.Proved.{BlocksLieAt, KeepsZone, appended_stays, lying_is_read, uncleared_is_readable, written_stays}
use Rattle.device_meaning.specs.EventReplies.{Happening, submission_of}
use Rattle.device_meaning.specs.Events.{Occurrence, state_after}
use Rattle.device_meaning.specs.Happenings.{commanded, happens, submitted}
use Rattle.pushdown.specs.Pushdown.{blocks_at}
use Rattle.pushdown.specs.ReadBack.{AppendedBlocksReadBack, BlocksAreRead, IsCompleted, NoEventClears, ReadsGive, Submits, WrittenBlocksReadBack, WrittenIsRead}
use Rattle.device_meaning.specs.State.{State, holds_at}
use Rattle.device_events.specs.ToldEvents.{ToldEvent}
use Rattle.device_events.specs.ToldEvents as told
use Rattle.pushdown.proofs.Lasting.{events_keep}
use Rattle.device_meaning.proofs.Proved.{HasBlocks, decoded_has}

-- ---- written blocks of a namespace

-- a zone with blocks isn't cleared
uncleared : (state : ZoneState) (written capacity : ℕ) → IsZone state written capacity → 1 ≤ written → is_cleared state ≡ false
uncleared Empty written capacity is some = absurd (grind (arith, nat_tests, is.1, some))
uncleared Offline written capacity is some = absurd (grind (arith, nat_tests, is.1, some))
uncleared state written capacity is some = refl

three : (front more behind : List (List ℕ)) → length (front ++ (more ++ behind)) ≡ length front + (length more + length behind)
three front more behind = simp length-append

-- some of a zone's blocks, behind others of them
blocks_read : (ns : ZonedNamespace) (z : ℕ) (front more behind : List (List ℕ)) → IsNamespace ns
    → (zone_at ns z).blocks ≡ front ++ (more ++ behind) → 1 ≤ length more → length more * ns.block ≤ MOST_TRANSFER
    → AreRead ns (z * ns.size + length front) (length more) (concat more)
blocks_read ns z front more behind is there some transfer =
    let all = ap length there ∙ three front more behind in
    let within = blocks_lie_in_zones ns.zones z 0 (omega (arith, all, some)) in
    let zone = zone_at ns z in
    let fits = is.fits z within in
    let most = written_is_within zone.state (length zone.blocks) ns.capacity fits in
    let lie : BlocksLieAt ns z (length front) (length more) (concat more) = record {
      front = front;
      more = more;
      behind = behind;
      there = there;
      start = refl;
      count = refl;
      bytes = refl;
      readable = uncleared_is_readable zone.state (uncleared zone.state (length zone.blocks) ns.capacity fits (omega (arith, all, some)));
      inside = within;
      room = omega (arith, all, most, is.shape.capacity_most);
      some = some;
      transfer = le-leb _ _ transfer;
    } in
    lying_is_read ns z (length front) (length more) (concat more) lie

-- ---- events

module _ (judge : Judge) where
  -- an event that submits a command is completed with the command's meaning
  completed : (e : ToldEvent) (c : StandardCommand) (input : List ℕ) (s : State) (starved : Bool)
      → Submits e (commands.Standard c) input → IsCompleted e s (meaning s.namespace (holds_at s) c input) (happens judge s starved e)
  completed (told.Submitted queue entry bytes) c input s starved is =
      let sub = submission_of queue entry bytes in
      ap (λ (r : Result Command Status). submitted judge starved sub s r) is.0
      ∙ ap (λ (bytes : List ℕ). commanded sub s (meaning s.namespace (holds_at s) c bytes)) is.1
  completed (told.Turned run) c input s starved is = absurd is
  completed (told.Faulted zone state) c input s starved is = absurd is

  leaves : (e : ToldEvent) (c : StandardCommand) (input : List ℕ) (s : State) (starved : Bool) → Submits e (commands.Standard c) input
      → (happens judge s starved e).state.namespace ≡ (meaning s.namespace (holds_at s) c input).namespace
  leaves (told.Submitted queue entry bytes) c input s starved is =
      ap (λ (h : Happening). h.state.namespace) (completed (told.Submitted queue entry bytes) c input s starved is)
  leaves (told.Turned run) c input s starved is = absurd is
  leaves (told.Faulted zone state) c input s starved is = absurd is

  has_blocks : (e : ToldEvent) (c : StandardCommand) (input : List ℕ) → Submits e (commands.Standard c) input → HasBlocks (commands.Standard c)
  has_blocks (told.Submitted queue entry bytes) c input is = decoded_has entry (commands.Standard c) is.0
  has_blocks (told.Turned run) c input is = absurd is
  has_blocks (told.Faulted zone state) c input is = absurd is

  -- what is read of a namespace is read of a device
  reads : (s : State) (lba blocks : ℕ) (bytes : List ℕ) → AreRead s.namespace lba blocks bytes
      → ReadsGive judge s lba blocks bytes
  reads s lba blocks bytes is read submits =
      subst (λ (effect : Effect). IsCompleted read.event s effect (happens judge s read.starved read.event)) (is (holds_at s))
      (completed read.event (Read lba blocks) [] s read.starved submits)

  -- what is left of a zone after a command and after events that don't clear it
  lasts : (s : State) (o : Occurrence) (c : StandardCommand) (input : List ℕ) (events : List Occurrence) (z : ℕ) → Submits o.event (commands.Standard c) input
      → NoEventClears judge z events (happens judge s o.starved o.event).state
      → KeepsZone (meaning s.namespace (holds_at s) c input).namespace
      (state_after judge events (happens judge s o.starved o.event).state).namespace z
  lasts s o c input events z is none =
      let then = (happens judge s o.starved o.event).state in
      let last = state_after judge events then in
      subst (λ (ns : ZonedNamespace). KeepsZone ns last.namespace z) (leaves o.event c input s o.starved is) (events_keep judge events then z none)

  pub appended_blocks_read_back : AppendedBlocksReadBack judge
  appended_blocks_read_back s sound o lba blocks input events is succeeded none =
      let ns = s.namespace in
      let c = Append lba blocks in
      let done = meaning ns (holds_at s) c input in
      let last = state_after judge events (happens judge s o.starved o.event).state in
      let keeps = lasts s o c input events (zone_number ns lba) is none in
      let later = appended_stays ns (holds_at s) lba blocks input last.namespace sound (has_blocks o.event c input is) succeeded keeps in
      (completed o.event c input s o.starved is, reads last (done.dw0 + done.dw1 * 2 ^ 32) blocks input later)

  pub written_blocks_read_back : WrittenBlocksReadBack judge
  written_blocks_read_back s sound o lba blocks input events is succeeded none =
      let ns = s.namespace in
      let c = Write lba blocks in
      let last = state_after judge events (happens judge s o.starved o.event).state in
      let keeps = lasts s o c input events (zone_number ns lba) is none in
      let later = written_stays ns (holds_at s) lba blocks input last.namespace sound (has_blocks o.event c input is) succeeded keeps in
      (completed o.event c input s o.starved is, reads last lba blocks input later)

-- ---- a part of a list of blocks

record IsPart (all : List (List ℕ)) (at blocks : ℕ) : Type 0 where
  there : all ≡ take at all ++ (take blocks (drop at all) ++ drop blocks (drop at all))
  start : length (take at all) ≡ at
  count : length (take blocks (drop at all)) ≡ blocks

is_part : (all : List (List ℕ)) (at blocks : ℕ) → at + blocks ≤ length all → IsPart all at blocks
is_part all at blocks within =
    let rest = length-drop at all in
    record {
      there = sym (ap (λ (xs : List (List ℕ)). take at all ++ xs) (take-append-drop blocks (drop at all)) ∙ take-append-drop at all);
      start = length-take-le at all (omega arith);
      count = length-take-le blocks (drop at all) (omega arith);
    }

module _ (judge : Judge) where
  -- a part of blocks that lie in a zone behind others
  pub part_is_read : (s : State) (z : ℕ) (front all behind : List (List ℕ)) (at blocks : ℕ) → IsNamespace s.namespace
      → blocks_at s z ≡ front ++ (all ++ behind) → at + blocks ≤ length all → 1 ≤ blocks → blocks * s.namespace.block ≤ MOST_TRANSFER
      → ReadsGive judge s (z * s.namespace.size + length front + at) blocks (concat (take blocks (drop at all)))
  part_is_read s z front all behind at blocks is there within some transfer =
      let ns = s.namespace in
      let part = is_part all at blocks within in
      let before = take at all in
      let more = take blocks (drop at all) in
      let after = drop blocks (drop at all) in
      let lie : blocks_at s z ≡ (front ++ before) ++ (more ++ (after ++ behind)) =
      there ∙ (ap (λ (xs : List (List ℕ)). front ++ (xs ++ behind)) part.there
      ∙ (ap (λ (xs : List (List ℕ)). front ++ xs) (append_assoc before (more ++ after) behind ∙ ap (λ (xs : List (List ℕ)). before ++ xs) (append_assoc more after behind))
      ∙ sym (append_assoc front before (more ++ (after ++ behind))))) in
      let long = subst (λ (n : ℕ). n * ns.block ≤ MOST_TRANSFER) (sym part.count) transfer in
      let read = blocks_read ns z (front ++ before) more (after ++ behind) is lie (omega (arith, part.count)) long in
      let joined = length-append front before in
      let start : z * ns.size + length (front ++ before) ≡ z * ns.size + length front + at = omega (arith, joined, part.start) in
      reads judge s (z * ns.size + length front + at) blocks (concat more)
      (subst (λ (lba : ℕ). AreRead ns lba blocks (concat more)) start
      (subst (λ (n : ℕ). AreRead ns (z * ns.size + length (front ++ before)) n (concat more)) part.count read))

  pub written_is_read : WrittenIsRead judge
  written_is_read s z at blocks is within some transfer =
      let all = blocks_at s z in
      let same : z * s.namespace.size + 0 + at ≡ z * s.namespace.size + at = omega arith in
      subst (λ (lba : ℕ). ReadsGive judge s lba blocks (concat (take blocks (drop at all)))) same
      (part_is_read s z [] all [] at blocks is (sym (append-nil all)) within some transfer)

  -- blocks of which each is read are read one after another
  pub each_is_read : (s : State) (all : List (List ℕ)) (lba : ℕ)
      → ((at : ℕ) → at + 1 ≤ length all → ReadsGive judge s (lba + at) 1 (concat (take 1 (drop at all))))
      → BlocksAreRead judge s lba all
  each_is_read s [] lba each = tt
  each_is_read s (b ∷ bs) lba each =
      let first : lba + 0 ≡ lba = omega arith in (
        subst (λ (n : ℕ). ReadsGive judge s n 1 b) first
            (subst (λ (bytes : List ℕ). ReadsGive judge s (lba + 0) 1 bytes) (append-nil b) (each 0 (omega arith))),
        each_is_read s bs (lba + 1)
            (λ at within.
            let next : lba + suc at ≡ lba + 1 + at = omega arith in
            subst (λ (n : ℕ). ReadsGive judge s n 1 (concat (take 1 (drop at bs)))) next (each (suc at) (omega arith))),
      )
