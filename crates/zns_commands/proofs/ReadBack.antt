-- That written and appended blocks read back, whatever comes in between.
use Rattle.std.proofs.Common.{◌≡◌, ◌≢◌, ℕ, suc, ◌+◌, ◌*◌, ◌/◌, ◌%◌, ◌^◌, ◌<◌, ◌≤◌, Bool, true, false, cond, List, [], ◌++◌, length, set, take, drop, replicate, Option, Some, None, refl, ap, sym, subst, ◌∙◌, arith, append_assoc}
use Rattle.std.specs.Prelude.{nat_le, nat_eq}
use Rattle.std.specs.List.{concat}
use Rattle.std.proofs.lemmas.Bool.{le-leb}
use Rattle.std.proofs.lemmas.List.{append-nil, length-set, take_all, take_at, drop_at, get_or-set_same}
use Rattle.std.proofs.lemmas.Nat.{div-mul-add, mod-mul-add}
use Rattle.std.proofs.Math.Nat.{suc-mul, mul-le-mul_right, mod-add-div'}
use Rattle.zone_state.specs.Zone.{written_state}
use Rattle.zone_state.specs.declared.state.ZoneState.{ZoneState}
use Rattle.zone_state.specs.declared.state.ZoneState.TheVariants.{ExplicitlyOpened, Closed, Full}
use Rattle.zone_state.specs.declared.status.Status.{Status}
use Rattle.zone_state.specs.declared.status.TheConstants.Status.{SUCCESS}
use Rattle.zone_resources.specs.declared.holds.Holds.{Holds}
use Rattle.nvme_entry.specs.declared.command.StandardCommand.TheVariants.{Write, Read, Append}
use Rattle.nvme_entry.specs.declared.command.TheConstants.{MOST_TRANSFER}
use Rattle.common_definitions.specs.Checks.{first_failed}
use Rattle.common_definitions.proofs.Proved.{met, no_fault_where_none_fails}
use Rattle.zone_state.proofs.Proved.{is_allowed}
use Rattle.image_store.specs.Blocks.{as_blocks, block_count}
use Rattle.image_store.specs.Geometry.{Shape}
use Rattle.image_store.specs.Namespace.{ZoneWithBlocks, ZonedNamespace, no_zone, zone_at, arrived, grown, IsNamespace}
use Rattle.image_store.proofs.Proved.{block_some, blocks_keep_bytes}
use Rattle.zns_commands.specs.Address.{counted_zone_at, zone_number, block_total, write_pointer}
use Rattle.zns_commands.specs.Effect.{Effect, success_effect, concluded}
use Rattle.zns_commands.specs.Append.{append_effect}
use Rattle.zns_commands.specs.Read.{read_refusal, blocks_read, read_checks, read_effect}
use Rattle.zns_commands.specs.Write.{write_effect}
use Rattle.zns_commands.specs.Laws.{after_events, AreRead, AppendedBlocksReadBack, WrittenBlocksReadBack}
use Rattle.zns_commands.specs.Meaning.{meaning}
use Rattle.zns_commands.specs.steps.Plans.{write_plan, written_by}
use Rattle.zns_commands.proofs.GivenWay.{has_room, written_is}
use Rattle.zns_commands.proofs.WrittenZones.{brings, count_of}
use Rattle.zns_commands.proofs.KeptBlocks.{KeepsZone, events_keep_zones, written_shape}
use Rattle.zns_commands.proofs.PassedChecks.{Writes, append_writes, write_begins, write_writes}
use Rattle.zns_commands.proofs.Refusals.{success_passes}

-- a namespace, once a zone is written
written_zone : (ns : ZonedNamespace) (z : ℕ) (gives : Option ℕ) (input : List ℕ) → gives ≢ Some z → z < length ns.zones
    → zone_at (written_by ns (record { zone = z; closing = gives }) input) z ≡ grown ns.capacity (zone_at ns z) (as_blocks ns.block input)
written_zone ns z None input other inside =
    get_or-set_same ns.zones z (grown ns.capacity (zone_at ns z) (as_blocks ns.block input)) no_zone inside
written_zone ns z (Some k) input other inside =
    let given = arrived Closed (zone_at ns k) in
    let zone = grown ns.capacity (zone_at ns z) (as_blocks ns.block input) in
    let in_list : z < length (set ns.zones k given) = omega (arith, length-set ns.zones k given) in
    ap (λ (m : ZonedNamespace). zone_at m z) (written_is ns z (Some k) input other)
    ∙ get_or-set_same (set ns.zones k given) z zone no_zone in_list

-- a zone that was written gives its blocks
readable : (full : Bool) (s : ZoneState) → read_refusal (cond full Full (written_state s)) ≡ None
readable true s = refl
readable false ExplicitlyOpened = refl
readable false s = refl

-- blocks in a zone, from one of its blocks on
pub record BlocksLieAt (m : ZonedNamespace) (z w blocks : ℕ) (input : List ℕ) : Type 0 where
  pub front : List (List ℕ)
  pub more : List (List ℕ)
  pub behind : List (List ℕ)
  pub there : (zone_at m z).blocks ≡ front ++ (more ++ behind)
  pub start : length front ≡ w
  pub count : length more ≡ blocks
  pub bytes : concat more ≡ input
  pub readable : read_refusal (zone_at m z).state ≡ None
  pub inside : z < length m.zones
  pub room : w + blocks ≤ m.size
  pub some : 1 ≤ blocks
  pub transfer : nat_le (blocks * m.block) MOST_TRANSFER ≡ true

-- where blocks lie they are read
pub lying_is_read : (m : ZonedNamespace) (z w blocks : ℕ) (input : List ℕ) → BlocksLieAt m z w blocks input
    → AreRead m (z * m.size + w) blocks input
lying_is_read m z w blocks input h holds =
    let lba = z * m.size + w in
    let size = m.size in
    let number : lba / size ≡ z = div-mul-add z size w (omega (arith, h.room, h.some)) in
    let place : lba % size ≡ w = mod-mul-add z size w (omega (arith, h.room, h.some)) in
    let below : suc z ≤ length m.zones = omega (arith, h.inside) in
    let product : suc z * size ≤ length m.zones * size = mul-le-mul_right size below in
    let end : lba + blocks ≤ block_total m = omega (arith, suc-mul z size, h.room) in
    let one : lba % size + blocks ≤ size = omega (arith, h.room) in
    let open_zone : read_refusal (zone_at m (lba / size)).state ≡ None = subst (λ (k : ℕ). read_refusal (zone_at m k).state ≡ None) (sym number) h.readable in
    let none : first_failed (read_checks m lba blocks []) ≡ None =
    (no_fault_where_none_fails Status (read_checks m lba blocks [])).1
    (met _ _ h.transfer, (refl, (met _ _ (le-leb _ _ end), (met _ _ (le-leb _ _ one), (open_zone, tt))))) in
    let zeros : List (List ℕ) = replicate blocks (replicate m.block 0) in
    ap (λ (r : Option Status). concluded r m (read_effect m lba blocks)) none
    ∙ (ap (λ (k : ℕ). success_effect m 0 (concat (blocks_read m.block (zone_at m k).blocks (lba % size) blocks))) number
    ∙ (ap (λ (k : ℕ). success_effect m 0 (concat (blocks_read m.block (zone_at m z).blocks k blocks))) place
    ∙ (ap (λ (all : List (List ℕ)). success_effect m 0 (concat (take blocks (drop w all ++ zeros)))) h.there
    ∙ (ap (λ (all : List (List ℕ)). success_effect m 0 (concat (take blocks (all ++ zeros)))) (drop_at h.front (h.more ++ h.behind) w h.start)
    ∙ (ap (λ (all : List (List ℕ)). success_effect m 0 (concat (take blocks all))) (append_assoc h.more h.behind zeros)
    ∙ (ap (λ (all : List (List ℕ)). success_effect m 0 (concat all)) (take_at h.more (h.behind ++ zeros) blocks h.count)
    ∙ ap (success_effect m 0) h.bytes))))))

-- they lie there as long as the zone isn't cleared
lie_on : (ns m : ZonedNamespace) (z w blocks : ℕ) (input : List ℕ) → BlocksLieAt ns z w blocks input → KeepsZone ns m z → BlocksLieAt m z w blocks input
lie_on ns m z w blocks input lie keeps =
    let grows = keeps.blocks in
    record {
      front = lie.front;
      more = lie.more;
      behind = lie.behind ++ grows.more;
      there =
          grows.is
          ∙ (ap (λ (all : List (List ℕ)). all ++ grows.more) lie.there
          ∙ (append_assoc lie.front (lie.more ++ lie.behind) grows.more
          ∙ ap (λ (all : List (List ℕ)). lie.front ++ all) (append_assoc lie.more lie.behind grows.more)));
      start = lie.start;
      count = lie.count;
      bytes = lie.bytes;
      readable = keeps.readable lie.readable;
      inside = subst (λ (s : Shape). z < s.zones) (sym keeps.same_shape) lie.inside;
      room = subst (λ (s : Shape). w + blocks ≤ s.size) (sym keeps.same_shape) lie.room;
      some = lie.some;
      transfer = subst (λ (s : Shape). nat_le (blocks * s.block) MOST_TRANSFER ≡ true) (sym keeps.same_shape) lie.transfer;
    }

whole_bytes : (block blocks : ℕ) (input : List ℕ) → 1 ≤ block → length input ≡ blocks * block → concat (as_blocks block input) ≡ input
whole_bytes block blocks input some size =
    let n = block_count block input in
    let is = count_of blocks block input some size in
    let long : length input ≤ n * block = subst (λ (m : ℕ). length input ≤ m * block) (sym is) (omega arith) in
    blocks_keep_bytes block n input ∙ take_all (n * block) input long

written_lie : (ns : ZonedNamespace) (holds : Holds) (z blocks : ℕ) (input : List ℕ) → IsNamespace ns → 1 ≤ blocks → Writes ns holds z blocks input
    → BlocksLieAt (written_by ns (write_plan ns holds z) input) z (length (zone_at ns z).blocks) blocks input
written_lie ns holds z blocks input sound some writes =
    let zone = zone_at ns z in
    let more = as_blocks ns.block input in
    let plan = write_plan ns holds z in
    let m = written_by ns plan input in
    let inside = writes.inside sound some in
    let has = has_room ns holds z plan.closing sound inside writes.room in
    let wide : 1 ≤ ns.block = omega (arith, block_some sound.shape) in
    let bring = brings ns.block blocks input wide writes.size in
    let seen = written_zone ns z plan.closing input has.give.other inside in
    let form = written_shape ns plan input in
    let end : length zone.blocks + blocks ≤ ns.capacity = (is_allowed (counted_zone_at ns z) (length zone.blocks) blocks writes.fits).has_room in
    let reach : length zone.blocks + blocks ≤ ns.size = omega (arith, sound.shape.capacity_most) in
    record {
      front = zone.blocks;
      more = more;
      behind = [];
      there = ap (λ (x : ZoneWithBlocks). x.blocks) seen ∙ ap (λ (all : List (List ℕ)). zone.blocks ++ all) (sym (append-nil more));
      start = refl;
      count = bring.count;
      bytes = whole_bytes ns.block blocks input wide writes.size;
      readable =
          subst (λ (x : ZoneWithBlocks). read_refusal x.state ≡ None) (sym seen)
          (readable (nat_eq (length zone.blocks + length more) ns.capacity) zone.state);
      inside = subst (λ (s : Shape). z < s.zones) (sym form) inside;
      room = subst (λ (s : Shape). length zone.blocks + blocks ≤ s.size) (sym form) reach;
      some = some;
      transfer = subst (λ (s : Shape). nat_le (blocks * s.block) MOST_TRANSFER ≡ true) (sym form) writes.transfer;
    }

-- what was written is read of each later namespace that keeps the zone
reads_later : (ns : ZonedNamespace) (holds : Holds) (z blocks : ℕ) (input : List ℕ) (later : ZonedNamespace) → IsNamespace ns
    → 1 ≤ blocks → Writes ns holds z blocks input
    → let m = written_by ns (write_plan ns holds z) input in
    KeepsZone m later z → AreRead later (write_pointer ns z) blocks input
reads_later ns holds z blocks input later sound some writes keeps any =
    let w = length (zone_at ns z).blocks in
    let plan = write_plan ns holds z in
    let m = written_by ns plan input in
    let lie = lie_on m later z w blocks input (written_lie ns holds z blocks input sound some writes) keeps in
    let same_size : later.size ≡ ns.size = ap (λ (s : Shape). s.size) (keeps.same_shape ∙ written_shape ns plan input) in
    let address : z * ns.size + w ≡ z * later.size + w = ap (λ (k : ℕ). z * k + w) (sym same_size) in
    ap (λ (k : ℕ). meaning later any (Read k blocks) []) address ∙ lying_is_read later z w blocks input lie any

-- what a Read gives later of the blocks that an effect tells
abbrev pub ReadsBack : ℕ → ZonedNamespace → ℕ → List ℕ → Effect → Type 0
ReadsBack z later blocks input done = KeepsZone done.namespace later z → AreRead later (done.dw0 + done.dw1 * 2 ^ 32) blocks input

-- what an Append that succeeds put in is read in each namespace that keeps the zone
pub appended_stays : (ns : ZonedNamespace) (holds : Holds) (lba blocks : ℕ) (input : List ℕ) (later : ZonedNamespace) → IsNamespace ns → 1 ≤ blocks
    → (meaning ns holds (Append lba blocks) input).status ≡ SUCCESS
    → ReadsBack (zone_number ns lba) later blocks input (meaning ns holds (Append lba blocks) input)
appended_stays ns holds lba blocks input later sound some done =
    let none = success_passes ns holds (Append lba blocks) input done in
    let z = zone_number ns lba in
    let writes = append_writes ns holds lba blocks input none in
    let pointer = write_pointer ns z in
    let address : pointer % 2 ^ 32 + pointer / 2 ^ 32 * 2 ^ 32 ≡ pointer = mod-add-div' pointer (2 ^ 32) in
    subst (λ (r : Option Status). ReadsBack z later blocks input (concluded r ns (append_effect ns holds lba input))) (sym none)
    (λ keeps. subst (λ (k : ℕ). AreRead later k blocks input) (sym address) (reads_later ns holds z blocks input later sound some writes keeps))

pub appended_blocks_read_back : AppendedBlocksReadBack
appended_blocks_read_back ns holds lba blocks input events sound some done stays =
    let m = (meaning ns holds (Append lba blocks) input).namespace in
    appended_stays ns holds lba blocks input (after_events events m) sound some done (events_keep_zones events m (zone_number ns lba) stays)

-- what a Read gives later of the blocks from an address on
abbrev pub ReadsAt : ℕ → ℕ → ZonedNamespace → ℕ → List ℕ → Effect → Type 0
ReadsAt z lba later blocks input done = KeepsZone done.namespace later z → AreRead later lba blocks input

-- the same of a Write, which is read from its own address
pub written_stays : (ns : ZonedNamespace) (holds : Holds) (lba blocks : ℕ) (input : List ℕ) (later : ZonedNamespace) → IsNamespace ns → 1 ≤ blocks
    → (meaning ns holds (Write lba blocks) input).status ≡ SUCCESS
    → ReadsAt (zone_number ns lba) lba later blocks input (meaning ns holds (Write lba blocks) input)
written_stays ns holds lba blocks input later sound some done =
    let none = success_passes ns holds (Write lba blocks) input done in
    let z = zone_number ns lba in
    let at = write_begins ns holds lba blocks input none in
    let writes = write_writes ns holds lba blocks input none in
    let address : write_pointer ns z ≡ lba = omega (arith, at, mod-add-div' lba ns.size) in
    subst (λ (r : Option Status). ReadsAt z lba later blocks input (concluded r ns (write_effect ns holds lba input))) (sym none)
    (λ keeps. subst (λ (k : ℕ). AreRead later k blocks input) address (reads_later ns holds z blocks input later sound some writes keeps))

pub written_blocks_read_back : WrittenBlocksReadBack
written_blocks_read_back ns holds lba blocks input events sound some done stays =
    let m = (meaning ns holds (Write lba blocks) input).namespace in
    written_stays ns holds lba blocks input (after_events events m) sound some done (events_keep_zones events m (zone_number ns lba) stays)
