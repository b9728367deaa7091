-- Runs that are under way, and what keeps them so.
use Rattle.std.proofs.Common.{◌≡◌, ℕ, suc, ◌+◌, ◌-◌, ◌*◌, ◌/◌, ◌%◌, ◌<◌, ◌≤◌, List, [], ◌∷◌, length, take, drop, get_or, Option, Some, None, ap, sym, subst, ◌∙◌, arith, length-append}
use Rattle.std.proofs.lemmas.List.{drop_more}
use Rattle.std.proofs.lemmas.Nat.{div-add-mod', div-mul-add, mod-mul-add}
use Rattle.nvme_entry.specs.declared.command.RunCommand.{RunCommand}
use Rattle.image_store.specs.Geometry.{Shape}
use Rattle.image_store.specs.Namespace.{ZonedNamespace, block_at, shape, zone_at}
use Rattle.zns_commands.specs.Left.{Grows}
use Rattle.device_meaning.specs.Admission.{Loaded, SameProgram, source_zone}
use Rattle.device_meaning.specs.View.{Active, place_of, to_come}
use Rattle.device_meaning.proofs.Proved.{seen_stays}
use Rattle.turn_machine.specs.Machine.{Machine, run_at}

-- a run with some block left; its range is written, and lies in one zone
pub record IsUnderWay (ns : ZonedNamespace) (a : Active) : Type 0 where
  pub left : a.so_far.index + 1 ≤ a.command.blocks
  pub inside : a.command.lba % ns.size + a.command.blocks ≤ ns.size
  pub written : a.command.lba % ns.size + a.command.blocks ≤ length (zone_at ns (a.command.lba / ns.size)).blocks

-- all active runs are under way
abbrev pub AreUnderWay : Machine → Type 0
AreUnderWay m = (run : ℕ) (a : Active) → run_at m run ≡ Some a → IsUnderWay m.namespace a

-- ---- what events keep of what a run needs

-- a later namespace and later slots keep what a run of this command needs
pub record KeepsNeeds (ns : ZonedNamespace) (slots : List (Option Loaded)) (later : ZonedNamespace) (slots' : List (Option Loaded))
    (command : RunCommand) : Type 0 where
  pub shape_kept : shape later ≡ shape ns
  pub source : Grows (zone_at ns (source_zone ns command)).blocks (zone_at later (source_zone ns command)).blocks
  pub program : SameProgram (get_or slots command.slot None) (get_or slots' command.slot None)

module _ (ns : ZonedNamespace) (slots : List (Option Loaded)) (later : ZonedNamespace) (slots' : List (Option Loaded)) where
  -- its place stays what it was,
  pub place_stays : (a : Active) → IsUnderWay ns a → KeepsNeeds ns slots later slots' a.command
      → place_of later slots' a ≡ place_of ns slots a
  place_stays a h keeps =
      seen_stays ns later slots slots' a (record {
        size = ap (λ (x : Shape). x.size) keeps.shape_kept;
        block = ap (λ (x : Shape). x.block) keeps.shape_kept;
        grows = keeps.source;
        written = omega (arith, h.left, h.written);
      }) keeps.program

  -- and it stays under way
  pub stays_under_way : (a : Active) → IsUnderWay ns a → KeepsNeeds ns slots later slots' a.command → IsUnderWay later a
  stays_under_way a h keeps =
      let size : ns.size ≡ later.size = sym (ap (λ (x : Shape). x.size) keeps.shape_kept) in
      let lba = a.command.lba in
      let old = (zone_at ns (lba / ns.size)).blocks in
      let now = (zone_at later (lba / ns.size)).blocks in
      let more : length now ≡ length old + length keeps.source.more = ap length keeps.source.is ∙ length-append old keeps.source.more in
      let written : lba % ns.size + a.command.blocks ≤ length now = omega (arith, more, h.written) in
      record {
        left = h.left;
        inside = subst (λ (n : ℕ). lba % n + a.command.blocks ≤ n) size h.inside;
        written = subst (λ (n : ℕ). lba % n + a.command.blocks ≤ length (zone_at later (lba / n)).blocks) size written;
      }

-- ---- the blocks that are still to come

regroup : (x y z : ℕ) → x + y + z ≡ x + (y + z)
regroup x y z = omega arith

-- the block so far behind another is in the same zone, where the zone reaches that far
pub block_behind : (ns : ZonedNamespace) (lba i : ℕ) → lba % ns.size + i < ns.size
    → block_at ns (lba + i) ≡ get_or (zone_at ns (lba / ns.size)).blocks (lba % ns.size + i) []
block_behind ns lba i within =
    let zone = lba / ns.size in
    let offset = lba % ns.size + i in
    let is : lba + i ≡ zone * ns.size + offset =
    ap (λ (n : ℕ). n + i) (sym (div-add-mod' lba ns.size)) ∙ regroup (zone * ns.size) (lba % ns.size) i in
    ap (block_at ns) is
    ∙ ap (λ (z : ℕ). get_or (zone_at ns z).blocks ((zone * ns.size + offset) % ns.size) []) (div-mul-add zone ns.size offset within)
    ∙ ap (λ (at : ℕ). get_or (zone_at ns zone).blocks at []) (mod-mul-add zone ns.size offset within)

first_of : (xs : List (List ℕ)) (at n : ℕ) → at < length xs → take (suc n) (drop at xs) ≡ get_or xs at [] ∷ take n (drop (at + 1) xs)
first_of xs at n less = ap (take (suc n)) (drop_more xs at [] less)

-- the same run one block on
abbrev pub one_on : Active → Active
one_on a = record { queue = a.queue; cid = a.cid; command = a.command; so_far = record a.so_far { index = a.so_far.index + 1 } }

-- the first block that is still to come is the one whose turn it is
pub first_to_come : (ns : ZonedNamespace) (a : Active) → IsUnderWay ns a
    → to_come ns a ≡ block_at ns (a.command.lba + a.so_far.index) ∷ to_come ns (one_on a)
first_to_come ns a h =
    let blocks = (zone_at ns (a.command.lba / ns.size)).blocks in
    let at = a.command.lba % ns.size + a.so_far.index in
    let later = a.command.blocks - (a.so_far.index + 1) in
    let left : a.command.blocks - a.so_far.index ≡ suc later = omega (arith, h.left) in
    let on : at + 1 ≡ a.command.lba % ns.size + (a.so_far.index + 1) = omega arith in
    ap (λ (n : ℕ). take n (drop at blocks)) left
    ∙ first_of blocks at later (omega (arith, h.left, h.written))
    ∙ ap (λ (first : List ℕ). first ∷ take later (drop (at + 1) blocks))
    (sym (block_behind ns a.command.lba a.so_far.index (omega (arith, h.left, h.inside))))
    ∙ ap (λ (n : ℕ). block_at ns (a.command.lba + a.so_far.index) ∷ take later (drop n blocks)) on
