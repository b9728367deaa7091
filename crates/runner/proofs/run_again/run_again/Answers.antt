use Rattle.std.proofs.Common.{rules, ◌≡◌, ◌≤◌, ◌+◌, ◌-◌, ℕ, true, false, length, sym, ap, subst, ◌∙◌}
use Rattle.std.proofs.lemmas.Bool.{leb-true}
use Rattle.program_interface.specs.RunSizes.{Sizes}
use Rattle.emit_append.specs.Need.{need_behind}
use Rattle.image_store.specs.Geometry.{Shape}
use Rattle.image_store.specs.Namespace.{zone_at}
use Rattle.kept_device.specs.Kept.{run_told}
use Rattle.runner.specs.steps.RunningAgain.{CountsFit}
use Rattle.runner.proofs.KeptRuns.{again, no_room, sizes_are, there_for}
use Rattle.runner.proofs.run_again.run_again.Goals as goal

pub has_room-requires-clause-counts : goal.has_room-requires-clause-counts
has_room-requires-clause-counts g c =
    let ns = c.args.namespace.now in
    let a = run_told c.args.kept.now in
    let p = there_for ns c.args.slots.now a c.in-Some.sizes c.in-Some.ensures in
    let block : c.block-block.result ≡ ns.block = c.block-block.ensures.value ∙ ap (λ (s : Shape). s.block) c.geometry.ensures.value in
    let fits : c.counts_fit.result ≡ true = search rules in
    subst (λ (b : ℕ). CountsFit b a) (block ∙ sym (ap (λ (s : Sizes). s.block) p.2 ∙ c.requires a.command.slot p.0 p.1)) (c.counts_fit.ensures.yes fits)

pub returns-then-not-has_room : goal.returns-then-not-has_room
returns-then-not-has_room g c =
    let ns = c.args.namespace.now in
    let a = run_told c.args.kept.now in
    let p = there_for ns c.args.slots.now a c.in-Some.sizes c.in-Some.ensures in
    let full : c.has_room.result ≡ false = search rules in
    no_room ns c.args.slots.now a p.0 p.1 (c.requires a.command.slot p.0 p.1) c.in-Some.sizes c.in-Some-destination_again.destination p.2
    c.in-Some-destination_again.ensures (sym c.has_room.ensures ∙ full)

pub returns : goal.returns
returns g c =
    let ns = c.args.namespace.now in
    let a = run_told c.args.kept.now in
    let destination = c.in-Some-destination_again.destination in
    let p = there_for ns c.args.slots.now a c.in-Some.sizes c.in-Some.ensures in
    let accepted = c.requires a.command.slot p.0 p.1 in
    let block : c.block-block.result ≡ ns.block = c.block-block.ensures.value ∙ ap (λ (s : Shape). s.block) c.geometry.ensures.value in
    let counts : c.counts_fit.result ≡ true = search rules in
    let fits : c.has_room.result ≡ true = search rules in
    let needs : Sizes → ℕ = λ s. length (zone_at ns destination).blocks + need_behind (length a.so_far.pending) (a.command.blocks - a.so_far.index) s in
    let room : needs c.in-Some.sizes ≤ ns.capacity = leb-true (needs c.in-Some.sizes) ns.capacity (sym c.has_room.ensures ∙ fits) in
    again ns c.args.slots.now p.0 c.in-Some-source_again.source destination c.active_again.result a c.active_again.ensures.seen
    (record {
      loaded = p.1;
      accepted = accepted;
      counts = subst (λ (b : ℕ). CountsFit b a) block (c.counts_fit.ensures.yes counts);
      source_is = c.in-Some-source_again.ensures;
      destination_is = c.in-Some-destination_again.ensures;
      other = c.if-source-destination.false;
      scratch = record { long = c.active_again.ensures.long; are = c.active_again.ensures.scratch_bytes };
      bytes = c.active_again.ensures.pending_bytes;
      most = c.active_again.ensures.most;
      room = subst (λ (s : Sizes). needs s ≤ ns.capacity) (sizes_are ns c.args.slots.now a p.0 p.1 accepted c.in-Some.sizes p.2) room;
    })
    c.active_again.ensures.source c.active_again.ensures.destination (c.active_again.ensures.block ∙ block)
