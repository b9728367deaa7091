use Rattle.std.proofs.Common.{◌≡◌, ◌∙◌, ◌<◌, ◌≤◌, ◌+◌, ◌++◌, ℕ, List, [], ◌∷◌, length, slice_index, ap, rules, subst, sym}
use Rattle.ebpf_inline.proofs.Counts.{one_counted, pushed_few}
use Rattle.ebpf_inline.proofs.Parts.{places_are}
use Rattle.ebpf_inline.proofs.Sections.{length-first_ones, one_more}
use Rattle.ebpf_inline.specs.Bodies.{counted, place}
use Rattle.ebpf_inline.specs.Data.{first_ones}
use Rattle.ebpf_inline.specs.Sizes.{callee_slots, slots_at}
use Rattle.ebpf_inline.specs.Units.{slots_of}
use Rattle.program_interface.specs.declared.TheConstants.{MOST_SLOTS}
use Rattle.ebpf_inline.proofs.body.places.Goals as goal

-- one place more
grown : (at : ℕ → ℕ) (places : List ℕ) (slot here : ℕ) → places ≡ first_ones at slot → at slot ≡ here
    → places ++ here ∷ [] ≡ first_ones at (slot + 1)
grown at places slot here are is =
    ap (λ (xs : List ℕ). xs ++ here ∷ []) are ∙ ap (λ (n : ℕ). first_ones at slot ++ n ∷ []) (sym is) ∙ sym (one_more at slot)

pub loop-slot-preserved : goal.loop-slot-preserved
loop-slot-preserved c =
    let unit = c.args.unit.now in
    let frame = c.args.frame in
    let of = slots_at (callee_slots unit c.args.room frame) unit frame.function in
    let count = length (slots_of unit frame.function) in
    let below : c.loop-slot.slot < count = search rules in
    let more = one_counted of count c.requires.counted.slots c.loop-slot.slot c.loop-slot.place c.counted_slots-place.result
    c.requires.counted.counted below c.loop-slot.invariant.counted c.counted_slots-place.ensures.value in
    let items : c.extend_from_slice.new.self.items ≡ c.loop-slot.places.items ++ c.loop-slot.place ∷ []
    = c.in_ok-extend_from_slice.ensures.items in
    let here : place unit c.args.room frame c.loop-slot.slot ≡ c.loop-slot.place = ap counted c.loop-slot.invariant.counted in
    record {
      counted = more.0;
      most = more.1;
      are = items ∙ grown (place unit c.args.room frame) c.loop-slot.places.items c.loop-slot.slot c.loop-slot.place c.loop-slot.invariant.are here;
      few = subst (λ (xs : List ℕ). (k : ℕ) → slice_index xs k ≤ MOST_SLOTS) (sym items)
          (pushed_few c.loop-slot.places.items c.loop-slot.place c.loop-slot.invariant.few c.loop-slot.invariant.most);
    }

pub returns-clause-value : goal.returns-clause-value
returns-clause-value c =
    let unit = c.args.unit.now in
    let frame = c.args.frame in
    let at = place unit c.args.room frame in
    let count = length (slots_of unit frame.function) in
    let ended : c.loop-slot.slot ≡ count = search rules in
    let items : c.extend_from_slice-2.new.self.items ≡ c.loop-slot.places.items ++ c.loop-slot.place ∷ []
    = c.in_ok-extend_from_slice-2.ensures.items in
    let here : at c.loop-slot.slot ≡ c.loop-slot.place = ap counted c.loop-slot.invariant.counted in
    items ∙ grown at c.loop-slot.places.items c.loop-slot.slot c.loop-slot.place c.loop-slot.invariant.are here
    ∙ ap (λ (n : ℕ). first_ones at (n + 1)) ended ∙ sym (places_are unit c.args.room frame)

pub returns-clause-each : goal.returns-clause-each
returns-clause-each c =
    let unit = c.args.unit.now in
    let frame = c.args.frame in
    let at = place unit c.args.room frame in
    let count = length (slots_of unit frame.function) in
    let value = returns-clause-value c in
    ap (length {A = ℕ}) value ∙ ap (length {A = ℕ}) (places_are unit c.args.room frame) ∙ length-first_ones at (count + 1)
