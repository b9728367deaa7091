use Rattle.std.proofs.Common.{◌≡◌, ℕ, ◌+◌, List, ◌++◌, length, take, sym, ap, subst, ◌∙◌, length-drop, arith}
use Rattle.std.proofs.lemmas.List.{take_rest}
use Rattle.event_frames.specs.Streams.{IsFirstWrong, IsHeader}
use Rattle.event_frames.specs.steps.Held.{entry_bytes, input_bytes}
use Rattle.event_frames.specs.declared.parts.Parts.{Parts}
use Rattle.event_frames.proofs.Growing.{front_is, grows}
use Rattle.event_frames.proofs.parts.grow.Goals as goal

pub returns-in-Some-clause-flaw : goal.returns-in-Some-clause-flaw
returns-in-Some-clause-flaw c =
    let parts : Parts = c.args.parts.now in
    subst (λ (h : List ℕ). IsFirstWrong h c.in-Some.place)
    (c.as_slice.ensures.value ∙ c.in_ok-first.ensures.added
    ∙ sym (front_is parts.header.items parts.entry.items parts.input.items c.args.piece.now c.requires c.in_ok-first.first c.in_ok-first.ensures.count))
    c.in-Some.ensures

pub returns-clause-grown : goal.returns-clause-grown
returns-clause-grown c =
    let old : Parts = c.args.parts.now in
    let new : Parts = record { header = c.fill.new.bytes; entry = c.fill-2.new.bytes; input = c.fill-3.new.bytes } in
    let p : List ℕ = c.args.piece.now in
    let first : ℕ = c.in_ok-first.first in
    let second : ℕ = c.in_ok-second.second in
    let third : ℕ = c.in_ok-third.third in
    let entry : c.wanted_behind-entry.result.0 ≡ entry_bytes new.header.items = c.wanted_behind-entry.ensures.entry ∙ ap entry_bytes c.as_slice-2.ensures.value in
    let input : c.wanted_behind-entry.result.1 ≡ input_bytes new.header.items = c.wanted_behind-entry.ensures.input ∙ ap input_bytes c.as_slice-2.ensures.value in
    grows old new p first second third c.requires (subst IsHeader c.as_slice.ensures.value c.in_default.ensures) (λ k. omega (arith, c.type_inv.piece k))
    c.in_ok-first.ensures.count c.in_ok-first.ensures.added
    (omega (arith, c.in_ok-second.ensures.count, entry, ap length (take_rest p first), length-drop first p))
    (c.in_ok-second.ensures.added ∙ ap (λ (x : List ℕ). old.entry.items ++ take second x) (take_rest p first))
    (omega (arith, c.in_ok-third.ensures.count, input, ap length (take_rest p (first + second)), length-drop (first + second) p))
    (c.in_ok-third.ensures.added ∙ ap (λ (x : List ℕ). old.input.items ++ take third x) (take_rest p (first + second)))
