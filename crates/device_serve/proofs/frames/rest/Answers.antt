use Rattle.std.proofs.Common.{[], List, ℕ, sym, subst}
use Rattle.device_serve.specs.FrameStream.{GivesTurns, Stops, reader}
use Rattle.device_serve.specs.declared.fault.ServeFault.TheVariants as fault
use Rattle.device_serve.proofs.FrameTakes.{turns_given, turns_unanswered}
use Rattle.device_serve.proofs.frames.rest.Goals as goal

pub returns-in-Ok-clause-done : goal.returns-in-Ok-clause-done
returns-in-Ok-clause-done g c =
    let s = c.args.kept.now.device.value in
    let t = c.give_turns.new.kept.device.value in
    turns_given g.K.Keep.has_kept g.K.Keep.becomes c.args.codec.now.turns c.args.codec.now.ends_runs c.args.codec.now.session c.args.codec.now.keeper s
    (g.met.K.Keep.stays c.args.codec.now.keeper) t c.in-Ok.field-0 [] c.give_turns.new.answer.items
    (subst (λ (x : List ℕ). GivesTurns c.args.codec.now.turns c.in-Ok.field-0 s t x c.give_turns.new.answer.items) c.requires.empty c.in-Ok.ensures.given)

pub returns-in-Err-clause-stopped : goal.returns-in-Err-clause-stopped
returns-in-Err-clause-stopped g c = λ left.
    let s = c.args.kept.now.device.value in
    let t = c.give_turns.new.kept.device.value in
    let codec = reader c.args.codec.now.session c.args.codec.now.turns c.args.codec.now.ends_runs c.args.codec.now.keeper in
    subst (λ (x : List ℕ). Stops g.K.Keep.has_kept g.K.Keep.becomes codec s [] [] left codec t x fault.Memory) (sym c.clear.ensures.items)
    (turns_unanswered g.K.Keep.has_kept g.K.Keep.becomes c.args.codec.now.turns c.args.codec.now.ends_runs c.args.codec.now.session
    c.args.codec.now.keeper s (g.met.K.Keep.stays c.args.codec.now.keeper) t [] left c.give_turns.ensures.round)
