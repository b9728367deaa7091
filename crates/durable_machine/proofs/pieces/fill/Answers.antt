use Rattle.std.proofs.Common.{rules, ◌≡◌, ℕ, List, [], sym, ◌∙◌, subst, arith}
use Rattle.std.proofs.lemmas.List.{append-nil}
use Rattle.durable_machine.specs.Pieces.{TakesBytes}
use Rattle.durable_machine.proofs.Windows.{as_much, tells_all, tells_long, tells_read}
use Rattle.durable_machine.proofs.pieces.fill.Goals as goal

pub returns-in_default-clause-told : goal.returns-in_default-clause-told
returns-in_default-clause-told g c =
    let R = g.R.FileReading in
    tells_all c.read_next.result c.left-count.result (R.size c.read_next.new.self) (R.given c.read_up_to.new.reading) (R.given c.read_next.new.self) c.read_up_to.new.window.items c.read_next.new.bytes.items
    c.read_next.ensures.read (c.left-count.ensures ∙ sym c.read_next.ensures.size)

pub returns-then-length-len-2-clause-told : goal.returns-then-length-len-2-clause-told
returns-then-length-len-2-clause-told g c =
    let R = g.R.FileReading in
    let reading = c.read_up_to.new.reading in
    let window = c.read_up_to.new.window.items in
    let value : c.deref.result.now ≡ window = search rules in
    let takes : TakesBytes c.in-Some.length window = subst (λ (l : List ℕ). TakesBytes c.in-Some.length l) value c.in-Some.ensures in
    let much = as_much (R.given c.args.reading.now) (R.given reading) c.args.window.now.items window c.read_up_to.ensures.read in
    tells_long (R.size reading) c.in-Some.length (R.given reading) window window [] takes (sym (append-nil window)) (omega (arith, c.requires.within, much)) (g.met.R.FileReading.has_length reading).1
    c.left.result c.left.ensures (omega (arith, c.if-length-len.true, c.if-length-len-2.true, c.read_up_to.new.window.ok.0))

pub returns-clause-told : goal.returns-clause-told
returns-clause-told g c =
    let R = g.R.FileReading in
    let first = c.read_up_to.new.reading in
    let reading = c.read_up_to-2.new.reading in
    let window = c.read_up_to.new.window.items in
    let value : c.deref.result.now ≡ window = search rules in
    let takes : TakesBytes c.in-Some.length window = subst (λ (l : List ℕ). TakesBytes c.in-Some.length l) value c.in-Some.ensures in
    let much = as_much (R.given c.args.reading.now) (R.given first) c.args.window.now.items window c.read_up_to.ensures.read in
    tells_read c.read_up_to-2.result (R.size reading) c.in-Some.length (R.given first) (R.given reading) window c.read_up_to-2.new.window.items c.read_up_to-2.ensures.enough c.read_up_to-2.ensures.read takes
    (omega (arith, c.requires.within, much)) (g.met.R.FileReading.has_length reading).1
