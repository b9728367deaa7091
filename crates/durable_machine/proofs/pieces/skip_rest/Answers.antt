use Rattle.std.proofs.Common.{List, ℕ, [], ◌++◌, refl, sym, ◌∙◌, ap, arith, append_assoc}
use Rattle.std.proofs.lemmas.List.{append-nil}
use Rattle.durable_machine.proofs.pieces.skip_rest.Goals as goal

pub loop-window-init : goal.loop-window-init
loop-window-init g c =
    let R = g.R.FileReading in
    record { read = ([], sym (append-nil (R.given c.args.reading.now))); size = refl; known = refl; faults = omega arith }

pub loop-window-preserved : goal.loop-window-preserved
loop-window-preserved g c =
    let R = g.R.FileReading in
    let so_far = c.loop-window.invariant in
    let done = c.in_ok-read_next.ensures.read in
    record {
      read = (so_far.read.0 ++ done.bytes, done.read ∙ ap (λ (xs : List ℕ). xs ++ done.bytes) so_far.read.1 ∙ append_assoc (R.given c.args.reading.now) so_far.read.0 done.bytes);
      size = c.read_next.ensures.size ∙ so_far.size;
      known = c.read_next.ensures.known ∙ so_far.known;
      faults = omega (arith, so_far.faults, c.read_next.ensures.cause.later);
    }
