use Rattle.std.proofs.Common.{rules, ◌≡◌, ◌<◌, ◌≤◌, ◌+◌, ◌-◌, ℕ, List, [], ◌++◌, length, take, drop, refl, sym, ◌∙◌, ap, subst, arith, append_assoc, length-drop}
use Rattle.std.proofs.lemmas.List.{append-nil}
use Rattle.durable_machine.specs.Pieces.{AreAllRead, HoldsOfWhole}
use Rattle.durable_machine.specs.Replay.{AreAllDone, IsIdleAt}
use Rattle.durable_machine.proofs.Windows.{as_much}
use Rattle.durable_machine.proofs.Wholes.{all_read, last_there, no_batch, no_more, none_read, read_batches, read_further, read_idle}
use Rattle.durable_machine.proofs.finding.replay_pieces.Goals as goal

pub pieces-init : goal.pieces-init
pieces-init g c =
    let R = g.R.FileReading in record {
      so_far = none_read g.M.Machine.next c.args.begin (R.given c.args.reading.now) c.args.window.now.items _ c.args.machine.now (search rules) c.requires;
      size = refl;
      known = refl;
      faults = omega arith;
      counted = omega arith;
      read = ([], sym (append-nil (R.given c.args.reading.now)));
    }

pub pieces-preserved : goal.pieces-preserved
pieces-preserved g c =
    let R = g.R.FileReading in
    let next = g.M.Machine.next in
    let l = c.pieces in
    let begin = c.args.begin in
    let given = R.given c.fill.new.reading in
    let window = c.fill.new.window.items in
    let read = c.fill.ensures.read in
    let filled = read_further next begin l.done.end l.done.last l.done.count l.done.gate.items (R.given l.reading) l.window.items c.args.machine.now l.machine l.invariant.so_far given window read in
    let more = c.in-Ok.more in
    let value : c.deref.result.now ≡ window = search rules in
    let all : AreAllDone next l.done.end window more.taken more.last more.count l.machine c.replay_batches.new.machine =
    subst (λ (w : List ℕ). AreAllDone next l.done.end w more.taken more.last more.count l.machine c.replay_batches.new.machine) value c.in-Ok.ensures.done in
    let some : 0 < more.count = omega arith in
    let count : more.last + 4096 - more.last ≡ 4096 = omega arith in
    let sector : c.in_ok-done.field-0.items ≡ take 4096 (drop more.last window) =
    c.in_ok-done.ensures.items_if_clones_equal (λ x y same. same)
    ∙ ap (λ (l : List ℕ). take (more.last + 4096 - more.last) (drop more.last l)) c.deref-in-pieces.ensures.value
    ∙ ap (λ (n : ℕ). take n (drop more.last window)) count in
    let few = no_more next begin l.done.end l.done.last l.done.count l.done.gate.items given window c.args.machine.now l.machine filled more.taken more.last more.count c.replay_batches.new.machine all in
    record {
      so_far = read_batches next begin l.done.end l.done.last l.done.count l.done.gate.items given window c.args.machine.now l.machine filled more.taken more.last more.count c.replay_batches.new.machine all _ _ some sector (search rules);
      size = c.fill.ensures.size ∙ l.invariant.size;
      known = c.fill.ensures.known ∙ l.invariant.known;
      faults = omega (arith, l.invariant.faults, c.fill.ensures.cause.later);
      counted = omega (arith, l.invariant.counted, few);
      read = (l.invariant.read.0 ++ read.bytes, read.read ∙ ap (λ (xs : List ℕ). xs ++ read.bytes) l.invariant.read.1 ∙ append_assoc (R.given c.args.reading.now) l.invariant.read.0 read.bytes);
    }

pub pieces-smaller : goal.pieces-smaller
pieces-smaller g c =
    let R = g.R.FileReading in
    let next = g.M.Machine.next in
    let l = c.pieces in
    let begin = c.args.begin in
    let given = R.given c.fill.new.reading in
    let window = c.fill.new.window.items in
    let read = c.fill.ensures.read in
    let filled = read_further next begin l.done.end l.done.last l.done.count l.done.gate.items (R.given l.reading) l.window.items c.args.machine.now l.machine l.invariant.so_far given window read in
    let more = c.in-Ok.more in
    let value : c.deref.result.now ≡ window = search rules in
    let all : AreAllDone next l.done.end window more.taken more.last more.count l.machine c.replay_batches.new.machine =
    subst (λ (w : List ℕ). AreAllDone next l.done.end w more.taken more.last more.count l.machine c.replay_batches.new.machine) value c.in-Ok.ensures.done in
    let some : 0 < more.count = omega arith in
    let there = last_there next begin l.done.end l.done.last l.done.count l.done.gate.items given window c.args.machine.now l.machine filled more.taken more.last more.count c.replay_batches.new.machine all some in
    let much = as_much (R.given l.reading) given l.window.items window read in
    let rest : c.forget.new.window.items ≡ drop more.taken window = search rules in
    let shorter : length c.forget.new.window.items + more.taken ≡ length window = omega (arith, ap length rest, length-drop more.taken window, c.in-Ok.ensures.within, ap length value) in
    omega (arith, there, much, shorter, c.fill.ensures.size, g.met.R.FileReading.has_length c.fill.new.reading, g.met.R.FileReading.has_length l.reading)

pub overflow_add-done-in-pieces-2 : goal.overflow_add-done-in-pieces-2
overflow_add-done-in-pieces-2 g c =
    let R = g.R.FileReading in
    let next = g.M.Machine.next in
    let l = c.pieces in
    let begin = c.args.begin in
    let given = R.given c.fill.new.reading in
    let window = c.fill.new.window.items in
    let read = c.fill.ensures.read in
    let filled = read_further next begin l.done.end l.done.last l.done.count l.done.gate.items (R.given l.reading) l.window.items c.args.machine.now l.machine l.invariant.so_far given window read in
    let more = c.in-Ok.more in
    let value : c.deref.result.now ≡ window = search rules in
    let all : AreAllDone next l.done.end window more.taken more.last more.count l.machine c.replay_batches.new.machine =
    subst (λ (w : List ℕ). AreAllDone next l.done.end w more.taken more.last more.count l.machine c.replay_batches.new.machine) value c.in-Ok.ensures.done in
    let few = no_more next begin l.done.end l.done.last l.done.count l.done.gate.items given window c.args.machine.now l.machine filled more.taken more.last more.count c.replay_batches.new.machine all in
    omega (arith, few, l.invariant.counted, filled.ends, c.in-Ok.ensures.within, ap length value, g.met.R.FileReading.has_length c.fill.new.reading)

pub returns-in-Err-Idle-clause-halts : goal.returns-in-Err-Idle-clause-halts
returns-in-Err-Idle-clause-halts g c =
    let R = g.R.FileReading in
    let next = g.M.Machine.next in
    let l = c.pieces in
    let begin = c.args.begin in
    let given = R.given c.fill.new.reading in
    let window = c.fill.new.window.items in
    let read = c.fill.ensures.read in
    let filled = read_further next begin l.done.end l.done.last l.done.count l.done.gate.items (R.given l.reading) l.window.items c.args.machine.now l.machine l.invariant.so_far given window read in
    let idle : IsIdleAt next l.done.end c.in-Err-Idle.at window l.machine × (c.in-Err-Idle.at ≤ length window) = search rules in
    subst (λ (n : ℕ). (offset : ℕ) × (l.done.end + n ≡ begin + offset) × HoldsOfWhole (R.size c.fill.new.reading) given (λ (file : List ℕ). IsIdleAt next begin offset (drop begin file) c.args.machine.now)) (sym c.in-Err-Idle.at-is)
    (read_idle next begin l.done.end l.done.last l.done.count l.done.gate.items given window c.args.machine.now l.machine filled (R.size c.fill.new.reading) c.in-Err-Idle.at idle.0)

pub returns-then-more-eq0-clause-done : goal.returns-then-more-eq0-clause-done
returns-then-more-eq0-clause-done g c =
    let R = g.R.FileReading in
    let next = g.M.Machine.next in
    let l = c.pieces in
    let begin = c.args.begin in
    let given = R.given c.fill.new.reading in
    let window = c.fill.new.window.items in
    let read = c.fill.ensures.read in
    let filled = read_further next begin l.done.end l.done.last l.done.count l.done.gate.items (R.given l.reading) l.window.items c.args.machine.now l.machine l.invariant.so_far given window read in
    let more = c.in-Ok.more in
    let value : c.deref.result.now ≡ window = search rules in
    let all : AreAllDone next l.done.end window more.taken more.last more.count l.machine c.replay_batches.new.machine =
    subst (λ (w : List ℕ). AreAllDone next l.done.end w more.taken more.last more.count l.machine c.replay_batches.new.machine) value c.in-Ok.ensures.done in
    let none : more.count ≡ 0 = omega arith in
    let nothing = no_batch next begin l.done.end l.done.last l.done.count l.done.gate.items given window c.args.machine.now l.machine filled more.taken more.last more.count c.replay_batches.new.machine all none in
    let size = R.size c.fill.new.reading in
    subst (λ s. AreAllRead next begin size given window l.done.end l.done.last l.done.count l.done.gate.items c.args.machine.now s) (sym nothing.1)
    (all_read next begin l.done.end l.done.last l.done.count l.done.gate.items given window c.args.machine.now l.machine filled size c.in_ok-fill.ensures.told nothing.2 c.in_ok-fill.ensures.enough)

pub returns-in_err-done-clause-read : goal.returns-in_err-done-clause-read
returns-in_err-done-clause-read g c =
    let l = c.pieces in
    let read = c.fill.ensures.read in
    (l.invariant.read.0 ++ read.bytes, read.read ∙ ap (λ (xs : List ℕ). xs ++ read.bytes) l.invariant.read.1 ∙ append_assoc (g.R.FileReading.given c.args.reading.now) l.invariant.read.0 read.bytes)
