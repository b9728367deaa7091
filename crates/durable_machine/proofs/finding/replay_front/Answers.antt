use Rattle.std.proofs.Common.{rules, ◌≡◌, ◌<◌, ◌≤◌, ℕ, length, sym, ◌∙◌, ap, subst, arith, length-append}
use Rattle.std.proofs.lemmas.Result.{err_from_is_err_and}
use Rattle.durable_machine.specs.Bases.{BeginsBase}
use Rattle.durable_machine.specs.Pieces.{HoldsOfWhole}
use Rattle.durable_machine.proofs.Windows.{same_read, whole_later}
use Rattle.durable_machine.proofs.Wholes.{begun_read, halts_read, none_found, short_read, window_after}
use Rattle.durable_machine.proofs.finding.replay_front.Goals as goal

pub returns-in_default-clause-refused : goal.returns-in_default-clause-refused
returns-in_default-clause-refused g c =
    let R = g.R.FileReading in
    let reading = c.read_base.new.reading in
    none_found g.M.Machine.loads g.M.Machine.next (R.size reading) (R.given reading) (search rules)

pub returns-then-len-front-clause-refused : goal.returns-then-len-front-clause-refused
returns-then-len-front-clause-refused g c =
    let loads = g.M.Machine.loads in
    let R = g.R.FileReading in
    let first = c.read_base.new.reading in
    let reading = c.read_up_to.new.reading in
    let read = c.read_up_to.ensures.read in
    let front = c.in_sectors-front.result in
    let begins : HoldsOfWhole (R.size first) (R.given first) (BeginsBase loads c.in-Some.machine c.in-Some.base) = search rules in
    let bases = whole_later (R.size first) (BeginsBase loads c.in-Some.machine c.in-Some.base) (R.given first) read.bytes (R.given reading) begins read.read in
    let same = same_read (R.given first) (R.given reading) c.read_base.new.window.items c.read_up_to.new.window.items (search rules) read in
    let short : length c.read_up_to.new.window.items < front = search rules in
    let whole : length (R.given reading) ≡ R.size reading = omega (arith, short, c.in_ok-read_up_to.ensures.enough) in
    short_read loads g.M.Machine.next (R.size reading) (R.given reading) g.met.M.Machine.one_base c.in-Some.base front c.in-Some.machine
    (subst (λ (n : ℕ). HoldsOfWhole n (R.given reading) (BeginsBase loads c.in-Some.machine c.in-Some.base)) (sym c.read_up_to.ensures.size) bases)
    c.in_sectors-front.ensures whole (omega (arith, short, ap length same))

pub returns-in_err-done-clause-refused : goal.returns-in_err-done-clause-refused
returns-in_err-done-clause-refused g c =
    let loads = g.M.Machine.loads in
    let R = g.R.FileReading in
    let first = c.read_base.new.reading in
    let second = c.read_up_to.new.reading in
    let reading = c.replay_pieces.new.reading in
    let read = c.read_up_to.ensures.read in
    let more = c.replay_pieces.ensures.read in
    let P = BeginsBase loads c.in-Some.machine c.in-Some.base in
    let begins : HoldsOfWhole (R.size first) (R.given first) P = search rules in
    let sizes : R.size reading ≡ R.size first = c.replay_pieces.ensures.size ∙ c.read_up_to.ensures.size in
    let bases : HoldsOfWhole (R.size reading) (R.given reading) P =
    subst (λ (n : ℕ). HoldsOfWhole n (R.given reading) P) (sym sizes)
    (whole_later (R.size first) P (R.given second) more.0 (R.given reading) (whole_later (R.size first) P (R.given first) read.bytes (R.given second) begins read.read) more.1) in
    let same = same_read (R.given first) (R.given second) c.read_base.new.window.items c.read_up_to.new.window.items (search rules) read in
    let long : c.in_sectors-front.result ≤ length c.read_up_to.new.window.items = search rules in
    let enough : c.in_sectors-front.result ≤ length (R.given reading) = omega (arith, long, ap length same, ap length more.1, length-append (R.given second) more.0) in
    let p = err_from_is_err_and c.from_residual-in_err-done.result c.from_residual-in_err-done.ensures.1 in
    rw (p.1, p.2) (halts_read loads g.M.Machine.next (R.size reading) (R.given reading) c.in-Some.base c.in_sectors-front.result c.in-Some.machine bases c.in_sectors-front.ensures enough
    (R.faults c.args.reading.now) (R.faults second) (R.faults reading) (omega (arith, c.read_base.ensures.cause.later, c.read_up_to.ensures.cause.later)) c.in_err-done.field-0.0 c.in_err-done.ensures.halts)

pub returns-clause-begun : goal.returns-clause-begun
returns-clause-begun g c =
    let loads = g.M.Machine.loads in
    let R = g.R.FileReading in
    let first = c.read_base.new.reading in
    let second = c.read_up_to.new.reading in
    let reading = c.replay_pieces.new.reading in
    let read = c.read_up_to.ensures.read in
    let more = c.replay_pieces.ensures.read in
    let done = c.in_ok-done.done in
    let P = BeginsBase loads c.in-Some.machine c.in-Some.base in
    let begins : HoldsOfWhole (R.size first) (R.given first) P = search rules in
    let sizes : R.size reading ≡ R.size first = c.replay_pieces.ensures.size ∙ c.read_up_to.ensures.size in
    let bases : HoldsOfWhole (R.size reading) (R.given reading) P =
    subst (λ (n : ℕ). HoldsOfWhole n (R.given reading) P) (sym sizes)
    (whole_later (R.size first) P (R.given second) more.0 (R.given reading) (whole_later (R.size first) P (R.given first) read.bytes (R.given second) begins read.read) more.1) in
    begun_read loads g.M.Machine.next (R.size reading) (R.given reading) c.in-Some.base c.in_sectors-front.result c.in-Some.machine bases c.in_sectors-front.ensures
    c.replay_pieces.new.window.items done.end done.last done.count done.gate.items c.replay_pieces.new.machine c.in_ok-done.ensures.done

pub returns-clause-gate : goal.returns-clause-gate
returns-clause-gate g c = c.in_ok-done.ensures.done.so_far.has_gate

pub returns-clause-after : goal.returns-clause-after
returns-clause-after g c =
    let R = g.R.FileReading in
    let done = c.in_ok-done.done in
    window_after g.M.Machine.next c.in_sectors-front.result done.end done.last done.count done.gate.items (R.given c.replay_pieces.new.reading) c.replay_pieces.new.window.items c.in-Some.machine c.replay_pieces.new.machine
    c.in_ok-done.ensures.done.so_far

pub returns-clause-enough : goal.returns-clause-enough
returns-clause-enough g c = c.in_ok-done.ensures.done.enough
