use Rattle.std.proofs.Common.{rules, ◌≡◌, ◌<◌, ◌≤◌, ◌-◌, ◌^◌, length, subst, List, ℕ}
use Rattle.std.proofs.lemmas.List.{take_rest}
use Rattle.image_base.specs.Needed.{NeedsEvent}
use Rattle.image_base.proofs.Needing.{IsPast, past_all, past_end, past_one}
use Rattle.image_base.proofs.length.events_length.Goals as goal

pub returns-then-needed-bytes : goal.returns-then-needed-bytes
returns-then-needed-bytes c =
    let bytes = c.args.bytes.now in
    let less : c.loop-done.done < c.args.count = search rules in
    let over : length bytes - c.loop-done.at < c.event_length-needed.result = search rules in
    let short : length bytes < 2 ^ 64 - 1 = search rules in
    past_end c.args.count c.loop-done.done c.loop-done.at c.event_length-needed.result c.saturating_add.result bytes c.loop-done.invariant less
    (subst (λ (l : List ℕ). NeedsEvent c.event_length-needed.result l) (take_rest bytes c.loop-done.at) c.event_length-needed.ensures) over short c.saturating_add.ensures

pub loop-done-preserved : goal.loop-done-preserved
loop-done-preserved c =
    let bytes = c.args.bytes.now in
    let less : c.loop-done.done < c.args.count = search rules in
    let within : c.event_length-needed.result ≤ length bytes - c.loop-done.at = search rules in
    past_one c.args.count c.loop-done.done c.loop-done.at c.event_length-needed.result bytes c.loop-done.invariant less
    (subst (λ (l : List ℕ). NeedsEvent c.event_length-needed.result l) (take_rest bytes c.loop-done.at) c.event_length-needed.ensures) within

pub returns : goal.returns
returns c =
    let all : c.loop-done.done ≡ c.args.count = search rules in
    past_all c.args.count c.loop-done.at c.args.bytes.now
    (subst (λ (k : ℕ). IsPast c.args.count k c.loop-done.at c.args.bytes.now) all c.loop-done.invariant)
