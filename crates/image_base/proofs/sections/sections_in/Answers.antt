use Rattle.std.proofs.Common.{◌<◌, length, arith}
use Rattle.durable_machine.specs.Batches.{bytes_of}
use Rattle.image_base.proofs.SectionLemmas.{as_many, not_all_read, one_more}
use Rattle.image_base.proofs.sections.sections_in.Goals as goal

pub returns-in_default : goal.returns-in_default
returns-in_default c =
    let read = c.loop-alloc.sections.items in
    let less : length (bytes_of read) < 16 = omega (arith, as_many read, c.loop-alloc-test.true, c.len.ensures) in
    not_all_read (bytes_of read) c.loop-alloc.rest.now c.args.bytes.now c.loop-alloc.invariant less c.in_default.ensures

pub loop-alloc-preserved : goal.loop-alloc-preserved
loop-alloc-preserved c =
    let read = c.loop-alloc.sections.items in
    let less : length read < 16 = omega (arith, c.loop-alloc-test.true, c.len.ensures) in
    one_more read c.push.new.self.items c.in_ok-from_slice.field-0 c.in-Some.section.now c.in-Some.behind.now c.loop-alloc.rest.now c.args.bytes.now
    c.loop-alloc.invariant less c.in-Some.ensures c.in_ok-from_slice.ensures.items c.in_ok-push.ensures.items
