use Rattle.std.proofs.Common.{◌+◌, map, sym, arith}
use Rattle.ebpf_inline.proofs.Sections.{begin_fits, begin_next, begins_first}
use Rattle.ebpf_inline.proofs.data.data_begin.Goals as goal

pub loop-number-init : goal.loop-number-init
loop-number-init c = sym (begins_first (map (λ section. section.items) c.args.sections.now))

pub padded_length-begin-requires : goal.padded_length-begin-requires
padded_length-begin-requires c =
    let sections = map (λ section. section.items) c.args.sections.now in
    omega (
      arith,
      c.requires.few,
      c.section_length.ensures,
      begin_next sections c.loop-number.number,
      begin_fits sections (c.loop-number.number + 1),
    )

pub overflow_add-begin : goal.overflow_add-begin
overflow_add-begin c =
    let sections = map (λ section. section.items) c.args.sections.now in
    omega (
      arith,
      c.requires.few,
      c.loop-number.invariant,
      c.section_length.ensures,
      c.padded_length-begin.ensures,
      begin_next sections c.loop-number.number,
      begin_fits sections (c.loop-number.number + 1),
    )
