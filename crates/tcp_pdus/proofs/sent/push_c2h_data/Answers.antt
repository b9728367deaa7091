use Rattle.std.proofs.Common.{List, ℕ, ◌++◌, ◌-◌, replicate, ap, ◌∙◌}
use Rattle.tcp_pdus.proofs.Appended.{in_three}
use Rattle.tcp_pdus.proofs.sent.push_c2h_data.Goals as goal

pub returns-clause-added : goal.returns-clause-added
returns-clause-added c =
    in_three c.args.out.now.items c.append.new.out.items c.append_zeros.new.out.items c.append-2.new.out.items _ _ c.args.bytes.now
    (c.append.ensures.added ∙ ap (λ (header : List ℕ). c.args.out.now.items ++ header) c.c2h_data_header.ensures)
    (c.append_zeros.ensures.added ∙ ap (λ (begin : ℕ). c.append.new.out.items ++ replicate (begin - 24) 0) c.data_begin.ensures) c.append-2.ensures.added
