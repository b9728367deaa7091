use Rattle.std.proofs.Common.{List, ℕ, ◌++◌, ap, ◌∙◌}
use Rattle.tcp_pdus.proofs.Appended.{in_two}
use Rattle.tcp_pdus.proofs.sent.push_c2h_term_req.Goals as goal

pub returns-clause-added : goal.returns-clause-added
returns-clause-added c =
    in_two c.args.out.now.items c.append.new.out.items c.append-2.new.out.items _ c.args.header.now
    (c.append.ensures.added ∙ ap (λ (header : List ℕ). c.args.out.now.items ++ header) c.c2h_term_req_header.ensures) c.append-2.ensures.added
