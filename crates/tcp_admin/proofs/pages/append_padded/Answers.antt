use Rattle.std.proofs.Common.{ℕ, ◌-◌, List, ◌++◌, replicate, take, ap, ◌∙◌, append_assoc, arith}
use Rattle.tcp_admin.proofs.Parts.{part_in_two}
use Rattle.tcp_admin.proofs.pages.append_padded.Goals as goal

pub returns-clause-added : goal.returns-clause-added
returns-clause-added c =
    let given : ℕ = c.min-given.result in
    let out : List ℕ = c.args.out.now.items in
    let bytes : List ℕ = c.args.bytes.now in
    let rest : List ℕ = replicate (c.args.size - given) 0 in
    record {
      added =
          c.append_zeros.ensures.added.added ∙ ap (λ (front : List ℕ). front ++ rest) c.append.ensures.added.added
          ∙ append_assoc out (take given bytes) rest
          ∙ ap (λ (part : List ℕ). out ++ part) (part_in_two c.args.size given bytes c.min-given.ensures);
      room = omega (arith, c.append.ensures.added.room, c.append_zeros.ensures.added.room);
    }
