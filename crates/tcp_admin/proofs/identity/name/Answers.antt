use Rattle.std.proofs.Common.{ℕ, ◌≤◌, List, length, subst, sym, ◌∙◌}
use Rattle.tcp_admin.proofs.Names.{short}
use Rattle.tcp_admin.proofs.identity.name.Goals as goal

pub new-requires : goal.new-requires
new-requires c =
    subst (λ (name : List ℕ). length name ≤ 223) (sym (c.as_slice.ensures.value ∙ c.in_ok-bytes.ensures)) (short c.args.uuid.now c.requires)
