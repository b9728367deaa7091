use Rattle.std.proofs.Common.{ℕ, List, [], ◌∷◌, ap, ◌∙◌}
use Rattle.common_definitions.specs.Bytes.{spliced}
use Rattle.tcp_admin.specs.Identify.{size_fields}
use Rattle.tcp_admin.specs.Pages.{laid}
use Rattle.tcp_admin.proofs.structures.namespace.Goals as goal

pub returns : goal.returns
returns c =
    let format = c.args.format.now in
    c.put-3.ensures
    ∙ ap (λ (page : List ℕ). spliced 130 (format.block_size_log2 ∷ []) page)
    (c.put-2.ensures
    ∙ ap (λ (page : List ℕ). spliced 104 c.args.subsystem.now.nguid page)
    (c.put.ensures
    ∙ ap (λ (page : List ℕ). spliced 30 (1 ∷ []) page)
    (c.put_sizes.ensures ∙ ap (laid (size_fields format)) c.zero_page-page.ensures)))
