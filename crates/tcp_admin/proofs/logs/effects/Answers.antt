use Rattle.std.proofs.Common.{Bool, sym, ap, ◌∙◌, eq-eqb}
use Rattle.tcp_admin.specs.Logs.{admin_commands, effects_fields, program_commands, zoned_commands}
use Rattle.tcp_admin.specs.Pages.{laid, page}
use Rattle.tcp_admin.proofs.logs.effects.Goals as goal

pub returns-then-csi-eq-ZONED : goal.returns-then-csi-eq-ZONED
returns-then-csi-eq-ZONED c =
    c.put_program_commands.ensures
    ∙ ap (laid program_commands)
    (c.put_zoned_commands.ensures
    ∙ ap (laid zoned_commands) (c.put_admin_commands.ensures ∙ ap (laid admin_commands) c.zero_page-page.ensures))
    ∙ ap (λ (is_zoned : Bool). page 4096 (effects_fields is_zoned)) (sym (eq-eqb c.args.csi 2 c.if-csi-eq-ZONED.true))
