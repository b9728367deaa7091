use Rattle.std.proofs.Common.{ap, ◌∙◌}
use Rattle.tcp_admin.specs.Identify.{admin_fields, controller_fields, fabrics_fields, name_fields, queue_fields}
use Rattle.tcp_admin.specs.Pages.{laid}
use Rattle.tcp_admin.proofs.structures.controller.Goals as goal

pub returns : goal.returns
returns c =
    c.put_fabrics.ensures
    ∙ ap (laid (fabrics_fields c.args.subsystem.now))
    (c.put_queues.ensures
    ∙ ap (laid queue_fields)
    (c.put_admin.ensures
    ∙ ap (laid admin_fields)
    (c.put_controller.ensures
    ∙ ap (laid (controller_fields c.args.id))
    (c.put_names.ensures ∙ ap (laid (name_fields c.args.subsystem.now)) c.zero_page-page.ensures))))
