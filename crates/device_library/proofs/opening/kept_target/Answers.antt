use Rattle.std.proofs.Common.{ap, refl, subst, ◌∙◌}
use Rattle.image_store.specs.Namespace.{shape}
use Rattle.tcp_device.specs.Format.{IsFormatOf}
use Rattle.device_library.proofs.opening.kept_target.Goals as goal

pub returns-clause-served : goal.returns-clause-served
returns-clause-served c =
    record {
      subsystem = c.in_ok-subsystem.field-0;
      format = c.format_of-format.result;
      format_is =
          subst (λ (g : _). IsFormatOf g c.format_of-format.result) (c.geometry.ensures.value ∙ ap shape c.image.ensures.value)
          c.format_of-format.ensures;
      begins = c.in_ok-served.ensures.served;
      keeper = c.in_ok-served.keeper;
      kept = refl;
      usable = refl;
      journal_is = c.in_ok-served.ensures.journal;
      is_kept = c.requires;
    }
