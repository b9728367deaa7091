use Rattle.command_images.specs.Images.{image_of}
use Rattle.command_images.proofs.Listing.{after_printing, prints_zones}
use Rattle.command_images.proofs.zones.zones.Goals as goal

pub returns-clause-printed : goal.returns-clause-printed
returns-clause-printed g c =
    after_printing c.print.result c.printed.result _ c.printed.ensures.err
    (prints_zones g.F.Reader.Source.tells c.print.result (g.F.Files.contents c.args.files.now) c.in_ok-found.found.table.geometry c.required.result.now (image_of c.args.matches.now)
    c.in_ok-found.found.table.zones.items c.deref.result.now (g.O.Write.contents c.args.out.now) (g.O.Write.contents c.print.new.out) c.required.ensures
    c.deref.ensures.value c.in_ok-found.ensures.table c.print.ensures)
