use Rattle.std.proofs.Common.{rules}
use Rattle.image_store.specs.Geometry.{IsShape}
use Rattle.image_text.proofs.Faults.{counts_last}
use Rattle.image_text.proofs.LoadStages.{rows_fit}
use Rattle.image_text.proofs.load.read_zone_rows.Goals as goal

pub returns-clause-fit : goal.returns-clause-fit
returns-clause-fit g c =
    let known : IsShape c.args.geometry = search rules in
    let read = rw (c.capacity.ensures, c.zones-count.ensures) at c.decode_all.ensures.zones in
    rows_fit (λ zones. zones.items) c.args.geometry c.decode_all.result c.deref.result.now known read

pub returns-clause-failures : goal.returns-clause-failures
returns-clause-failures g c =
    counts_last (g.R.Source.failures c.args.source.now) (g.R.Source.failures c.fill.new.source) c.decode_all.result c.decode_all.ensures.no_stream c.in_ok-fill.ensures.failures
