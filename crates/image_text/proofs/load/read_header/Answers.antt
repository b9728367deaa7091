use Rattle.image_text.proofs.Faults.{counts_last}
use Rattle.image_text.proofs.LoadStages.{header_given, header_no_stream}
use Rattle.image_text.proofs.load.read_header.Goals as goal

pub returns-clause-header : goal.returns-clause-header
returns-clause-header g c =
    λ told. header_given c.decode.result c.fill.new.to (g.R.Source.rest c.fill.new.source) (g.R.Source.rest c.args.source.now) (c.in_ok-fill.ensures.bytes told) c.decode.ensures

pub returns-clause-failures : goal.returns-clause-failures
returns-clause-failures g c =
    counts_last (g.R.Source.failures c.args.source.now) (g.R.Source.failures c.fill.new.source) c.decode.result (header_no_stream c.decode.result c.fill.new.to c.decode.ensures) c.in_ok-fill.ensures.failures
