use Rattle.device_serve.proofs.LineJoins.{does_on, stops_on}
use Rattle.device_serve.proofs.lines.LineCodecCodec.joins.Goals as goal

pub returns-clause-done : goal.returns-clause-done
returns-clause-done g c = λ a b d s t u before then after first later one two.
    does_on a b d s t u before then after first later one two

pub returns-clause-stopped : goal.returns-clause-stopped
returns-clause-stopped g c = λ a b d s t u before then after first later left why one two.
    stops_on a b d s t u before then after first later left why one two
