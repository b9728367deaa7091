use Rattle.device_serve.specs.FrameStream.{reader}
use Rattle.device_serve.proofs.FrameSteps.{does_on, stops_on}
use Rattle.device_serve.proofs.frames.FrameCodecCodec.joins.Goals as goal

pub returns-clause-done : goal.returns-clause-done
returns-clause-done g c = λ a b d s t u before then after first later one two.
    does_on g.K.Keep.has_kept g.K.Keep.becomes g.met.K.Keep.joins (reader a.session a.turns a.ends_runs a.keeper)
    (reader b.session b.turns b.ends_runs b.keeper) s t before then first one (reader d.session d.turns d.ends_runs d.keeper) u after later two

pub returns-clause-stopped : goal.returns-clause-stopped
returns-clause-stopped g c = λ a b d s t u before then after first later left why one two.
    stops_on g.K.Keep.has_kept g.K.Keep.becomes g.met.K.Keep.joins (reader a.session a.turns a.ends_runs a.keeper)
    (reader b.session b.turns b.ends_runs b.keeper) s t before then first one (reader d.session d.turns d.ends_runs d.keeper) u after later left why two
