use Rattle.device_serve.specs.Rounds.{afresh}
use Rattle.device_serve.proofs.Serving.{crash}
use Rattle.device_serve.proofs.laws.crash_leaves_rounds.Goals as goal

pub returns : goal.returns
returns g c = λ pieces old new rests rounds.
    let store = g.S.Store in
    crash (afresh g.C.Codec.does) store.told store.settled pieces old new (λ s file on_disk left. c.rests.ensures.stands s.state s.disk file on_disk left) rests rounds
