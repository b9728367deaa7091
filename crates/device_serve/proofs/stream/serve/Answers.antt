use Rattle.std.proofs.lemmas.Result.{err_from_is_err_and}
use Rattle.device_serve.specs.Rounds.{afresh, stops_afresh}
use Rattle.device_serve.specs.declared.fault.ServeFault.TheVariants as fault
use Rattle.device_serve.proofs.Serving.{stops_at_rest}
use Rattle.device_serve.proofs.Reading.{none_read, stops_in_round}
use Rattle.device_serve.proofs.stream.serve.Goals as goal

pub returns-in_err-buffer-clause-stopped : goal.returns-in_err-buffer-clause-stopped
returns-in_err-buffer-clause-stopped g c =
    let store = g.S.Store in
    let codec = g.C.Codec in
    let unread = g.R.Read.remaining c.args.reader.now in
    let s = c.args.kept.now.device.value in
    let d = store.disk c.args.kept.now.events in
    let p = err_from_is_err_and c.from_residual.result c.from_residual.ensures.1 in
    rw (p.1, p.2) (stops_in_round codec.does store.told store.settled codec.ends codec.stops unread unread _ _ _ fault.Memory
    (none_read codec.does store.told store.settled unread _)
    (stops_at_rest (afresh codec.does) store.told store.settled codec.ends (stops_afresh codec.stops) unread c.args.codec.now s (g.W.Write.contents c.args.out.now) d fault.Memory
    (g.met.C.Codec.starved c.args.codec.now s unread c.requires.ready)
    (λ file left. c.rests.ensures.stands s d file c.requires.settled left) c.requires.settled))
