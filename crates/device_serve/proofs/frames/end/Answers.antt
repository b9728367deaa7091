use Rattle.std.proofs.Common.{◌≡◌, true, [], List, ℕ, sym, subst, rules}
use Rattle.std.proofs.lemmas.Result.{err_from_is_err_and}
use Rattle.event_frames.specs.Frames.{reply_frame}
use Rattle.device_serve.specs.EndingRuns.{EndsSome}
use Rattle.device_serve.specs.FrameStream.{Stops, reader}
use Rattle.device_serve.specs.declared.fault.ServeFault.TheVariants as fault
use Rattle.device_serve.proofs.FrameTakes.{cut_off, ending_starved}
use Rattle.device_serve.proofs.frames.end.Goals as goal

pub returns-in_err-end-clause-stopped : goal.returns-in_err-end-clause-stopped
returns-in_err-end-clause-stopped g c = λ left at_end.
    let s = c.args.kept.now.device.value in
    let codec = reader c.args.codec.now.session c.args.codec.now.turns c.args.codec.now.ends_runs c.args.codec.now.keeper in
    let p = err_from_is_err_and c.from_residual.result c.from_residual.ensures.1 in
    rw (p.1, p.2) (subst (λ (x : List ℕ). Stops g.K.Keep.has_kept g.K.Keep.becomes codec s [] [] left codec s x (fault.Stream c.in_err-end.field-0.0))
    (sym c.requires.empty)
    (cut_off g.K.Keep.has_kept g.K.Keep.becomes c.args.codec.now.turns c.args.codec.now.ends_runs c.args.codec.now.session c.args.codec.now.keeper s
    (g.met.K.Keep.stays c.args.codec.now.keeper) c.in_err-end.field-0.0 [] left at_end c.requires.ready.partial
    (λ f was. let again = c.in_err-end.ensures.again f was in cc) (λ healthy. c.in_err-end.ensures.cut_off healthy)
    (λ healthy. c.in_err-end.ensures.some healthy)))

pub returns-in_err-end_runs-clause-stopped : goal.returns-in_err-end_runs-clause-stopped
returns-in_err-end_runs-clause-stopped g c = λ left at_end.
    let s = c.args.kept.now.device.value in
    let t = c.end_runs.new.kept.device.value in
    let after = c.end_runs.new.answer.items in
    let asked : c.args.codec.now.ends_runs ≡ true = search rules in
    let p = err_from_is_err_and c.from_residual-in_err-end_runs.result c.from_residual-in_err-end_runs.ensures.1 in
    rw (p.1, p.2) (ending_starved g.K.Keep.has_kept g.K.Keep.becomes c.args.codec.now.turns c.args.codec.now.ends_runs c.args.codec.now.session
    c.args.codec.now.keeper s (g.met.K.Keep.stays c.args.codec.now.keeper) t [] after left c.in_ok-end.ensures.whole asked at_end
    (subst (λ (x : List ℕ). EndsSome reply_frame s t x after) c.requires.empty c.in_err-end_runs.ensures.stopped))
