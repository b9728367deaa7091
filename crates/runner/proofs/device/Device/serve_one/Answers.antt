use Rattle.std.proofs.Common.{[], ◌∷◌, take, subst}
use Rattle.std.specs.Prelude.{OnOk}
use Rattle.device_events.specs.Replies.{ReplyWithData, data_length}
use Rattle.runner.proofs.Served.{with_data}
use Rattle.runner.proofs.device.Device.serve_one.Goals as goal

pub returns-clause-served : goal.returns-clause-served
returns-clause-served g c =
    let out = g.O.Out in
    let applied = c.apply-reply in
    let given = with_data applied.result c.data_length.result applied.new.output c.data_length.ensures in
    record {
      reply = record { reply = applied.result; bytes = take (data_length applied.result) applied.new.output };
      happened = applied.ensures.happened;
      taken = subst (λ (x : ReplyWithData). OnOk c.take.result (out.took c.args.out.now c.take.new.self (x ∷ []))) given c.take.ensures.ok;
      refused = c.take.ensures.err;
    }
