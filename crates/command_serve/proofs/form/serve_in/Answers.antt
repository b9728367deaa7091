use Rattle.std.proofs.Common.{◌≡◌, ap, refl, subst, sym}
use Rattle.device_serve.specs.FrameStream.{FrameReader}
use Rattle.device_serve.specs.Rounds.{on}
use Rattle.command_serve.specs.Streams.{ServesIn, end_of, frames, lines, seen, shelf}
use Rattle.command_serve.specs.declared.form.Form.{Form}
use Rattle.command_serve.proofs.Rounds.{comes, frames_become}
use Rattle.command_serve.proofs.form.serve_in.Goals as goal

pub returns-in-Frames-clause-becomes : goal.returns-in-Frames-clause-becomes
returns-in-Frames-clause-becomes g c =
    let became = frames_become g.K.Keep.has_kept g.K.Keep.becomes g.met.K.Keep.stays g.met.K.Keep.joins g.S.Store.told g.S.Store.settled
    (g.I.Read.remaining c.args.input.now) (g.I.Read.remaining c.serve-done.new.reader) c.serve-done.result
    (on c.over-codec.result c.args.kept.now.device.value (g.O.Write.contents c.args.out.now) (g.S.Store.disk c.args.kept.now.events))
    (on c.serve-done.new.codec c.serve-done.new.kept.device.value (g.O.Write.contents c.serve-done.new.out) (g.S.Store.disk c.serve-done.new.kept.events))
    c.serve-done.ensures.served c.serve-done.ensures.stopped in
    let begun : c.over-codec.result.keeper ≡ c.args.keeper = ap (λ (r : FrameReader g.row.K.Denot). r.keeper) c.over-codec.ensures.begun in
    subst (λ (k : g.row.K.Denot). g.K.Keep.becomes c.args.keeper k) (sym c.into_keeper.ensures)
    (subst (λ (k : g.row.K.Denot). g.K.Keep.becomes k c.serve-done.new.codec.keeper) begun became)

pub returns-in-Frames-clause-serves : goal.returns-in-Frames-clause-serves
returns-in-Frames-clause-serves g c =
    let kept = shelf g.S.Store.told g.S.Store.settled in
    let unread = g.I.Read.remaining c.args.input.now in
    let left = g.I.Read.remaining c.serve-done.new.reader in
    let old = seen c.args.kept.now.device.value (g.O.Write.contents c.args.out.now) (g.S.Store.disk c.args.kept.now.events) c.args.keeper in
    let new = seen c.serve-done.new.kept.device.value (g.O.Write.contents c.serve-done.new.out) (g.S.Store.disk c.serve-done.new.kept.events) c.into_keeper.result in
    subst (λ (form : Form). ServesIn g.K.Keep.has_kept g.K.Keep.becomes kept form unread (end_of c.serve-done.result left) old new) (sym c.in-Frames.is) (record {
      first = c.over-codec.result;
      begins = c.over-codec.ensures.begun;
      last = c.serve-done.new.codec;
      comes = comes (frames g.K.Keep.has_kept g.K.Keep.becomes c.in-Frames.turns) kept unread left c.serve-done.result
          (on c.over-codec.result old.state old.written old.disk) (on c.serve-done.new.codec new.state new.written new.disk)
          c.serve-done.ensures.served c.serve-done.ensures.stopped c.serve-done.ensures.blames;
      leaves = c.into_keeper.ensures;
    })

pub returns-in-Lines-clause-serves : goal.returns-in-Lines-clause-serves
returns-in-Lines-clause-serves g c =
    let kept = shelf g.S.Store.told g.S.Store.settled in
    let unread = g.I.Read.remaining c.args.input.now in
    let it = c.serve-done-in-Lines in
    let left = g.I.Read.remaining it.new.reader in
    let old = seen c.args.kept.now.device.value (g.O.Write.contents c.args.out.now) (g.S.Store.disk c.args.kept.now.events) c.args.keeper in
    let new = seen it.new.kept.device.value (g.O.Write.contents it.new.out) (g.S.Store.disk it.new.kept.events) c.args.keeper in
    subst (λ (form : Form). ServesIn g.K.Keep.has_kept g.K.Keep.becomes kept form unread (end_of it.result left) old new) (sym c.in-Lines.is) (record {
      first = c.in-Lines.codec;
      begins = refl;
      last = it.new.codec;
      comes = comes (lines {K = g.row.K.Denot} c.in-Lines.codec) kept unread left it.result
          (on c.in-Lines.codec old.state old.written old.disk) (on it.new.codec new.state new.written new.disk)
          it.ensures.served it.ensures.stopped it.ensures.blames;
      leaves = refl;
    })
