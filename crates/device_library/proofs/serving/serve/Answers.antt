use Rattle.device_library.specs.Serving.{DoesFrames, EndsFrames, Handed, StopsAtFrames, settled, site, told}
use Rattle.device_library.proofs.ServedRounds.{between_again, break_moments, then_either}
use Rattle.device_library.proofs.serving.serve.Goals as goal

pub returns-in-Ok-clause-between : goal.returns-in-Ok-clause-between
returns-in-Ok-clause-between c =
    let old : Handed = site c.args.device.now c.args.codec.now c.args.answer.now.items in
    let new : Handed = site c.serve_whole.new.kept c.serve_whole.new.codec c.serve_whole.new.out.items in
    between_again _ old new c.requires.between c.in-Ok.ensures.served c.serve_whole.ensures.ready

pub returns-in-Ok-clause-served : goal.returns-in-Ok-clause-served
returns-in-Ok-clause-served c =
    let old : Handed = site c.args.device.now c.args.codec.now c.args.answer.now.items in
    let new : Handed = site c.serve_whole.new.kept c.serve_whole.new.codec c.serve_whole.new.out.items in
    let serves = c.in-Ok.ensures.served in
    record {
      serves = serves;
      moments =
          then_either DoesFrames told settled c.crash_leaves_rounds.ensures serves.served.pieces old serves.mid new c.requires.kept.kept
          serves.served.rounds serves.last.moments;
    }

pub returns-in-Err-clause-stopped : goal.returns-in-Err-clause-stopped
returns-in-Err-clause-stopped c =
    let old : Handed = site c.args.device.now c.args.codec.now c.args.answer.now.items in
    let new : Handed = site c.serve_whole.new.kept c.serve_whole.new.codec c.serve_whole.new.out.items in
    let stops = c.in-Err.ensures.stopped in
    let breaks = stops.off in
    record {
      left = _;
      stops = stops;
      moments =
          then_either DoesFrames told settled c.crash_leaves_rounds.ensures breaks.served.pieces old breaks.mid new c.requires.kept.kept
          breaks.served.rounds (break_moments DoesFrames told settled EndsFrames StopsAtFrames _ _ breaks.mid new _ breaks.breaks);
    }
