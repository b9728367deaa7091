use Rattle.std.proofs.Common.{◌≡◌, ℕ, [], ◌∷◌, append-nil, Result, Ok, Err, OnOk, OnErr, subst, sym, arith}
use Rattle.std.specs.Io.KnownBytes.{Appends}
use Rattle.device_events.specs.Printed.{Printed}
use Rattle.common_definitions.specs.Failures.{CountsFailure}
use Rattle.device_events.specs.Replies.{ReplyWithData}
use Rattle.event_frames.specs.Written.{Took, written_by}
use Rattle.event_frames.specs.Frames.{reply_frame}
use Rattle.event_frames.proofs.replies.FramesOut.TheImpl.Goals as goal

-- one writer, to which a frame was written, or one that failed
module _ {T E : Type 0} (old new : ℕ × Printed) (same : new.0 ≡ old.0) where
  frame_taken : (result : Result T E) (given : ReplyWithData) → OnOk result (Appends old.1.bytes new.1.bytes (reply_frame given))
      → CountsFailure old.1.refusals new.1.refusals result → OnOk result (Took old new (given ∷ []))
  frame_taken (Err error) given printed count = tt
  frame_taken (Ok value) given printed count = (
    same,
    record {
      no_fewer = omega (arith, count);
      texts = λ _. subst (Appends old.1.bytes new.1.bytes) (sym (append-nil (reply_frame given))) printed;
    },
  )

  frame_refused : (result : Result T E) → CountsFailure old.1.refusals new.1.refusals result → OnErr result (Took old new [])
  frame_refused (Ok value) count = tt
  frame_refused (Err error) count = (same, record { no_fewer = omega (arith, count); texts = λ none. absurd (omega (arith, count, none)) })

pub take-tells : goal.take-tells
take-tells g c =
    let old : ℕ × Printed = written_by g.W.Write.contents c.args.self.now in
    let new : ℕ × Printed = written_by g.W.Write.contents c.new.self.now in
    let given : ReplyWithData = record { reply = c.args.reply; bytes = c.args.bytes.now } in
    record {
      ok = frame_taken old new c.ensures.same_writer c.result given c.ensures.written c.ensures.count;
      err = frame_refused old new c.ensures.same_writer c.result c.ensures.count;
      count = c.ensures.count;
    }
