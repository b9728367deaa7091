use Rattle.std.proofs.Common.{◌≡◌, ℕ, [], ◌∷◌, append-nil, Result, Ok, Err, OnOk, OnErr, subst, sym, arith}
use Rattle.std.specs.Io.KnownBytes.{Appends}
use Rattle.device_events.specs.Printed.{Printed}
use Rattle.common_definitions.specs.Failures.{CountsFailure}
use Rattle.device_events.specs.Replies.{ReplyWithData}
use Rattle.event_text.specs.Lines.{Took, printed_by, reply_line}
use Rattle.event_text.proofs.lines.LinesOut.TheImpl.Goals as goal

-- one writer, to which a line was printed, or one that failed
module _ {T E : Type 0} (old new : ℕ × Printed) (same : new.0 ≡ old.0) where
  line_taken : (result : Result T E) (given : ReplyWithData) → OnOk result (Appends old.1.bytes new.1.bytes (reply_line given))
      → CountsFailure old.1.refusals new.1.refusals result → OnOk result (Took old new (given ∷ []))
  line_taken (Err error) given printed count = tt
  line_taken (Ok value) given printed count = (
    same,
    record {
      no_fewer = omega (arith, count);
      texts = λ _. subst (Appends old.1.bytes new.1.bytes) (sym (append-nil (reply_line given))) printed;
    },
  )

  line_refused : (result : Result T E) → CountsFailure old.1.refusals new.1.refusals result → OnErr result (Took old new [])
  line_refused (Ok value) count = tt
  line_refused (Err error) count = (same, record { no_fewer = omega (arith, count); texts = λ none. absurd (omega (arith, count, none)) })

pub take-tells : goal.take-tells
take-tells g c =
    let old : ℕ × Printed = printed_by g.W.Write.contents c.args.self.now in
    let new : ℕ × Printed = printed_by g.W.Write.contents c.new.self.now in
    let given : ReplyWithData = record { reply = c.args.reply; bytes = c.args.bytes.now } in
    record {
      ok = line_taken old new c.ensures.same_writer c.result given c.ensures.printed c.ensures.count;
      err = line_refused old new c.ensures.same_writer c.result c.ensures.count;
      count = c.ensures.count;
    }
