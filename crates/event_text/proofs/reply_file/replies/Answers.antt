use Rattle.std.proofs.Common.{arith}
use Rattle.event_text.proofs.ReplyLemmas.{one_more_given, one_more_whole, reply_read}
use Rattle.event_text.proofs.reply_file.replies.Goals as goal

pub loop-rest-preserved : goal.loop-rest-preserved
loop-rest-preserved c =
    let pushed = c.in_ok-push-in-Ok.ensures.items in
    record {
      read = rw pushed (reply_read _ _ _ _ c.in-Ok.reply _ c.loop-rest.invariant.read c.first_line.ensures.lines c.in-Ok.ensures.spelled);
      whole = rw pushed (one_more_whole c.loop-rest.told.items c.in-Ok.reply c.loop-rest.invariant.whole c.in-Ok.ensures.whole);
      given = rw pushed (one_more_given c.loop-rest.told.items c.in-Ok.reply c.loop-rest.invariant.given c.in-Ok.ensures.given);
      counted = omega (arith, c.first_line.ensures.shorter);
    }
