-- Rounds of lines, one after another.
use Rattle.std.proofs.Common.{◌≡◌, ℕ, ◌-◌, ◌^◌, ◌≤◌, Bool, true, false, List, [], ◌∷◌, ◌++◌, append-nil, append_assoc, take, Option, inl, inr, ap, subst, sym, ◌∙◌, arith}
use Rattle.std.specs.Prelude.{flat_map}
use Rattle.std.specs.Io.KnownBytes.{Appends}
use Rattle.std.proofs.KnownBytes.{Appends-nil, Appends-trans}
use Rattle.stored_file.specs.File.{FileState}
use Rattle.device_events.specs.Replies.{ReplyWithData}
use Rattle.device_events.specs.declared.event.Event.{Event}
use Rattle.device_meaning.specs.Draining.{replies_to_turns}
use Rattle.device_meaning.specs.State.{State}
use Rattle.event_text.specs.CommandFile.{events_in}
use Rattle.event_text.specs.Lines.{reply_line}
use Rattle.device_serve.specs.EndingRuns.{EndsSome}
use Rattle.device_serve.specs.LineLaws.{lines_rest}
use Rattle.device_serve.specs.LineStream.{Begins, BeforeLine, Does, DoesLines, DoesLinesAfter, HasAnswered, InLine, InTurns, ServesFirst, Starves, StarvesAfter, StopsIn, StopsLines, StopsLinesAfter, Unanswered, ends_in}
use Rattle.device_serve.specs.LineSteps.{ServesText}
use Rattle.device_serve.specs.Rounds.{AreRounds, InRounds, Site, laid}
use Rattle.device_serve.specs.WholeLines.{IsFirst, LinesAreServed, LinesStop}
use Rattle.device_serve.specs.declared.fault.ServeFault.{ServeFault}
use Rattle.device_serve.specs.declared.fault.ServeFault.TheVariants as fault
use Rattle.device_serve.specs.declared.lines.LineCodec.{LineCodec}
use Rattle.device_serve.proofs.LineJoins.{does_on, stops_on}
use Rattle.device_serve.proofs.LinePieces.{texts_join}

-- ---- what answers, after what answered before

answered_after : (early before after : List ℕ) (replies : List ReplyWithData) → HasAnswered before after replies
    → HasAnswered (early ++ before) (early ++ after) replies
answered_after early before after replies is =
    ap (λ (x : List ℕ). early ++ x) is ∙ sym (append_assoc early before (flat_map reply_line replies))

does_after : (drains : Bool) (events : List Event) (old new : State) (early before after : List ℕ)
    → Does drains events old new (HasAnswered before after) → Does drains events old new (HasAnswered (early ++ before) (early ++ after))
does_after false events old new early before after did = record {
  occurrences = did.occurrences;
  are = did.are;
  state = did.state;
  replies = answered_after early before after _ did.replies;
}
does_after true events old new early before after did =
    record { replies = did.replies; each = did.each; taken = answered_after early before after did.replies did.taken }

first_after : (drains : Bool) (text : List ℕ) (count : ℕ) (old new : State) (early before after : List ℕ)
    → ServesFirst drains text count old new before after → ServesFirst drains text count old new (early ++ before) (early ++ after)
first_after drains text count old new early before after first = record {
  within = first.within;
  events = first.events;
  told = first.told;
  done = does_after drains first.events old new early before after first.done;
}

some_after : (old new : State) (early before after : List ℕ) → EndsSome reply_line old new before after
    → EndsSome reply_line old new (early ++ before) (early ++ after)
some_after old new early before after some = record {
  runs = some.runs;
  lowest = some.lowest;
  state = some.state;
  answered = some.answered;
  within = some.within;
  all_but_one = some.all_but_one;
  answers = answered_after early before after (replies_to_turns (take some.answered some.runs) old) some.answers;
}

begins_after : (drains : Bool) (e : Event) (old new : State) (early before after : List ℕ) → Begins drains e old new before after
    → Begins drains e old new (early ++ before) (early ++ after)
begins_after drains e old new early before after (Unanswered done silent) = Unanswered done (ap (λ (x : List ℕ). early ++ x) silent)
begins_after drains e old new early before after (InTurns asked between then done given) =
    InTurns asked between (early ++ then)
    (record {
      occurrences = done.occurrences;
      are = done.are;
      state = done.state;
      replies = answered_after early before then _ done.replies;
    })
    (some_after between new early then after given)

starves_after : (drains : Bool) (text : List ℕ) (old new : State) (early before after : List ℕ) → Starves drains text old new before after
    → Starves drains text old new (early ++ before) (early ++ after)
starves_after drains text old new early before after (BeforeLine count first) =
    BeforeLine count (first_after drains text count old new early before after first)
starves_after drains text old new early before after (InLine count begun) = InLine count (record {
  within = begun.within;
  events = begun.events;
  last = begun.last;
  told = begun.told;
  between = begun.between;
  then = early ++ begun.then;
  done = does_after drains begun.events old begun.between early before begun.then begun.done;
  begun = begins_after drains begun.last begun.between new early begun.then after begun.begun;
})

-- ---- bytes after others

module _ (m : LineCodec) (between : State) (early : List ℕ) where
  -- what is done where nothing was answered before, is done after other answers too
  does_later : (next : List ℕ) (n : LineCodec) (new : State) (late : List ℕ) → DoesLines m between next n new late
      → DoesLinesAfter m between early next n new (early ++ late)
  does_later next n new late e = record {
    text = e.text;
    parts = e.parts;
    ended = e.ended;
    events = e.events;
    told = e.told;
    counted_is = e.counted_is;
    done = subst (λ (before : List ℕ). Does m.doer.drains e.events between new (HasAnswered before (early ++ late))) (append-nil early)
        (does_after m.doer.drains e.events between new early [] late e.done);
    drains = e.drains;
  }

  first_later : (text : List ℕ) (count : ℕ) (new : State) (late : List ℕ) → ServesFirst m.doer.drains text count between new [] late
      → ServesFirst m.doer.drains text count between new early (early ++ late)
  first_later text count new late first =
      subst (λ (before : List ℕ). ServesFirst m.doer.drains text count between new before (early ++ late)) (append-nil early)
      (first_after m.doer.drains text count between new early [] late first)

  starves_later : (text : List ℕ) (new : State) (late : List ℕ) → Starves m.doer.drains text between new [] late
      → Starves m.doer.drains text between new early (early ++ late)
  starves_later text new late starves =
      subst (λ (before : List ℕ). Starves m.doer.drains text between new before (early ++ late)) (append-nil early)
      (starves_after m.doer.drains text between new early [] late starves)

  starved_later : (text : List ℕ) (new : State) (late : List ℕ) → StarvesAfter m.doer.drains text between new [] late
      → StarvesAfter m.doer.drains text between new early (early ++ late)
  starved_later text new late some = record {
    events = some.events;
    told = some.told;
    between = some.between;
    then = early ++ some.then;
    done = subst (λ (before : List ℕ). Does m.doer.drains some.events between some.between (HasAnswered before (early ++ some.then)))
        (append-nil early) (does_after m.doer.drains some.events between some.between early [] some.then some.done);
    given = some_after some.between new early some.then late some.given;
  }

  stops_later : (next : List ℕ) (left : Option (List ℕ)) (n : LineCodec) (new : State) (late : List ℕ) (why : ServeFault)
      → StopsLines m between next left n new late why → StopsLinesAfter m between early next left n new (early ++ late) why
  stops_later next left n new late (fault.Line number cause) stopped = record {
    count = stopped.count;
    rejected = stopped.rejected;
    number_is = stopped.number_is;
    served = first_later (m.unended.items ++ next) stopped.count new late stopped.served;
  }
  stops_later next left n new late fault.Read stopped = first_later (m.unended.items ++ next) (ends_in (m.unended.items ++ next)) new late stopped
  stops_later next left n new late fault.Memory (inl starved) = inl (starves_later (m.unended.items ++ next) new late starved)
  stops_later next left n new late fault.Memory (inr (end, some)) = inr (end, starved_later (m.unended.items ++ next) new late some)
  stops_later next left n new late (fault.Stream cause) stopped = absurd stopped
  stops_later next left n new late fault.Write stopped = absurd stopped
  stops_later next left n new late fault.Save stopped = absurd stopped
  stops_later next left n new late fault.Disk stopped = absurd stopped

module _ (a m : LineCodec) (s between : State) (bytes early : List ℕ) (d : DoesLines a s bytes m between early) where
  pub does_join : (n : LineCodec) (new : State) (next late : List ℕ) → DoesLines m between next n new late
      → DoesLines a s (bytes ++ next) n new (early ++ late)
  does_join n new next late e =
      does_on a m n s between new [] early (early ++ late) bytes next d (does_later m between early next n new late e)

  -- where it stops for the next, it stops for both
  pub stops_join : (next : List ℕ) (left : Option (List ℕ)) (n : LineCodec) (new : State) (late : List ℕ) (why : ServeFault)
      → StopsLines m between next left n new late why → StopsLines a s (bytes ++ next) left n new (early ++ late) why
  stops_join next left n new late why stopped =
      stops_on a m n s between new [] early (early ++ late) bytes next left why d (stops_later m between early next left n new late why stopped)

-- ---- rounds

module _ {D : Type 0} (told : D → FileState) (settled : State → D → Type 0) where
  -- what rounds come to
  record Rounds (bytes : List ℕ) (old new : Site LineCodec D) : Type 0 where
    answers : List ℕ
    done : DoesLines old.codec old.state bytes new.codec new.state answers
    written : Appends old.written new.written answers

  few_after : (a n : LineCodec) (s s' : State) (bytes answers : List ℕ) → DoesLines a s bytes n s' answers → n.count ≤ 2 ^ 64 - 1
  few_after a n s s' bytes answers d = omega (arith, d.counted_is)

  rounds_done : (pieces : List (List ℕ)) (old new : Site LineCodec D) → old.codec.count ≤ 2 ^ 64 - 1
      → AreRounds DoesLines told settled pieces old new → Rounds (laid pieces) old new
  rounds_done [] old new few same =
      subst (λ (site : Site LineCodec D). Rounds [] old site) (sym same)
      (record { answers = []; done = lines_rest old.codec old.state few; written = Appends-nil old.written })
  rounds_done (piece ∷ pieces) old new few (mid, round, later) =
      let rest = rounds_done pieces mid new (few_after old.codec mid.codec old.state mid.state piece round.answers round.done) later in
      record {
        answers = round.answers ++ rest.answers;
        done = does_join old.codec mid.codec old.state mid.state piece round.answers round.done new.codec new.state (laid pieces) rest.answers rest.done;
        written = Appends-trans old.written mid.written new.written round.answers rest.answers round.written rest.written;
      }

  in_rounds : (bytes : List ℕ) (old new : Site LineCodec D) → IsFirst old.codec → InRounds DoesLines told settled bytes old new → Rounds bytes old new
  in_rounds bytes old new first rounds =
      subst (λ (all : List ℕ). Rounds all old new) (sym rounds.are)
      (rounds_done rounds.pieces old new (omega (arith, first.count)) rounds.rounds)

  pub lines_stop : LinesStop told settled
  lines_stop first next left old mid new state late why is_first served stopped =
      let did = in_rounds first old mid is_first served in
      record {
        early = did.answers;
        written = did.written;
        stopped =
            subst (λ (count : ℕ). StopsIn old.codec.doer.drains (first ++ next) count left why old.state state [] (did.answers ++ late)) is_first.count
            (subst (λ (text : List ℕ). StopsIn old.codec.doer.drains (text ++ (first ++ next)) old.codec.count left why old.state state []
            (did.answers ++ late)) is_first.unended
            (stops_join old.codec mid.codec old.state mid.state first did.answers did.done next left new state late why stopped));
      }

  pub lines_are_served : LinesAreServed told settled
  lines_are_served unread old new is_first served =
      let mid = served.mid in
      let did = in_rounds served.bytes old mid is_first served.served in
      let d = did.done in
      let last = served.last in
      let e = last.done in
      let drains = old.codec.doer.drains in
      let second : ServesText drains mid.codec.unended.items mid.codec.count new.codec.count mid.state e.between did.answers (did.answers ++ e.then) =
      record {
        events = e.events;
        told = e.told;
        counted_is = e.counted_is;
        done = subst (λ (before : List ℕ). Does drains e.events mid.state e.between (HasAnswered before (did.answers ++ e.then))) (append-nil did.answers)
            (does_after drains e.events mid.state e.between did.answers [] e.then
            (subst (λ (b : Bool). Does b e.events mid.state e.between (HasAnswered [] e.then)) d.drains e.done));
      } in
      let both = texts_join drains d.text mid.codec.unended.items old.codec.count mid.codec.count old.state mid.state [] did.answers
      (record { events = d.events; told = d.told; counted_is = d.counted_is; done = d.done }) d.ended new.codec.count e.between
      (did.answers ++ e.then) second in
      let whole : served.bytes ≡ d.text ++ mid.codec.unended.items = ap (λ (x : List ℕ). x ++ served.bytes) (sym is_first.unended) ∙ d.parts in
      record {
        text = served.bytes;
        all = served.all;
        events = both.events;
        told = ap events_in whole ∙ both.told;
        between = e.between;
        then = did.answers ++ e.then;
        done = both.done;
        answers = did.answers ++ last.answers;
        drained = record {
          runs = e.drained.runs;
          drains = e.drained.drains;
          state = e.drained.state;
          replies = answered_after did.answers e.then last.answers (replies_to_turns e.drained.runs e.between) e.drained.replies;
        };
        written = Appends-trans old.written mid.written new.written did.answers last.answers did.written last.written;
      }
