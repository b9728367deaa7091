-- A stream of lines, piece by piece.
use Rattle.std.proofs.Common.{◌≡◌, ℕ, ◌+◌, ◌<◌, ◌≤◌, Bool, List, [], ◌∷◌, ◌++◌, append_assoc, eqb, get_or, ltb, length, length-append, map, take, Some, Result, Ok, Err, ap, subst, sym, ◌∙◌, arith}
use Rattle.std.specs.List.{after_first, before_first, position_or_len}
use Rattle.std.proofs.lemmas.Bool.{eqb-true, ltb-true}
use Rattle.std.proofs.lemmas.List.{take-append-le}
use Rattle.std.proofs.lemmas.List.Sums.{passes_at_first, split_at_first}
use Rattle.std.proofs.lemmas.Option.{cond_some}
use Rattle.std.proofs.Math.Seq.{take-append-add, take-append_seam}
use Rattle.std.specs.Str.Lines.{lines}
use Rattle.device_events.specs.declared.event.Event.{Event}
use Rattle.device_meaning.specs.State.{State}
use Rattle.text_lines.specs.Cut.{cut_at}
use Rattle.device_events.specs.ToldEvents.{ToldEvent, told_of}
use Rattle.event_text.specs.CommandFile.{events_from}
use Rattle.event_text.specs.Laws.{ended, told_by_both}
use Rattle.event_text.proofs.Proved.{events_joined, lines-behind}
use Rattle.device_serve.specs.LineStream.{BeforeLine, BeginsLast, FailsIn, InLine, IsEnded, ServesFirst, counted}
use Rattle.device_serve.specs.LineSteps.{ServesPiece, ServesText}
use Rattle.device_serve.specs.declared.fault.ServeFault.{ServeFault}
use Rattle.device_serve.specs.declared.fault.ServeFault.TheVariants as fault
use Rattle.device_serve.proofs.LineDoing.{does_more}
use Rattle.device_serve.proofs.LineTexts.{counted_more, told_more, told_rejected}

-- ---- texts that end at a line's end

pub ended_join : (first second : List ℕ) → IsEnded first → IsEnded second → IsEnded (first ++ second)
ended_join first second a b follows =
    ap lines (append_assoc first second follows) ∙ a (second ++ follows) ∙ ap (λ (ls : List (List ℕ)). lines first ++ ls) (b follows)
    ∙ sym (append_assoc (lines first) (lines second) (lines follows)) ∙ ap (λ (ls : List (List ℕ)). ls ++ lines follows) (sym (a second))

-- ---- a text after another

module _ (drains : Bool) (text second : List ℕ) (before count : ℕ) (old between : State) (written then : List ℕ)
    (first : ServesText drains text before count old between written then) (is_ended : IsEnded text) where
  -- the lines of the first text, and then so many of the second
  in_both : (n : ℕ) → take (length (lines text) + n) (lines (text ++ second)) ≡ lines text ++ take n (lines second)
  in_both n = ap (take (length (lines text) + n)) (is_ended second) ∙ take-append-add (lines text) (lines second) n

  both_counted : (n : ℕ) → counted count n ≡ counted before (length (lines text) + n)
  both_counted n = ap (λ (c : ℕ). counted c n) first.counted_is ∙ counted_more before (length (lines text)) n

  both_long : length (lines (text ++ second)) ≡ length (lines text) + length (lines second)
  both_long = ap length (is_ended second) ∙ length-append (lines text) (lines second)

  pub texts_join : (next : ℕ) (new : State) (after : List ℕ) → ServesText drains second count next between new then after
      → ServesText drains (text ++ second) before next old new written after
  texts_join next new after later = record {
    events = first.events ++ later.events;
    told = ap (events_from 1) (is_ended second) ∙ told_more (lines text) (lines second) first.events later.events first.told later.told;
    counted_is = later.counted_is ∙ both_counted (length (lines second)) ∙ ap (counted before) (sym both_long);
    done = does_more drains first.events later.events old between new written then after first.done later.done;
  }

  pub first_join : (n : ℕ) (new : State) (after : List ℕ) → ServesFirst drains second n between new then after
      → ServesFirst drains (text ++ second) (length (lines text) + n) old new written after
  first_join n new after later = record {
    within = omega (arith, later.within, both_long);
    events = first.events ++ later.events;
    told = ap (events_from 1) (in_both n) ∙ told_more (lines text) (take n (lines second)) first.events later.events first.told later.told;
    done = does_more drains first.events later.events old between new written then after first.done later.done;
  }

  last_join : (n : ℕ) (new : State) (after : List ℕ) → BeginsLast drains second n between new then after
      → BeginsLast drains (text ++ second) (length (lines text) + n) old new written after
  last_join n new after later = record {
    within = omega (arith, later.within, both_long);
    events = first.events ++ later.events;
    last = later.last;
    told =
        ap (events_from 1) (in_both n)
        ∙ told_more (lines text) (take n (lines second)) first.events (later.events ++ later.last ∷ []) first.told later.told
        ∙ ap (λ (es : List Event). Ok (map told_of es)) (sym (append_assoc first.events later.events (later.last ∷ [])));
    between = later.between;
    then = later.then;
    done = does_more drains first.events later.events old between later.between written then later.then first.done later.done;
    begun = later.begun;
  }

  pub text_fails : (fault : ServeFault) (new : State) (after : List ℕ) → FailsIn drains second count fault between new then after
      → FailsIn drains (text ++ second) before fault old new written after
  text_fails (fault.Line number cause) new after failed = record {
    count = length (lines text) + failed.count;
    rejected =
        ap (events_from 1) (is_ended second) ∙ told_rejected (lines text) (lines second) first.events (failed.count + 1) first.told failed.rejected
        ∙ ap Err (let same : length (lines text) + (failed.count + 1) ≡ length (lines text) + failed.count + 1 = omega arith in same);
    number_is = failed.number_is ∙ both_counted (failed.count + 1)
        ∙ ap (counted before) (let same : length (lines text) + (failed.count + 1) ≡ length (lines text) + failed.count + 1 = omega arith in same);
    served = first_join failed.count new after failed.served;
  }
  text_fails fault.Memory new after (BeforeLine n later) = BeforeLine (length (lines text) + n) (first_join n new after later)
  text_fails fault.Memory new after (InLine n later) = InLine (length (lines text) + n) (last_join n new after later)
  text_fails fault.Read new after failed = absurd failed
  text_fails (fault.Stream why) new after failed = absurd failed
  text_fails fault.Write new after failed = absurd failed
  text_fails fault.Save new after failed = absurd failed
  text_fails fault.Disk new after failed = absurd failed

  -- the first text was served, and nothing of the second
  pub first_served : ServesFirst drains (text ++ second) (length (lines text)) old between written then
  first_served = record {
    within = omega (arith, both_long);
    events = first.events;
    told = ap (events_from 1) (ap (take (length (lines text))) (is_ended second) ∙ take-append_seam (lines text) (lines second)) ∙ first.told;
    done = first.done;
  }

-- a text that fails, whatever follows it
module _ (drains : Bool) (text behind : List ℕ) (before : ℕ) (old new : State) (written after : List ℕ) (is_ended : IsEnded text) where
  same_first : (n : ℕ) → n ≤ length (lines text) → take n (lines (text ++ behind)) ≡ take n (lines text)
  same_first n fits = ap (take n) (is_ended behind) ∙ take-append-le n (lines text) (lines behind) fits

  longer : length (lines text) ≤ length (lines (text ++ behind))
  longer = omega (arith, ap length (is_ended behind), length-append (lines text) (lines behind))

  first_longer : (n : ℕ) → ServesFirst drains text n old new written after → ServesFirst drains (text ++ behind) n old new written after
  first_longer n first = record {
    within = omega (arith, first.within, longer);
    events = first.events;
    told = ap (events_from 1) (same_first n first.within) ∙ first.told;
    done = first.done;
  }

  last_longer : (n : ℕ) → BeginsLast drains text n old new written after → BeginsLast drains (text ++ behind) n old new written after
  last_longer n begun = record {
    within = omega (arith, begun.within, longer);
    events = begun.events;
    last = begun.last;
    told = ap (events_from 1) (same_first n begun.within) ∙ begun.told;
    between = begun.between;
    then = begun.then;
    done = begun.done;
    begun = begun.begun;
  }

  pub fails_longer : (fault : ServeFault) → FailsIn drains text before fault old new written after → FailsIn drains (text ++ behind) before fault old new written after
  fails_longer (fault.Line number cause) failed = record {
    count = failed.count;
    rejected =
        ap (events_from 1) (is_ended behind) ∙ events_joined (lines text) (lines behind)
        ∙ ap (λ (r : Result (List ToldEvent) ℕ). told_by_both (length (lines text)) r (events_from 1 (lines behind))) failed.rejected;
    number_is = failed.number_is;
    served = first_longer failed.count failed.served;
  }
  fails_longer fault.Memory (BeforeLine n first) = BeforeLine n (first_longer n first)
  fails_longer fault.Memory (InLine n begun) = InLine n (last_longer n begun)
  fails_longer fault.Read failed = absurd failed
  fails_longer (fault.Stream why) failed = absurd failed
  fails_longer fault.Write failed = absurd failed
  fails_longer fault.Save failed = absurd failed
  fails_longer fault.Disk failed = absurd failed

-- ---- pieces

-- what stands before a line's end, the end, and what follows it
pub cut_at_end : (rest front behind : List ℕ) → Some (front, behind) ≡ cut_at 10 rest → rest ≡ front ++ (10 ∷ behind)
cut_at_end rest front behind cut =
    let parted = cond_some (ltb (position_or_len (λ b. eqb b 10) rest) (length rest)) (before_first (λ b. eqb b 10) rest, after_first (λ b. eqb b 10) rest) (front, behind) (sym cut) in
    let inside : position_or_len (λ b. eqb b 10) rest < length rest = ltb-true _ _ parted.0 in
    let is_end : get_or rest (position_or_len (λ b. eqb b 10) rest) 0 ≡ 10 = eqb-true _ _ (passes_at_first (λ b. eqb b 10) rest 0 inside) in
    split_at_first (λ b. eqb b 10) rest 0 inside
    ∙ ap (λ (b : ℕ). before_first (λ b. eqb b 10) rest ++ (b ∷ after_first (λ b. eqb b 10) rest)) is_end
    ∙ ap (λ (parts : List ℕ × List ℕ). parts.0 ++ (10 ∷ parts.1)) parted.1

-- what a line's end cuts off
pub line_cut_off : (front behind rest : List ℕ) → rest ≡ front ++ (10 ∷ behind) → take (length front + 1) rest ≡ ended front
line_cut_off front behind rest cut = ap (take (length front + 1)) cut ∙ take-append-add front (10 ∷ behind) 1

module _ (drains : Bool) (come unended rest front behind line : List ℕ) (before count : ℕ) (old between : State) (written then : List ℕ)
    (piece : ServesPiece drains come (unended ++ rest) before count old between written then) (cut : rest ≡ front ++ (10 ∷ behind))
    (line_is : line ≡ ended front) where
  rest_is : rest ≡ line ++ behind
  rest_is = cut ∙ sym (append_assoc front (10 ∷ []) behind) ∙ ap (λ (l : List ℕ). l ++ behind) (sym line_is)

  come_is : come ≡ piece.text ++ ((unended ++ line) ++ behind)
  come_is = piece.parts ∙ ap (λ (l : List ℕ). piece.text ++ l) (ap (λ (l : List ℕ). unended ++ l) rest_is ∙ sym (append_assoc unended line behind))

  line_ended : IsEnded (unended ++ line)
  line_ended = subst IsEnded (append_assoc unended front (10 ∷ []) ∙ ap (λ (l : List ℕ). unended ++ l) (sym line_is)) (λ follows. lines-behind (unended ++ front) follows)

  pub piece_goes_on : (unended' : List ℕ) (next : ℕ) (new : State) (after : List ℕ) → unended' ≡ [] → ServesText drains (unended ++ line) count next between new then after
      → ServesPiece drains come (unended' ++ behind) before next old new written after
  piece_goes_on unended' next new after none later = record {
    text = piece.text ++ (unended ++ line);
    parts = come_is ∙ sym (append_assoc piece.text (unended ++ line) behind) ∙ ap (λ (l : List ℕ). (piece.text ++ (unended ++ line)) ++ (l ++ behind)) (sym none);
    ended = ended_join piece.text (unended ++ line) piece.ended line_ended;
    served = texts_join drains piece.text (unended ++ line) before count old between written then piece.served piece.ended next new after later;
  }

  pub piece_fails : (fault : ServeFault) (new : State) (after : List ℕ) → FailsIn drains (unended ++ line) count fault between new then after
      → FailsIn drains come before fault old new written after
  piece_fails fault new after failed =
      subst (λ (text : List ℕ). FailsIn drains text before fault old new written after) (sym come_is)
      (text_fails drains piece.text ((unended ++ line) ++ behind) before count old between written then piece.served piece.ended fault new after
      (fails_longer drains (unended ++ line) behind count between new then after line_ended fault failed))

-- memory is wanting after the last line's end
pub piece_unheld : (drains : Bool) (come left : List ℕ) (before count : ℕ) (old new : State) (written after : List ℕ)
    → ServesPiece drains come left before count old new written after → FailsIn drains come before fault.Memory old new written after
piece_unheld drains come left before count old new written after piece =
    subst (λ (text : List ℕ). FailsIn drains text before fault.Memory old new written after) (sym piece.parts)
    (BeforeLine (length (lines piece.text)) (first_served drains piece.text left before count old new written after piece.served piece.ended))
