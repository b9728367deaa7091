-- Bytes of lines that are done one after another, as a codec does them.
use Rattle.std.proofs.Common.{◌≡◌, ℕ, ◌+◌, Bool, List, [], ◌++◌, append-nil, append_assoc, length, Option, inl, inr, refl, ap, subst, sym, ◌∙◌, arith}
use Rattle.std.specs.Str.Lines.{lines}
use Rattle.device_meaning.specs.State.{State}
use Rattle.event_text.specs.CommandFile.{events_in}
use Rattle.device_serve.specs.LineStream.{Does, DoesLinesAfter, FailsIn, HasAnswered, ServesFirst, StarvesAfter, StopsLinesAfter, counted, ends_in}
use Rattle.device_serve.specs.LineSteps.{ServesText}
use Rattle.device_serve.specs.declared.fault.ServeFault.{ServeFault}
use Rattle.device_serve.specs.declared.fault.ServeFault.TheVariants as fault
use Rattle.device_serve.specs.declared.lines.LineCodec.{LineCodec}
use Rattle.device_serve.proofs.LineEnds.{ends-append, ends_before}
use Rattle.device_serve.proofs.LinePieces.{ended_join, first_join, text_fails, texts_join}

module _ (a m n : LineCodec) (s t u : State) (before then after bytes next : List ℕ) where
  first_text : (d : DoesLinesAfter a s before bytes m t then) → ServesText a.doer.drains d.text a.count m.count s t before then
  first_text d = record { events = d.events; told = d.told; counted_is = d.counted_is; done = d.done }

  parts_with : (d : DoesLinesAfter a s before bytes m t then) → a.unended.items ++ (bytes ++ next) ≡ d.text ++ (m.unended.items ++ next)
  parts_with d =
      sym (append_assoc a.unended.items bytes next) ∙ ap (λ (x : List ℕ). x ++ next) d.parts ∙ append_assoc d.text m.unended.items next

  pub does_on : DoesLinesAfter a s before bytes m t then → DoesLinesAfter m t then next n u after
      → DoesLinesAfter a s before (bytes ++ next) n u after
  does_on d e =
      let second : ServesText a.doer.drains e.text m.count n.count t u then after =
      record {
        events = e.events;
        told = e.told;
        counted_is = e.counted_is;
        done = subst (λ (drains : Bool). Does drains e.events t u (HasAnswered then after)) d.drains e.done;
      } in
      let both = texts_join a.doer.drains d.text e.text a.count m.count s t before then (first_text d) d.ended n.count u after second in
      record {
        text = d.text ++ e.text;
        parts = parts_with d ∙ ap (λ (x : List ℕ). d.text ++ x) e.parts ∙ sym (append_assoc d.text e.text n.unended.items);
        ended = ended_join d.text e.text d.ended e.ended;
        events = both.events;
        told = both.told;
        counted_is = both.counted_is;
        done = both.done;
        drains = e.drains ∙ d.drains;
      }

  text_stops : (why : ServeFault) → DoesLinesAfter a s before bytes m t then → FailsIn m.doer.drains (m.unended.items ++ next) m.count why t u then after
      → FailsIn a.doer.drains (a.unended.items ++ (bytes ++ next)) a.count why s u before after
  text_stops why d failed =
      subst (λ (text : List ℕ). FailsIn a.doer.drains text a.count why s u before after) (sym (parts_with d))
      (text_fails a.doer.drains d.text (m.unended.items ++ next) a.count m.count s t before then (first_text d) d.ended why u after
      (subst (λ (drains : Bool). FailsIn drains (m.unended.items ++ next) m.count why t u then after) d.drains failed))

  starved_on : DoesLinesAfter a s before bytes m t then → StarvesAfter m.doer.drains (m.unended.items ++ next) t u then after
      → StarvesAfter a.doer.drains (a.unended.items ++ (bytes ++ next)) s u before after
  starved_on d some =
      let second : ServesText a.doer.drains (m.unended.items ++ next) m.count (counted m.count (length (lines (m.unended.items ++ next)))) t
      some.between then some.then =
      record {
        events = some.events;
        told = some.told;
        counted_is = refl;
        done = subst (λ (drains : Bool). Does drains some.events t some.between (HasAnswered then some.then)) d.drains some.done;
      } in
      let both = texts_join a.doer.drains d.text (m.unended.items ++ next) a.count m.count s t before then (first_text d) d.ended _ some.between
      some.then second in
      record {
        events = both.events;
        told = ap events_in (parts_with d) ∙ both.told;
        between = some.between;
        then = some.then;
        done = both.done;
        given = some.given;
      }

  unread_on : DoesLinesAfter a s before bytes m t then
      → ServesFirst m.doer.drains (m.unended.items ++ next) (ends_in (m.unended.items ++ next)) t u then after
      → ServesFirst a.doer.drains (a.unended.items ++ (bytes ++ next)) (ends_in (a.unended.items ++ (bytes ++ next))) s u before after
  unread_on d first =
      let long : length (lines d.text) ≡ ends_in d.text = ends_before d.text [] d.ended refl ∙ ap ends_in (append-nil d.text) in
      let count : length (lines d.text) + ends_in (m.unended.items ++ next) ≡ ends_in (a.unended.items ++ (bytes ++ next)) =
      omega (arith, long, ends-append d.text (m.unended.items ++ next), ap ends_in (parts_with d)) in
      subst (λ (k : ℕ). ServesFirst a.doer.drains (a.unended.items ++ (bytes ++ next)) k s u before after) count
      (subst (λ (text : List ℕ). ServesFirst a.doer.drains text (length (lines d.text) + ends_in (m.unended.items ++ next)) s u before after)
      (sym (parts_with d))
      (first_join a.doer.drains d.text (m.unended.items ++ next) a.count m.count s t before then (first_text d) d.ended
      (ends_in (m.unended.items ++ next)) u after
      (subst (λ (drains : Bool). ServesFirst drains (m.unended.items ++ next) (ends_in (m.unended.items ++ next)) t u then after) d.drains first)))

  pub stops_on : (left : Option (List ℕ)) (why : ServeFault) → DoesLinesAfter a s before bytes m t then
      → StopsLinesAfter m t then next left n u after why → StopsLinesAfter a s before (bytes ++ next) left n u after why
  stops_on left (fault.Line number cause) d stopped = text_stops (fault.Line number cause) d stopped
  stops_on left fault.Read d stopped = unread_on d stopped
  stops_on left fault.Memory d (inl starved) = inl (text_stops fault.Memory d starved)
  stops_on left fault.Memory d (inr (end, some)) = inr (end, starved_on d some)
  stops_on left (fault.Stream cause) d stopped = absurd stopped
  stops_on left fault.Write d stopped = absurd stopped
  stops_on left fault.Save d stopped = absurd stopped
  stops_on left fault.Disk d stopped = absurd stopped
