-- What a codec of lines has done, and why it stops.
use Rattle.std.proofs.Common.{◌≡◌, ℕ, ◌+◌, ◌-◌, Bool, List, [], ◌∷◌, ◌++◌, append-nil, append_assoc, length, take, drop, Option, inl, ap, subst, sym, ◌∙◌, arith}
use Rattle.std.specs.Str.Lines.{lines}
use Rattle.std.proofs.lemmas.List.{append_cancel_right, drop-drop, take-append-drop, take_rest}
use Rattle.std.proofs.Math.Seq.{drop-append-add, take-length}
use Rattle.device_meaning.specs.State.{State}
use Rattle.device_serve.specs.LineStream.{BeforeLine, DoesLinesAfter, FailsIn, StopsIn, StopsLines, StopsLinesAfter}
use Rattle.device_serve.specs.LineSteps.{ServesPiece}
use Rattle.device_serve.specs.Rounds.{IsCodecs}
use Rattle.device_serve.specs.declared.fault.ServeFault.{ServeFault}
use Rattle.device_serve.specs.declared.fault.ServeFault.TheVariants as fault
use Rattle.device_serve.specs.declared.lines.LineCodec.{LineCodec}
use Rattle.device_serve.proofs.LinePieces.{first_served}

-- ---- stops

-- a text that fails stops a stream
pub stops_in : (drains : Bool) (text : List ℕ) (before : ℕ) (left : Option (List ℕ)) (why : ServeFault) (old new : State) (written after : List ℕ)
    → FailsIn drains text before why old new written after → StopsIn drains text before left why old new written after
stops_in drains text before left (fault.Line number cause) old new written after failed = failed
stops_in drains text before left fault.Memory old new written after failed = inl failed
stops_in drains text before left fault.Read old new written after failed = absurd failed
stops_in drains text before left (fault.Stream cause) old new written after failed = absurd failed
stops_in drains text before left fault.Write old new written after failed = absurd failed
stops_in drains text before left fault.Save old new written after failed = absurd failed
stops_in drains text before left fault.Disk old new written after failed = absurd failed

-- neither the output nor the disk fails
pub fails_by_codec : (drains : Bool) (text : List ℕ) (before : ℕ) (why : ServeFault) (old new : State) (written after : List ℕ)
    → FailsIn drains text before why old new written after → IsCodecs why
fails_by_codec drains text before (fault.Line number cause) old new written after failed = tt
fails_by_codec drains text before fault.Memory old new written after failed = tt
fails_by_codec drains text before fault.Read old new written after failed = absurd failed
fails_by_codec drains text before (fault.Stream cause) old new written after failed = absurd failed
fails_by_codec drains text before fault.Write old new written after failed = absurd failed
fails_by_codec drains text before fault.Save old new written after failed = absurd failed
fails_by_codec drains text before fault.Disk old new written after failed = absurd failed

-- ---- pieces

-- what follows a line's end
pub line_taken : (all front behind : List ℕ) (count n : ℕ) → drop count all ≡ front ++ (10 ∷ behind) → n ≡ count + length front + 1 → drop n all ≡ behind
line_taken all front behind count n cut is =
    let same : n ≡ count + (length front + 1) = omega (arith, is) in
    ap (λ (k : ℕ). drop k all) same ∙ sym (drop-drop (length front + 1) count all) ∙ ap (drop (length front + 1)) cut
    ∙ drop-append-add front (10 ∷ behind) 1

-- of a piece the lines that end in its front were served
pub front_done : (old new : LineCodec) (s s' : State) (piece : List ℕ) (n : ℕ) (before after : List ℕ)
    → ServesPiece old.doer.drains (old.unended.items ++ piece) (new.unended.items ++ drop n piece) old.count new.count s s' before after
    → new.doer.drains ≡ old.doer.drains → DoesLinesAfter old s before (take n piece) new s' after
front_done old new s s' piece n before after served drains = record {
  text = served.text;
  parts =
      append_cancel_right (old.unended.items ++ take n piece) (served.text ++ new.unended.items) (drop n piece)
      (append_assoc old.unended.items (take n piece) (drop n piece)
      ∙ ap (λ (l : List ℕ). old.unended.items ++ l) (take-append-drop n piece)
      ∙ served.parts
      ∙ sym (append_assoc served.text new.unended.items (drop n piece)));
  ended = served.ended;
  events = served.served.events;
  told = served.served.told;
  counted_is = served.served.counted_is;
  done = served.served.done;
  drains = drains;
}

module _ (old between : LineCodec) (s s' : State) (piece : List ℕ) (n : ℕ) (before after : List ℕ)
    (front : DoesLinesAfter old s before (take n piece) between s' after) where
  all_parts : old.unended.items ++ piece ≡ front.text ++ (between.unended.items ++ drop n piece)
  all_parts =
      ap (λ (l : List ℕ). old.unended.items ++ l) (sym (take-append-drop n piece))
      ∙ sym (append_assoc old.unended.items (take n piece) (drop n piece))
      ∙ ap (λ (l : List ℕ). l ++ drop n piece) front.parts
      ∙ append_assoc front.text between.unended.items (drop n piece)

  -- and what is left of it is held
  pub piece_done : (new : LineCodec) → new.unended.items ≡ between.unended.items ++ take (length piece - n) (drop n piece) → new.count ≡ between.count
      → new.doer.drains ≡ between.doer.drains → DoesLinesAfter old s before (take (length piece) piece) new s' after
  piece_done new held same drains = record {
    text = front.text;
    parts =
        ap (λ (l : List ℕ). old.unended.items ++ l) (take-length piece) ∙ all_parts
        ∙ ap (λ (l : List ℕ). front.text ++ l) (sym (held ∙ ap (λ (l : List ℕ). between.unended.items ++ l) (take_rest piece n)));
    ended = front.ended;
    events = front.events;
    told = front.told;
    counted_is = same ∙ front.counted_is;
    done = front.done;
    drains = drains ∙ front.drains;
  }

  -- for which memory is wanting
  pub piece_unheld : (new : LineCodec) (left : Option (List ℕ)) → StopsLinesAfter old s before piece left new s' after fault.Memory
  piece_unheld new left =
      inl (subst (λ (text : List ℕ). FailsIn old.doer.drains text old.count fault.Memory s s' before after) (sym all_parts)
      (BeforeLine (length (lines front.text))
      (first_served old.doer.drains front.text (between.unended.items ++ drop n piece) old.count between.count s s' before after
      (record { events = front.events; told = front.told; counted_is = front.counted_is; done = front.done }) front.ended)))

-- ---- the end

-- the last line fails
pub end_fails : (old new : LineCodec) (s s' : State) (answers : List ℕ) (left : Option (List ℕ)) (why : ServeFault)
    → FailsIn old.doer.drains old.unended.items old.count why s s' [] answers → StopsLines old s [] left new s' answers why
end_fails old new s s' answers left why failed =
    stops_in old.doer.drains (old.unended.items ++ []) old.count left why s s' [] answers
    (subst (λ (text : List ℕ). FailsIn old.doer.drains text old.count why s s' [] answers) (sym (append-nil old.unended.items)) failed)
