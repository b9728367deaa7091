-- What a codec of lines does of no bytes.
use Rattle.std.specs.Prelude.{ℕ, Bool, true, false, ◌≤◌, ◌-◌, ◌^◌, length, min, List, [], ◌++◌, Option}
use Rattle.std.proofs.Common.{append-nil, ap, inl, refl, subst, sym, ◌∙◌}
use Rattle.std.proofs.Math.Nat.{add-zero, min-eq_left, min-le_right, zero-min}
use Rattle.std.specs.Str.Lines.{lines}
use Rattle.device_meaning.specs.State.{State}
use Rattle.device_serve.specs.LineStream.{BeforeLine, Does, DoesLines, HasAnswered, IsReady, ServesFirst, StopsLines, ends_in}
use Rattle.device_serve.specs.declared.fault.ServeFault.TheVariants as fault
use Rattle.device_serve.specs.declared.lines.LineCodec.{LineCodec}

-- no events are done by doing nothing
pub nothing_done : (drains : Bool) (s : State) (answers : List ℕ) → Does drains [] s s (HasAnswered answers answers)
nothing_done false s answers = record { occurrences = []; are = refl; state = refl; replies = sym (append-nil answers) }
nothing_done true s answers = record { replies = []; each = (refl, refl); taken = sym (append-nil answers) }

-- nothing of a text is served by doing nothing
pub nothing_served : (drains : Bool) (text : List ℕ) (s : State) (answers : List ℕ) → ServesFirst drains text 0 s s answers answers
nothing_served drains text s answers = record {
  within = subst (λ (n : ℕ). n ≤ length (lines text)) (zero-min (length (lines text))) (min-le_right 0 (length (lines text)));
  events = [];
  told = refl;
  done = nothing_done drains s answers;
}

-- of no bytes nothing is done
pub lines_rest : (codec : LineCodec) (s : State) → codec.count ≤ 2 ^ 64 - 1 → DoesLines codec s [] codec s []
lines_rest codec s few = record {
  text = [];
  parts = append-nil codec.unended.items;
  ended = λ follows. refl;
  events = [];
  told = refl;
  counted_is = sym (ap (λ (n : ℕ). min n (2 ^ 64 - 1)) (add-zero codec.count) ∙ min-eq_left few);
  done = nothing_done codec.doer.drains s [];
  drains = refl;
}

pub lines_stay : (codec : LineCodec) (s : State) → IsReady codec → DoesLines codec s [] codec s []
lines_stay codec s ready = lines_rest codec s ready.few

pub lines_unread : (codec : LineCodec) (s : State) (left : Option (List ℕ)) → IsReady codec
    → StopsLines codec s [] left codec s [] fault.Read
lines_unread codec s left ready =
    let text = codec.unended.items ++ [] in
    subst (λ (n : ℕ). ServesFirst codec.doer.drains text n s s [] []) (sym (ap ends_in (append-nil codec.unended.items) ∙ ready.unended))
    (nothing_served codec.doer.drains text s [])

pub lines_starve : (codec : LineCodec) (s : State) (left : Option (List ℕ)) → IsReady codec
    → StopsLines codec s [] left codec s [] fault.Memory
lines_starve codec s left ready = inl (BeforeLine 0 (nothing_served codec.doer.drains (codec.unended.items ++ []) s []))
