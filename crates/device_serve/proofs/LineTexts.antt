-- Texts whose lines are served, one after another.
use Rattle.std.proofs.Common.{◌≡◌, ℕ, ◌+◌, ◌-◌, ◌^◌, ◌≤◌, Bool, List, [], ◌∷◌, ◌++◌, append-nil, append_assoc, length, length-append, map, take, Option, None, Result, Ok, Err, inl, inr, refl, ap, subst, sym, ◌∙◌, arith}
use Rattle.std.proofs.lemmas.List.{map-append}
use Rattle.std.proofs.Math.Seq.{take-append_seam}
use Rattle.std.specs.Str.Lines.{lines}
use Rattle.device_events.specs.declared.event.Event.{Event}
use Rattle.device_meaning.specs.State.{State}
use Rattle.device_events.specs.ToldEvents.{ToldEvent, told_of}
use Rattle.event_text.specs.CommandFile.{events_from, line_told, line_before}
use Rattle.event_text.specs.Laws.{told_by_both}
use Rattle.event_text.proofs.Proved.{events_joined}
use Rattle.device_serve.specs.LineLaws.{nothing_done}
use Rattle.device_serve.specs.LineStream.{BeforeLine, Does, FailsIn, HasAnswered, InLine, ServesFirst, counted}
use Rattle.device_serve.specs.LineSteps.{FailsAt, ServesLine, ServesText}
use Rattle.device_serve.specs.declared.fault.ServeFault.{ServeFault}
use Rattle.device_serve.specs.declared.fault.ServeFault.TheVariants as fault
use Rattle.device_serve.proofs.LineDoing.{does_more}

-- ---- events of lines

-- lines that tell events, and lines after them that do so
pub told_more : (ls behind : List (List ℕ)) (first later : List Event) → events_from 1 ls ≡ Ok (map told_of first) → events_from 1 behind ≡ Ok (map told_of later)
    → events_from 1 (ls ++ behind) ≡ Ok (map told_of (first ++ later))
told_more ls behind first later a b =
    events_joined ls behind
    ∙ ap (λ (r : Result (List ToldEvent) ℕ). told_by_both (length ls) r (events_from 1 behind)) a
    ∙ ap (λ (r : Result (List ToldEvent) ℕ). told_by_both (length ls) (Ok (map told_of first)) r) b
    ∙ ap Ok (sym (map-append told_of first later))

-- and lines after them of which one is rejected
pub told_rejected : (ls behind : List (List ℕ)) (first : List Event) (number : ℕ) → events_from 1 ls ≡ Ok (map told_of first) → events_from 1 behind ≡ Err number
    → events_from 1 (ls ++ behind) ≡ Err (length ls + number)
told_rejected ls behind first number a b =
    events_joined ls behind
    ∙ ap (λ (r : Result (List ToldEvent) ℕ). told_by_both (length ls) r (events_from 1 behind)) a
    ∙ ap (λ (r : Result (List ToldEvent) ℕ). told_by_both (length ls) (Ok (map told_of first)) r) b

-- a line that is rejected, whatever follows it
rejected_first : (line : List ℕ) (behind : List (List ℕ)) → line_told line ≡ None → events_from 1 (line ∷ behind) ≡ Err 1
rejected_first line behind none = ap (λ (told : Option (Option ToldEvent)). line_before 1 told (events_from 2 behind)) none

-- ---- lines that were served, before the rest of all lines

pub counted_more : (before a b : ℕ) → counted (counted before a) b ≡ counted before (a + b)
counted_more before a b = omega arith

pub record ServedFirst (drains : Bool) (all rest : List (List ℕ)) (before count : ℕ) (old new : State) (written after : List ℕ) : Type 0 where
  pub past : List (List ℕ)
  pub parts : all ≡ past ++ rest
  pub events : List Event
  pub told : events_from 1 past ≡ Ok (map told_of events)
  pub counted_is : count ≡ counted before (length past)
  pub done : Does drains events old new (HasAnswered written after)

pub none_served : (drains : Bool) (all : List (List ℕ)) (before : ℕ) (s : State) (written : List ℕ) → before ≤ 2 ^ 64 - 1
    → ServedFirst drains all all before before s s written written
none_served drains all before s written fits = record {
  past = [];
  parts = refl;
  events = [];
  told = refl;
  counted_is = omega (arith, fits);
  done = nothing_done drains s written;
}

module _ (drains : Bool) (all rest behind : List (List ℕ)) (line : List ℕ) (before count number : ℕ) (old between new : State) (written then after : List ℕ)
    (first : ServedFirst drains all rest before count old between written then) (cut : rest ≡ line ∷ behind) (number_is : number ≡ counted count 1) where
  all_parts : all ≡ (first.past ++ line ∷ []) ++ behind
  all_parts = first.parts ∙ ap (λ (ls : List (List ℕ)). first.past ++ ls) cut ∙ sym (append_assoc first.past (line ∷ []) behind)

  one_more : length (first.past ++ line ∷ []) ≡ length first.past + 1
  one_more = length-append first.past (line ∷ [])

  numbered : number ≡ counted before (length first.past + 1)
  numbered = number_is ∙ ap (λ (n : ℕ). counted n 1) first.counted_is ∙ counted_more before (length first.past) 1

  pub line_served : ServesLine drains line between new then after → ServedFirst drains all behind before number old new written after
  line_served served = record {
    past = first.past ++ line ∷ [];
    parts = all_parts;
    events = first.events ++ served.events;
    told = told_more first.past (line ∷ []) first.events served.events first.told served.told;
    counted_is = numbered ∙ ap (counted before) (sym one_more);
    done = does_more drains first.events served.events old between new written then after first.done served.done;
  }

  -- the lines before it, as the first of all
  only_front : take (length first.past) all ≡ first.past
  only_front = ap (take (length first.past)) first.parts ∙ take-append_seam first.past rest

  with_it : take (length first.past + 1) all ≡ first.past ++ line ∷ []
  with_it = ap (λ (n : ℕ). take n all) (sym one_more) ∙ ap (take (length (first.past ++ line ∷ []))) all_parts ∙ take-append_seam (first.past ++ line ∷ []) behind

  within : (text : List ℕ) → all ≡ lines text → length first.past + 1 ≤ length (lines text)
  within text are = omega (arith, ap length are, ap length all_parts, length-append (first.past ++ line ∷ []) behind, one_more)

  -- nothing was done for the line
  before_it : (text : List ℕ) → all ≡ lines text → new ≡ between → after ≡ then → ServesFirst drains text (length first.past) old new written after
  before_it text are still silent = record {
    within = omega (arith, within text are);
    events = first.events;
    told = ap (λ (ls : List (List ℕ)). events_from 1 (take (length first.past) ls)) (sym are) ∙ ap (events_from 1) only_front ∙ first.told;
    done = subst (λ (s : State). Does drains first.events old s (HasAnswered written after)) (sym still)
        (subst (λ (answers : List ℕ). Does drains first.events old between (HasAnswered written answers)) (sym silent) first.done);
  }

  pub line_fails : (text : List ℕ) (fault : ServeFault) → all ≡ lines text → FailsAt drains line number fault between new then after
      → FailsIn drains text before fault old new written after
  line_fails text (fault.Line told cause) are failed = record {
    count = length first.past;
    rejected =
        ap (events_from 1) (sym are ∙ first.parts ∙ ap (λ (ls : List (List ℕ)). first.past ++ ls) cut)
        ∙ told_rejected first.past (line ∷ behind) first.events 1 first.told (rejected_first line behind failed.1);
    number_is = failed.0 ∙ numbered;
    served = before_it text are failed.2.0 failed.2.1;
  }
  line_fails text fault.Memory are (inl nothing) = BeforeLine (length first.past) (before_it text are nothing.0 nothing.1)
  line_fails text fault.Memory are (inr begun) = InLine (length first.past + 1) (record {
    within = within text are;
    events = first.events;
    last = begun.event;
    told =
        ap (λ (ls : List (List ℕ)). events_from 1 (take (length first.past + 1) ls)) (sym are) ∙ ap (events_from 1) with_it
        ∙ told_more first.past (line ∷ []) first.events (begun.event ∷ []) first.told begun.told;
    between = between;
    then = then;
    done = first.done;
    begun = begun.begun;
  })
  line_fails text fault.Read are failed = absurd failed
  line_fails text (fault.Stream why) are failed = absurd failed
  line_fails text fault.Write are failed = absurd failed
  line_fails text fault.Save are failed = absurd failed
  line_fails text fault.Disk are failed = absurd failed

-- all lines were served
pub all_served : (drains : Bool) (text rest : List ℕ) (before count : ℕ) (old new : State) (written after : List ℕ)
    → ServedFirst drains (lines text) (lines rest) before count old new written after → length rest ≡ 0
    → ServesText drains text before count old new written after
all_served drains text [] before count old new written after first none =
    let all : lines text ≡ first.past = first.parts ∙ append-nil first.past in
    record {
      events = first.events;
      told = ap (events_from 1) all ∙ first.told;
      counted_is = first.counted_is ∙ ap (λ (ls : List (List ℕ)). counted before (length ls)) (sym all);
      done = first.done;
    }
all_served drains text (b ∷ rest) before count old new written after first none = absurd (omega (arith, none))
