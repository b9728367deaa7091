-- The lines of a command file that have words, and the events that they tell.
use Rattle.std.proofs.Common.{◌≡◌, ℕ, ◌+◌, ◌-◌, Bool, true, false, cond, ltb, List, [], ◌∷◌, ◌++◌, length, map, slice_get, Option, Some, None, is_some, option_and_then, option_map, Result, Ok, Err, refl, sym, ap, ◌∙◌, append_assoc, append-nil, arith, length-append}
use Rattle.std.proofs.lemmas.Bool.{lt-ltb}
use Rattle.std.specs.Option.{option_flatten}
use Rattle.std.specs.List.{list_all}
use Rattle.std.specs.Char.{is_ascii}
use Rattle.std.specs.Str.Lines.{lines}
use Rattle.common_definitions.specs.Readings.{with_front}
use Rattle.text_lines.specs.Cut.{uncommented}
use Rattle.device_events.specs.declared.event.Event.{Event}
use Rattle.device_events.specs.ToldEvents.{ToldEvent, told_of}
use Rattle.event_text.specs.CommandFile.{event_named, events_from, has_words, line_before, line_told, words_told, worded_from, worded_lines}
use Rattle.event_text.specs.Laws.{EventsHaveLines}
use Rattle.event_text.specs.Words.{words_of}

-- ---- one line after the other

next_line : (all before : List ℕ) (number : ℕ) (ls behind : List (List ℕ)) (line : List ℕ) → all ≡ before ++ worded_from number ls → ls ≡ line ∷ behind
    → all ≡ before ++ cond (has_words line) (number ∷ worded_from (number + 1) behind) (worded_from (number + 1) behind)
next_line all before number ls behind line read cut = read ∙ ap (λ (rest : List (List ℕ)). before ++ worded_from number rest) cut

-- a line with words
line_counted : (all before : List ℕ) (number : ℕ) (ls behind : List (List ℕ)) (line : List ℕ) → all ≡ before ++ worded_from number ls → ls ≡ line ∷ behind → has_words line ≡ true
    → all ≡ (before ++ number ∷ []) ++ worded_from (number + 1) behind
line_counted all before number ls behind line read cut has =
    next_line all before number ls behind line read cut
    ∙ ap (λ (b : Bool). before ++ cond b (number ∷ worded_from (number + 1) behind) (worded_from (number + 1) behind)) has
    ∙ sym (append_assoc before (number ∷ []) (worded_from (number + 1) behind))

-- a line without any
line_skipped : (all before : List ℕ) (number : ℕ) (ls behind : List (List ℕ)) (line : List ℕ) → all ≡ before ++ worded_from number ls → ls ≡ line ∷ behind → has_words line ≡ false
    → all ≡ before ++ worded_from (number + 1) behind
line_skipped all before number ls behind line read cut has =
    next_line all before number ls behind line read cut
    ∙ ap (λ (b : Bool). before ++ cond b (number ∷ worded_from (number + 1) behind) (worded_from (number + 1) behind)) has

-- all lines are counted
pub all_counted : (all before : List ℕ) (number : ℕ) (rest : List ℕ) → all ≡ before ++ worded_from number (lines rest) → length rest ≡ 0 → all ≡ before
all_counted all before number [] read e = read ∙ append-nil before
all_counted all before number (b ∷ rest) read e = absurd (omega (arith, e))

-- none is counted yet
pub none_counted : (file : List ℕ) → worded_lines file ≡ [] ++ worded_from 1 (lines file)
none_counted file = refl

-- ---- what a line tells, by whether it has words

some_named : (named told : Option ToldEvent) → option_map Some named ≡ Some told → true ≡ is_some told
some_named None told is = absurd cc
some_named (Some event) told is = ap is_some (let same : Some event ≡ told = cc in same)

told_words : (ascii : Bool) (words : List (List ℕ)) (told : Option ToldEvent) → cond ascii (words_told words) None ≡ Some told → ltb 0 (length words) ≡ is_some told
told_words false words told is = absurd cc
told_words true [] told is = ap is_some (let same : None ≡ told = cc in same)
told_words true (name ∷ words) told is = lt-ltb 0 (length (name ∷ words)) (omega arith) ∙ some_named (event_named name words) told is

has_what_it_tells : (line : List ℕ) (told : Option ToldEvent) → line_told line ≡ Some told → has_words line ≡ is_some told
has_what_it_tells line told is = told_words (list_all is_ascii line) (words_of (uncommented line)) told is

-- a line that tells an event
pub event_counted : (all before : List ℕ) (number : ℕ) (ls behind : List (List ℕ)) (line : List ℕ) (event : Event) → all ≡ before ++ worded_from number ls → ls ≡ line ∷ behind
    → line_told line ≡ Some (Some (told_of event)) → all ≡ (before ++ number ∷ []) ++ worded_from (number + 1) behind
event_counted all before number ls behind line event read cut is =
    line_counted all before number ls behind line read cut (has_what_it_tells line (Some (told_of event)) is)

-- one that tells nothing
pub nothing_counted : (all before : List ℕ) (number : ℕ) (ls behind : List (List ℕ)) (line : List ℕ) → all ≡ before ++ worded_from number ls → ls ≡ line ∷ behind
    → line_told line ≡ Some None → all ≡ before ++ worded_from (number + 1) behind
nothing_counted all before number ls behind line read cut is =
    line_skipped all before number ls behind line read cut (has_what_it_tells line None is)

-- ---- the events of these lines

-- the event of a line of these
abbrev told_in : List (List ℕ) → ℕ → Option ToldEvent
told_in all number = option_flatten (option_and_then line_told (slice_get all (number - 1)))

at_seam : (before rest : List (List ℕ)) (line : List ℕ) → slice_get (before ++ line ∷ rest) (length before) ≡ Some line
at_seam [] rest line = refl
at_seam (first ∷ before) rest line = at_seam before rest line

line_at : (all before rest : List (List ℕ)) (line : List ℕ) (number : ℕ) → all ≡ before ++ line ∷ rest → number ≡ length before + 1 → slice_get all (number - 1) ≡ Some line
line_at all before rest line number cut at =
    let place : number - 1 ≡ length before = omega (arith, at) in
    ap (λ (ls : List (List ℕ)). slice_get ls (number - 1)) cut ∙ ap (slice_get (before ++ line ∷ rest)) place ∙ at_seam before rest line

module _ (all rest : List (List ℕ)) (line : List ℕ) (number : ℕ) (at : slice_get all (number - 1) ≡ Some line)
    (more : (events : List ToldEvent) → events_from (number + 1) rest ≡ Ok events → map (told_in all) (worded_from (number + 1) rest) ≡ map Some events) where
  with_event : (event : ToldEvent) (events : List ToldEvent) (later : Result (List ToldEvent) ℕ) → line_told line ≡ Some (Some event) → events_from (number + 1) rest ≡ later
      → with_front (event ∷ []) later ≡ Ok events → map (told_in all) (number ∷ worded_from (number + 1) rest) ≡ map Some events
  with_event event events (Err refused) is later read = absurd cc
  with_event event events (Ok others) is later read =
      let same : event ∷ others ≡ events = cc in
      let here : told_in all number ≡ Some event = ap (λ (l : Option (List ℕ)). option_flatten (option_and_then line_told l)) at ∙ ap option_flatten is in
      ap (λ (first : Option ToldEvent). first ∷ map (told_in all) (worded_from (number + 1) rest)) here
      ∙ ap (λ (others : List (Option ToldEvent)). Some event ∷ others) (more others later)
      ∙ ap (map Some) same

  one_line : (told : Option (Option ToldEvent)) (events : List ToldEvent) → line_told line ≡ told → line_before number told (events_from (number + 1) rest) ≡ Ok events
      → map (told_in all) (cond (has_words line) (number ∷ worded_from (number + 1) rest) (worded_from (number + 1) rest)) ≡ map Some events
  one_line None events is read = absurd cc
  one_line (Some None) events is read =
      ap (λ (has : Bool). map (told_in all) (cond has (number ∷ worded_from (number + 1) rest) (worded_from (number + 1) rest)))
      (has_what_it_tells line None is)
      ∙ more events read
  one_line (Some (Some event)) events is read =
      ap (λ (has : Bool). map (told_in all) (cond has (number ∷ worded_from (number + 1) rest) (worded_from (number + 1) rest)))
      (has_what_it_tells line (Some event) is)
      ∙ with_event event events (events_from (number + 1) rest) is refl read

lines_tell : (all before ls : List (List ℕ)) (number : ℕ) (events : List ToldEvent) → all ≡ before ++ ls → number ≡ length before + 1 → events_from number ls ≡ Ok events
    → map (told_in all) (worded_from number ls) ≡ map Some events
lines_tell all before [] number events cut at read = ap (map Some) (let same : [] ≡ events = cc in same)
lines_tell all before (line ∷ rest) number events cut at read =
    one_line all rest line number (line_at all before rest line number cut at)
    (λ others later. lines_tell all (before ++ line ∷ []) rest (number + 1) others (cut ∙ sym (append_assoc before (line ∷ []) rest)) (omega (arith, at, length-append before (line ∷ []))) later)
    (line_told line) events refl read

pub events_have_lines : EventsHaveLines
events_have_lines file events read = lines_tell (lines file) [] (lines file) 1 events refl refl read
