-- Command files, one line after the other.
use Rattle.std.proofs.Common.{◌≡◌, ℕ, ◌+◌, List, [], ◌∷◌, ◌++◌, length, map, Option, Some, None, Result, Ok, Err, refl, sym, ap, ◌∙◌, append-nil, arith}
use Rattle.std.proofs.lemmas.List.{map-append}
use Rattle.std.specs.Str.Lines.{lines}
use Rattle.device_events.specs.declared.event.Event.{Event}
use Rattle.common_definitions.specs.Readings.{with_front}
use Rattle.common_definitions.proofs.Proved.{with_front-more}
use Rattle.device_events.specs.ToldEvents.{ToldEvent, told_of}
use Rattle.event_text.specs.CommandFile.{line_told, line_before, events_from}

behind_nothing : (later : Result (List ToldEvent) ℕ) → with_front [] later ≡ later
behind_nothing (Ok later) = refl
behind_nothing (Err line) = refl

first_line : (told : Result (List ToldEvent) ℕ) (first : List ToldEvent) (number : ℕ) (all behind : List (List ℕ)) (line : List ℕ) → told ≡ with_front first (events_from number all) → all ≡ line ∷ behind
    → told ≡ with_front first (line_before number (line_told line) (events_from (number + 1) behind))
first_line told first number all behind line read cut = read ∙ ap (λ (ls : List (List ℕ)). with_front first (events_from number ls)) cut

-- one more event
pub event_read : (told : Result (List ToldEvent) ℕ) (events : List Event) (event : Event) (number : ℕ) (all behind : List (List ℕ)) (line : List ℕ) → told ≡ with_front (map told_of events) (events_from number all) → all ≡ line ∷ behind
    → line_told line ≡ Some (Some (told_of event)) → told ≡ with_front (map told_of (events ++ event ∷ [])) (events_from (number + 1) behind)
event_read told events event number all behind line read cut is =
    first_line told (map told_of events) number all behind line read cut
    ∙ ap (λ (o : Option (Option ToldEvent)). with_front (map told_of events) (line_before number o (events_from (number + 1) behind))) is
    ∙ with_front-more (map told_of events) (told_of event ∷ []) (events_from (number + 1) behind)
    ∙ ap (λ (ts : List ToldEvent). with_front ts (events_from (number + 1) behind)) (sym (map-append told_of events (event ∷ [])))

-- a line that tells nothing
pub nothing_read : (told : Result (List ToldEvent) ℕ) (first : List ToldEvent) (number : ℕ) (all behind : List (List ℕ)) (line : List ℕ) → told ≡ with_front first (events_from number all) → all ≡ line ∷ behind
    → line_told line ≡ Some None → told ≡ with_front first (events_from (number + 1) behind)
nothing_read told first number all behind line read cut is =
    first_line told first number all behind line read cut
    ∙ ap (λ (o : Option (Option ToldEvent)). with_front first (line_before number o (events_from (number + 1) behind))) is

-- a line that is refused
pub line_refused : (told : Result (List ToldEvent) ℕ) (first : List ToldEvent) (number : ℕ) (all behind : List (List ℕ)) (line : List ℕ) → told ≡ with_front first (events_from number all) → all ≡ line ∷ behind
    → line_told line ≡ None → told ≡ Err number
line_refused told first number all behind line read cut is =
    first_line told first number all behind line read cut
    ∙ ap (λ (o : Option (Option ToldEvent)). with_front first (line_before number o (events_from (number + 1) behind))) is

-- all lines are read
pub all_read : (told : Result (List ToldEvent) ℕ) (first : List ToldEvent) (number : ℕ) (rest : List ℕ) → told ≡ with_front first (events_from number (lines rest)) → length rest ≡ 0 → told ≡ Ok first
all_read told first number [] read e = read ∙ ap Ok (append-nil first)
all_read told first number (b ∷ rest) read e = absurd (omega (arith, e))

-- nothing is read yet
pub none_read : (number : ℕ) (file : List ℕ) → events_from number (lines file) ≡ with_front [] (events_from number (lines file))
none_read number file = sym (behind_nothing (events_from number (lines file)))
