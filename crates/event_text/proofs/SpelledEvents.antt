-- The lines of submissions, turns and zones' faults are read back.
use Rattle.std.proofs.Common.{◌≡◌, ℕ, ◌^◌, ◌<◌, List, [], ◌∷◌, ◌++◌, length, Option, Some, refl, ap, subst, sym, ◌∙◌, codes, append-nil, arith}
use Rattle.std.specs.Fmt.{decimal}
use Rattle.std.specs.List.{All}
use Rattle.std.specs.Option.{option_map}
use Rattle.std.proofs.lemmas.Fmt.{decimal_nonempty}
use Rattle.std.proofs.lemmas.List.Elements.{All-append, All-nil}
use Rattle.zone_state.specs.Words.{fault_word}
use Rattle.zone_state.specs.declared.state.FaultState.{FaultState}
use Rattle.zone_state.specs.declared.state.FaultState.TheVariants.{ReadOnly, Offline}
use Rattle.device_events.specs.ToldEvents.{Turned, Faulted}
use Rattle.event_text.specs.CommandFile.{fault_told, line_told, state_named, words_told}
use Rattle.event_text.specs.Laws.{FaultsReadBack, SubmissionsReadBack, TurnsReadBack, fault_text, turn_text}
use Rattle.event_text.proofs.PlainLines.{InLine, InWord, IsSpelled, as_line, decimal_again, decimal_below, decimal_in_word, line_told-words, space_before, spelled_in_word, words_of-numbered}
use Rattle.event_text.proofs.SingleLines.{spelled_reads_back}
use Rattle.event_text.proofs.SubmissionLemmas.{number_spaced, spaced, spaced_in_line, submission_spelled, words_of-spaced}

pub submissions_read_back : SubmissionsReadBack
submissions_read_back queue entry input small size entry_bytes input_bytes =
    spelled_reads_back _ _ (submission_spelled queue entry input small size entry_bytes input_bytes)

-- ---- turns

turn_spelled : (run : ℕ) → run < 2 ^ 8 → IsSpelled (turn_text run) (Turned run)
turn_spelled run small =
    let in_a_line : All InLine (turn_text run) =
    All-append InLine (codes "turn") (32 ∷ decimal run) (as_line (codes "turn") (spelled_in_word (codes "turn") refl)) (space_before (decimal run) (as_line (decimal run) (decimal_in_word run (omega arith)))) in
    record {
      plain = in_a_line;
      told =
          line_told-words (turn_text run) in_a_line
          ∙ ap words_told (words_of-numbered (codes "turn") run (omega arith) refl (omega arith))
          ∙ ap (λ (number : Option ℕ). option_map Some (option_map Turned number)) (decimal_below (2 ^ 8) run small (omega arith));
    }

pub turns_read_back : TurnsReadBack
turns_read_back run small = spelled_reads_back (turn_text run) (Turned run) (turn_spelled run small)

-- ---- faults

state_in_word : (state : FaultState) → All InWord (fault_word state)
state_in_word ReadOnly = spelled_in_word (codes "readonly") refl
state_in_word Offline = spelled_in_word (codes "offline") refl

state_some : (state : FaultState) → 0 < length (fault_word state)
state_some ReadOnly = omega arith
state_some Offline = omega arith

state_again : (state : FaultState) → state_named (fault_word state) ≡ Some state
state_again ReadOnly = refl
state_again Offline = refl

fault_text-spaced : (zone : ℕ) (state : FaultState) → fault_text zone state ≡ spaced (codes "fault") (decimal zone) (fault_word state) []
fault_text-spaced zone state =
    ap (λ (ys : List ℕ). codes "fault " ++ ys) (sym (append-nil (decimal zone ++ codes " " ++ fault_word state)) ∙ number_spaced (decimal zone) (fault_word state) [])

fault_spelled : (zone : ℕ) (state : FaultState) → zone < 2 ^ 32 → IsSpelled (fault_text zone state) (Faulted zone state)
fault_spelled zone state small =
    let number = decimal zone in
    let word = fault_word state in
    let is_name = spelled_in_word (codes "fault") refl in
    let is_number = decimal_in_word zone (omega arith) in
    let is_word = state_in_word state in
    let line = spaced (codes "fault") number word [] in
    let in_a_line = spaced_in_line (codes "fault") number word [] is_name is_number is_word (All-nil InLine) in
    let told : line_told line ≡ Some (Some (Faulted zone state)) =
    line_told-words line in_a_line
    ∙ ap words_told (words_of-spaced (codes "fault") number word [] (omega arith) is_name (decimal_nonempty zone (omega arith)) is_number (state_some state) is_word (λ i. omega arith))
    ∙ ap (λ (n : Option ℕ). option_map Some (fault_told n (state_named word))) (decimal_again zone small)
    ∙ ap (λ (s : Option FaultState). option_map Some (fault_told (Some zone) s)) (state_again state) in
    let whole : IsSpelled line (Faulted zone state) = record { plain = in_a_line; told = told } in
    subst (λ (text : List ℕ). IsSpelled text (Faulted zone state)) (sym (fault_text-spaced zone state)) whole

pub faults_read_back : FaultsReadBack
faults_read_back zone state small = spelled_reads_back (fault_text zone state) (Faulted zone state) (fault_spelled zone state small)
