-- What is left to read, one word at a time.
use Rattle.std.proofs.Common.{◌≡◌, ℕ, ◌+◌, ◌-◌, ◌<◌, List, [], ◌∷◌, length, take, drop, Result, Ok, Err, sym, ap, ◌∙◌, arith}
use Rattle.std.specs.Option.{IfSome}
use Rattle.std.proofs.lemmas.List.{length-drop}
use Rattle.record_questions.specs.declared.question.Field.{Field}
use Rattle.common_definitions.specs.Readings.{◌>>=◌}
use Rattle.question_words.specs.declared.fault.ReadFault.{ReadFault}
use Rattle.question_words.specs.declared.fault.ReadFault.TheVariants.{Memory, Word}
use Rattle.question_words.specs.declared.fault.WordFault.{WordFault}
use Rattle.question_words.specs.Condition.{Condition}
use Rattle.question_words.specs.Cutting.{Cut, cuts, width}
use Rattle.question_words.specs.Fault.{fault_of}
use Rattle.question_words.specs.Reading.{State, finished, read_words, step}
use Rattle.question_words.proofs.FirstWords.{cuts_first, cuts_none}

-- some bytes were cut off
some_cut : (n : ℕ) (t rest : List ℕ) → rest ≡ drop n t → length rest < length t → 0 < n
some_cut n t rest e shorter = let long = ap length e in omega (arith, long, length-drop n t, shorter)

-- what a word and those after it come to
pub one_word : (layout : List (List ℕ × Field)) (bytes : ℕ) (t w rest : List ℕ) (s : State) → w ≡ take (width t) t → rest ≡ drop (width t) t → length rest < length t
    → read_words layout bytes (cuts t) s ≡ (step layout (bytes - length t + 1) w s >>= λ after. read_words layout bytes (cuts rest) after)
one_word layout bytes t w rest s e f shorter =
    let some = some_cut (width t) t rest f shorter in
    ap (λ (cs : List Cut). read_words layout bytes cs s) (cuts_first t (omega (arith, shorter)) some)
    ∙ ap (λ (v : List ℕ). step layout (bytes - length t + 1) v s >>= λ after. read_words layout bytes (cuts (drop (width t) t)) after) (sym e)
    ∙ ap (λ (v : List ℕ). step layout (bytes - length t + 1) w s >>= λ after. read_words layout bytes (cuts v) after) (sym f)

pub word_taken : (layout : List (List ℕ × Field)) (bytes : ℕ) (t w rest : List ℕ) (s after : State) → w ≡ take (width t) t → rest ≡ drop (width t) t → length rest < length t
    → step layout (bytes - length t + 1) w s ≡ Ok after → read_words layout bytes (cuts rest) after ≡ read_words layout bytes (cuts t) s
word_taken layout bytes t w rest s after e f shorter h =
    sym (one_word layout bytes t w rest s e f shorter ∙ ap (λ (r : Result State WordFault). r >>= λ next. read_words layout bytes (cuts rest) next) h)

pub word_refused : (layout : List (List ℕ × Field)) (bytes : ℕ) (t w rest : List ℕ) (s : State) (fault : ReadFault) (whole : Result Condition WordFault)
    → w ≡ take (width t) t → rest ≡ drop (width t) t → length rest < length t → read_words layout bytes (cuts t) s ≡ whole
    → IfSome (fault_of fault) (λ f. step layout (bytes - length t + 1) w s ≡ Err f) → IfSome (fault_of fault) (λ f. whole ≡ Err f)
word_refused layout bytes t w rest s Memory whole e f shorter same h = h
word_refused layout bytes t w rest s (Word fault) whole e f shorter same h =
    sym same ∙ one_word layout bytes t w rest s e f shorter ∙ ap (λ (r : Result State WordFault). r >>= λ next. read_words layout bytes (cuts rest) next) h

-- nothing is left to read
pub at_end : (layout : List (List ℕ × Field)) (bytes : ℕ) (t : List ℕ) (s : State) → length t ≡ 0 → read_words layout bytes (cuts t) s ≡ finished (bytes + 1) s.stage s.before
at_end layout bytes [] s e = ap (λ (cs : List Cut). read_words layout bytes cs s) cuts_none
at_end layout bytes (b ∷ t) s e = absurd (omega (arith, e))
