-- What Result gives of a question: a word for each of its tallies.
use Rattle.std.specs.Prelude.{ℕ, pos, ◌≡◌, ◌-◌, ◌<◌, ◌%◌, ◌^◌, List, [], ◌∷◌, length, get_or, map}
use Rattle.std.specs.Int.{int_rem_euclid}
use Rattle.std.specs.List.{flat_map}
use Rattle.common_definitions.specs.Bytes.{field}
use Rattle.nvme_entry.specs.declared.command.RunCommand.{RunCommand}
use Rattle.device_meaning.specs.Admission.{source_blocks}
use Rattle.device_meaning.specs.BlockRuns.{no_scratch}
use Rattle.device_meaning.specs.Judging.{interval_judge}
use Rattle.device_meaning.specs.Reached.{IsReached}
use Rattle.device_meaning.specs.State.{State}
use Rattle.record_questions.specs.Asked.{IsQuestion}
use Rattle.record_questions.specs.Question.{matching, value_of}
use Rattle.record_questions.specs.Tallies.{IsGreatest, IsLeast, groups, records_of, tallied_of, tally_from, total_of, value_at, word_at}
use Rattle.record_questions.specs.declared.question.Tally.{Tally}
use Rattle.record_questions.specs.declared.question.Tally.TheVariants.{Count, Sum, Least, Greatest}
use Rattle.record_questions.specs.declared.question.Question.{Question}

-- the records of blocks that match, in order
abbrev pub matches_of : Question → ℕ → List (List ℕ) → List (List ℕ)
matches_of q argument blocks = flat_map (matching q argument) blocks

-- scratch of zeros, with all these records tallied
abbrev pub tallies_of : Question → ℕ → List (List ℕ) → List ℕ
tallies_of q argument blocks = tallied_of q (matches_of q argument blocks) no_scratch

-- A word is what a tally of records comes to: their number or the sum of a field, modulo 2^64, or the least or the greatest of a
-- field. The word of a greatest is its rank, and that of a least 2^64 - 1 minus its rank. Of no records both are 0.
abbrev pub ComesTo : Tally → List (List ℕ) → ℕ → Type 0
ComesTo Count rs word = word ≡ length rs % 2 ^ 64
ComesTo (Sum f) rs word = pos word ≡ int_rem_euclid (total_of f rs) (pos (2 ^ 64))
ComesTo (Least f) [] word = word ≡ 0
ComesTo (Least f) (r ∷ rs) word = IsLeast (map (value_of f) (r ∷ rs)) (value_at f.sign (2 ^ 64 - 1 - word))
ComesTo (Greatest f) [] word = word ≡ 0
ComesTo (Greatest f) (r ∷ rs) word = IsGreatest (map (value_of f) (r ∷ rs)) (value_at f.sign word)

-- a word that is so, and that the steps of the tally make of 0, record by record
pub record IsWordOf (t : Tally) (rs : List (List ℕ)) (word : ℕ) : Type 0 where
  pub tallied : word ≡ tally_from t rs 0
  pub comes_to : ComesTo t rs word

-- each tally of each group, counted from 0, has a word of these bytes: that of the tally over those of these records that are of the group
abbrev pub HasWords : Question → List (List ℕ) → List ℕ → Type 0
HasWords q rs bytes =
    (group i : ℕ) → group < groups q.by → i < length q.tallies.items
    → IsWordOf (get_or q.tallies.items i Count) (records_of q.by group rs) (field bytes (word_at q group i) 8)

-- A device is in a state that events leave, a question can be asked of its blocks, and a Run names some of them. Then the word of a tally
-- of a group is what the tally asks for, over the records that match and are of the group: their number, or the sum, the least or the
-- greatest of a field of them. Where the question has no groups, all that match are of the one that there is.
abbrev pub ResultsHaveWords : Type 0
ResultsHaveWords =
    (s : State) (command : RunCommand) (q : Question) → IsReached interval_judge s → IsQuestion s.namespace.block q
    → let source = source_blocks s.namespace command in
    HasWords q (matches_of q command.argument source) (tallies_of q command.argument source)
