-- The words of what Result gives of a question.
use Rattle.std.proofs.Common.{ℕ, zero, suc, ◌+◌, ◌*◌, ◌/◌, ◌%◌, ◌<◌, ◌≤◌, ◌≡◌, List, [], ◌∷◌, length, drop, get_or, sym, refl, ap, ◌∙◌, subst, arith, lit<}
use Rattle.std.proofs.lemmas.Nat.{mul-le}
use Rattle.std.specs.List.{AllByRecursion, flat_map}
use Rattle.std.proofs.lemmas.List.{get_or-drop, get_or-replicate, length-replicate}
use Rattle.common_definitions.proofs.Proved.{all_append, all_drop, all_same, all_take, bytes_from, bytes_to}
use Rattle.common_definitions.specs.Bytes.{AreBytes, field, pieces}
use Rattle.emit_append.proofs.Proved.{FitsByte, by_place}
use Rattle.image_store.specs.Namespace.{IsNamespace, ZonedNamespace, zone_at}
use Rattle.nvme_entry.specs.declared.command.RunCommand.{RunCommand}
use Rattle.program_interface.specs.declared.area.TheConstants.{SCRATCH_BYTES}
use Rattle.program_meaning.proofs.Proved.{same_number}
use Rattle.device_meaning.proofs.Proved.{reached_fine}
use Rattle.device_meaning.specs.Admission.{source_blocks}
use Rattle.device_meaning.specs.BlockRuns.{AreScratch, no_scratch}
use Rattle.device_meaning.specs.Judging.{IsSoundJudge, interval_judge}
use Rattle.question_runs.proofs.Runs.{IsWhole, kept_all}
use Rattle.question_runs.specs.Words.{ComesTo, HasWords, ResultsHaveWords, matches_of}
use Rattle.record_questions.specs.Question.{matches, matching, records_in}
use Rattle.record_questions.specs.Tallies.{TalliesAreTotals, WordsAreTallied, groups, is_of, records_of, tallied_of, tally_from, word_at, words_of}
use Rattle.record_questions.specs.declared.question.Tally.{Tally}
use Rattle.record_questions.specs.declared.question.Tally.TheVariants.{Count, Sum, Least, Greatest}
use Rattle.record_questions.specs.declared.question.Question.{Question}

-- ---- source blocks have a block's bytes

blocks_by_place : (block : ℕ) (blocks : List (List ℕ)) → ((i : ℕ) → i < length blocks → length (get_or blocks i []) ≡ block)
    → ((i : ℕ) → AreBytes (get_or blocks i [])) → AllByRecursion (IsWhole block) blocks
blocks_by_place block [] long are = tt
blocks_by_place block (b ∷ bs) long are = (
  record { size = long 0 (omega arith); are = are 0 },
  blocks_by_place block bs (λ i less. long (suc i) (omega (arith, less))) (λ i. are (suc i)),
)

pub source_whole : (ns : ZonedNamespace) (command : RunCommand) → IsNamespace ns
    → AllByRecursion (IsWhole ns.block) (source_blocks ns command)
source_whole ns command is =
    let z = command.lba / ns.size in
    let at = command.lba % ns.size in
    let blocks = (zone_at ns z).blocks in
    all_take (IsWhole ns.block) command.blocks (drop at blocks)
    (all_drop (IsWhole ns.block) at blocks (blocks_by_place ns.block blocks (is.whole z) (is.bytes z)))

-- ---- the records that match are bytes

pieces_are : (size count : ℕ) (bytes : List ℕ) → AreBytes bytes → AllByRecursion AreBytes (pieces size count bytes)
pieces_are size zero bytes are = tt
pieces_are size (suc n) bytes are = (bytes_to size bytes are, pieces_are size n (drop size bytes) (bytes_from size bytes are))

matching_are : (q : Question) (argument : ℕ) (bytes : List ℕ) → AreBytes bytes → AllByRecursion AreBytes (matching q argument bytes)
matching_are q argument bytes are =
    kept_all AreBytes (matches argument q.wanted) (records_in q bytes)
    (pieces_are q.size q.count (drop q.first bytes) (bytes_from q.first bytes are))

matches_are : (q : Question) (argument block : ℕ) (blocks : List (List ℕ)) → AllByRecursion (IsWhole block) blocks
    → AllByRecursion AreBytes (matches_of q argument blocks)
matches_are q argument block [] whole = tt
matches_are q argument block (bytes ∷ blocks) whole =
    all_append AreBytes (matching q argument bytes) (flat_map (matching q argument) blocks)
    (matching_are q argument bytes whole.0.are) (matches_are q argument block blocks whole.1)

-- ---- scratch of zeros

pub no_scratch_is : AreScratch no_scratch
no_scratch_is = record {
  long = length-replicate {A = ℕ} 1024 0;
  are = by_place no_scratch (all_same FitsByte 1024 0 (lit< tt));
}

word_of_none : (at : ℕ) → at + 8 ≤ SCRATCH_BYTES → field no_scratch at 8 ≡ 0
word_of_none at room =
    same_number 8 0 (drop at no_scratch) [] (λ k below.
    get_or-drop at no_scratch k 0 ∙ get_or-replicate SCRATCH_BYTES (at + k) 0 0 (omega (arith, room, below)))

-- a word of a tally ends in scratch
word_ends : (q : Question) (group i : ℕ) → group < groups q.by → i < length q.tallies.items → 8 * words_of q ≤ SCRATCH_BYTES
    → word_at q group i + 8 ≤ SCRATCH_BYTES
word_ends q group i low inside few =
    let n = length q.tallies.items in
    let most : (group + 1) * n ≤ groups q.by * n = mul-le (group + 1) n (groups q.by) n (omega (arith, low)) (omega arith) in
    omega (arith, few, inside, most)

records_are : (q : Question) (group : ℕ) (rs : List (List ℕ)) → AllByRecursion AreBytes rs → AllByRecursion AreBytes (records_of q.by group rs)
records_are q group rs are = kept_all AreBytes (is_of q.by group) rs are

-- ---- words

module _ (words : WordsAreTallied) (known : TalliesAreTotals) where
  comes_to : (t : Tally) (rs : List (List ℕ)) → AllByRecursion AreBytes rs → ComesTo t rs (tally_from t rs 0)
  comes_to Count rs are = known.count rs are
  comes_to (Sum f) rs are = known.sum f rs are
  comes_to (Least f) [] are = refl
  comes_to (Least f) (r ∷ rs) are = known.least f (r ∷ rs) are (omega arith)
  comes_to (Greatest f) [] are = refl
  comes_to (Greatest f) (r ∷ rs) are = known.greatest f (r ∷ rs) are (omega arith)

  has_words : (q : Question) (rs : List (List ℕ)) → AllByRecursion AreBytes rs → 8 * words_of q ≤ SCRATCH_BYTES
      → HasWords q rs (tallied_of q rs no_scratch)
  has_words q rs are few group i low inside =
      let t = get_or q.tallies.items i Count in
      let these = records_of q.by group rs in
      let word : field (tallied_of q rs no_scratch) (word_at q group i) 8 ≡ tally_from t these 0 =
      words q rs no_scratch are no_scratch_is.are no_scratch_is.long few group i low inside
      ∙ ap (tally_from t these) (word_of_none (word_at q group i) (word_ends q group i low inside few)) in
      record { tallied = word; comes_to = subst (ComesTo t these) (sym word) (comes_to t these (records_are q group rs are)) }

pub results_have_words : WordsAreTallied → TalliesAreTotals → IsSoundJudge interval_judge → ResultsHaveWords
results_have_words words known sound s command q reached is =
    let source = source_blocks s.namespace command in
    let fine = reached_fine interval_judge sound s reached in
    has_words words known q (matches_of q command.argument source)
    (matches_are q command.argument s.namespace.block source (source_whole s.namespace command fine.is)) is.few_tallies
