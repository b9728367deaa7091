-- Why a question has no accepted program.
use Rattle.std.specs.Prelude.{ℕ, List, [], ◌∷◌, ◌≡◌, ◌<◌, ◌≤◌, ◌+◌, ◌*◌, length, max, Some}
use Rattle.program_interface.specs.RunSizes.{Sizes}
use Rattle.program_interface.specs.declared.TheConstants.{MOST_SLOTS}
use Rattle.program_interface.specs.declared.area.TheConstants.{SCRATCH_BYTES, STACK_BYTES}
use Rattle.program_interface.specs.declared.frame.TheConstants.{FRAME_LENGTH_BYTES}
use Rattle.accepted_programs.specs.Accepted.{refusal}
use Rattle.interval_domain.specs.Intervals.{intervals}
use Rattle.question_compiler.specs.declared.fault.QuestionFault.{QuestionFault}
use Rattle.question_compiler.specs.declared.fault.QuestionFault.TheVariants as fault
use Rattle.record_questions.specs.Code.{counted, question_program}
use Rattle.record_questions.specs.Asked.{IsQuestion, emitted_bytes, stacked_bytes}
use Rattle.record_questions.specs.Tallies.{words_of}
use Rattle.record_questions.specs.declared.question.ByteRange.{ByteRange}
use Rattle.record_questions.specs.declared.question.Question.{Question}

-- the byte of a block at which a question's records end
abbrev pub records_end : Question → ℕ
records_end q = q.first + q.count * q.size

-- the bytes of the frame that a match takes, if something of it is emitted
abbrev pub frame_bytes : List ByteRange → ℕ
frame_bytes [] = 0
frame_bytes (range ∷ ranges) = FRAME_LENGTH_BYTES + emitted_bytes (range ∷ ranges)

-- the bytes that are emitted for a block whose records all match
abbrev pub most_emitted : Question → ℕ
most_emitted q = q.count * frame_bytes q.emitted.items

-- the byte of a record at which what is emitted of it ends
abbrev pub emitted_end : List ByteRange → ℕ
emitted_end [] = 0
emitted_end (range ∷ ranges) = max (range.offset + range.size) (emitted_end ranges)

-- what each fault says of the question and the sizes that were asked for
abbrev pub IsFaultOf : Question → Sizes → QuestionFault → Type 0
IsFaultOf q sizes (fault.RecordsPassBlock end block) = (end ≡ records_end q) × (block ≡ sizes.block) × (block < end)
IsFaultOf q sizes (fault.EmittedPassRecord end size) = (end ≡ emitted_end q.emitted.items) × (size ≡ q.size) × (size < end)
IsFaultOf q sizes (fault.EmittedPassStack count) =
    (count ≡ counted (stacked_bytes q.emitted.items)) × (STACK_BYTES < stacked_bytes q.emitted.items)
IsFaultOf q sizes (fault.TooManyTallies count) = (count ≡ counted (words_of q)) × (SCRATCH_BYTES < 8 * words_of q)
IsFaultOf q sizes fault.NoQuestion =
    (records_end q ≤ sizes.block) × (emitted_end q.emitted.items ≤ q.size) × (stacked_bytes q.emitted.items ≤ STACK_BYTES)
    × (8 * words_of q ≤ SCRATCH_BYTES) × (¬ IsQuestion sizes.block q)
IsFaultOf q sizes (fault.OverLimit needed limit) = (needed ≡ most_emitted q) × (limit ≡ sizes.limit) × (limit < needed)
IsFaultOf q sizes (fault.TooLong count) = (count ≡ counted (length (question_program q))) × (MOST_SLOTS < length (question_program q))
IsFaultOf q sizes (fault.Refused why) = refusal intervals (question_program q) sizes ≡ Some why
IsFaultOf q sizes fault.Memory = Unit {0}

-- none of them is so, except Memory, which says nothing
abbrev pub HasNoFault : Question → Sizes → Type 0
HasNoFault q sizes = (why : QuestionFault) → IsFaultOf q sizes why → why ≡ fault.Memory
