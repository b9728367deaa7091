-- The program of a question.
use Rattle.std.specs.Prelude.{ℕ, ℤ, zero, suc, pos, neg_ℤ, Bool, true, false, not, ◌&&◌, ◌+◌, ◌*◌, ◌/◌, ◌%◌, ◌-◌, ◌^◌, min, nat_le, replicate, drop, length, int_lt, int_le, if◌then◌else◌, List, [], ◌∷◌, ◌++◌, Option, Some, None}
use Rattle.std.specs.Int.{w64, cast_unsigned}
use Rattle.byteorder.specs.Endian.{little_number}
use Rattle.instruction_set.specs.Instruction.{size_of}
use Rattle.instruction_set.specs.Program.{slots_of, slots_taken}
use Rattle.instruction_set.specs.declared.instruction.Instruction.{Instruction}
use Rattle.instruction_set.specs.declared.instruction.Instruction.TheVariants.{Load, LoadImmediate, Arithmetic, Branch, Call, Exit, Jump, MoveSigned, Negate, StoreRegister, SwapBytes}
use Rattle.instruction_set.specs.declared.instruction.Source.{Source}
use Rattle.instruction_set.specs.declared.instruction.Source.TheVariants.{Immediate, Register}
use Rattle.instruction_set.specs.declared.operation.Operation.TheVariants.{Add, Subtract, Multiply, Move}
use Rattle.instruction_set.specs.declared.operation.Relation.{Relation}
use Rattle.instruction_set.specs.declared.operation.Relation.TheVariants as jumps
use Rattle.instruction_set.specs.declared.operation.SignExtension.{SignExtension}
use Rattle.instruction_set.specs.declared.operation.SignExtension.TheVariants.{Bits8To64, Bits16To64, Bits32To64}
use Rattle.instruction_set.specs.declared.operation.Size.{Size}
use Rattle.instruction_set.specs.declared.operation.Size.TheVariants.{Byte, HalfWord, Word, DoubleWord}
use Rattle.instruction_set.specs.declared.operation.Swap.TheVariants.{ToBig}
use Rattle.instruction_set.specs.declared.operation.SwapSize.{SwapSize}
use Rattle.instruction_set.specs.declared.operation.SwapSize.TheVariants as kept
use Rattle.instruction_set.specs.declared.operation.Width.TheVariants.{Bits64}
use Rattle.program_interface.specs.declared.frame.TheConstants.{EMIT}
use Rattle.record_questions.specs.Asked.{emitted_bytes}
use Rattle.record_questions.specs.declared.question.Sign.{Sign}
use Rattle.record_questions.specs.declared.question.Sign.TheVariants.{Unsigned, Signed}
use Rattle.record_questions.specs.declared.question.ByteOrder.{ByteOrder}
use Rattle.record_questions.specs.declared.question.ByteOrder.TheVariants.{Little, Big}
use Rattle.record_questions.specs.declared.question.Field.{Field}
use Rattle.record_questions.specs.declared.question.Comparison.{Comparison}
use Rattle.record_questions.specs.declared.question.Comparison.TheVariants.{Equal, NotEqual, Less, LessOrEqual, Greater, GreaterOrEqual}
use Rattle.record_questions.specs.declared.question.Operand.{Operand}
use Rattle.record_questions.specs.declared.question.Operand.TheVariants as operands
use Rattle.record_questions.specs.declared.question.Predicate.{Predicate}
use Rattle.record_questions.specs.declared.question.Predicate.TheVariants.{Compare, Bytes, And', Or', Not'}
use Rattle.record_questions.specs.declared.question.ByteRange.{ByteRange}
use Rattle.record_questions.specs.declared.question.Tally.{Tally}
use Rattle.record_questions.specs.declared.question.Tally.TheVariants.{Count, Sum, Least, Greatest}
use Rattle.record_questions.specs.declared.question.Grouping.{Grouping}
use Rattle.record_questions.specs.declared.question.Question.{Question}

-- a number, as far as 64 bits count
abbrev pub counted : ℕ → ℕ
counted n = min n (2 ^ 64 - 1)

-- how many slots instructions take
abbrev pub slot_count : List Instruction → ℕ
slot_count [] = 0
slot_count (i ∷ is) = slots_taken i + slot_count is

-- ---- loads: R6 has the block's address

-- which bytes of a loaded number are to be put in the other order
abbrev pub swap_of : ByteOrder → Size → Option SwapSize
swap_of Little size = None
swap_of Big Byte = None
swap_of Big HalfWord = Some kept.Bits16
swap_of Big Word = Some kept.Bits32
swap_of Big DoubleWord = Some kept.Bits64

-- how a loaded number is to be extended to 64 bits
abbrev pub extension_of : Sign → Size → Option SignExtension
extension_of Unsigned size = None
extension_of Signed Byte = Some Bits8To64
extension_of Signed HalfWord = Some Bits16To64
extension_of Signed Word = Some Bits32To64
extension_of Signed DoubleWord = None

abbrev pub swap_code : ℕ → Option SwapSize → List Instruction
swap_code register None = []
swap_code register (Some size) = SwapBytes ToBig size register ∷ []

abbrev pub extension_code : ℕ → Option SignExtension → List Instruction
extension_code register None = []
extension_code register (Some extension) = MoveSigned extension register register ∷ []

-- loads a field of the record at a byte of the block into a register
abbrev pub field_code : (register byte : ℕ) → Field → List Instruction
field_code register byte f =
    Load f.size register 6 (pos (byte + f.offset))
    ∷ (swap_code register (swap_of f.order f.size) ++ extension_code register (extension_of f.sign f.size))

abbrev pub some_slots : {X : Type 0} → Option X → ℕ
some_slots None = 0
some_slots (Some x) = 1

-- how many slots that takes
abbrev pub field_slots : Field → ℕ
field_slots f = 1 + (some_slots (swap_of f.order f.size) + some_slots (extension_of f.sign f.size))

-- ---- operands: R8 has the argument, and R5 takes another field, or a number that no immediate holds

abbrev pub is_immediate : ℤ → Bool
is_immediate z = int_le (neg_ℤ (pos (2 ^ 31))) z && int_lt z (pos (2 ^ 31))

abbrev pub source_of : Operand → Source
source_of (operands.Number z) = if is_immediate z then Immediate z else Register 5
source_of operands.Argument = Register 8
source_of (operands.Field f) = Register 5

abbrev pub operand_code : (byte : ℕ) → Operand → List Instruction
operand_code byte (operands.Number z) = if is_immediate z then [] else LoadImmediate 5 (cast_unsigned w64 z) ∷ []
operand_code byte operands.Argument = []
operand_code byte (operands.Field f) = field_code 5 byte f

abbrev pub operand_slots : Operand → ℕ
operand_slots (operands.Number z) = if is_immediate z then 0 else 2
operand_slots operands.Argument = 0
operand_slots (operands.Field f) = field_slots f

-- ---- comparisons

-- the comparison that holds where this one doesn't
abbrev pub opposite : Comparison → Comparison
opposite Equal = NotEqual
opposite NotEqual = Equal
opposite Less = GreaterOrEqual
opposite LessOrEqual = Greater
opposite Greater = LessOrEqual
opposite GreaterOrEqual = Less

-- the jump that is taken where a comparison holds
abbrev pub jump_where : Sign → Comparison → Relation
jump_where sign Equal = jumps.Equal
jump_where sign NotEqual = jumps.NotEqual
jump_where Unsigned Less = jumps.Less
jump_where Unsigned LessOrEqual = jumps.LessOrEqual
jump_where Unsigned Greater = jumps.Greater
jump_where Unsigned GreaterOrEqual = jumps.GreaterOrEqual
jump_where Signed Less = jumps.SignedLess
jump_where Signed LessOrEqual = jumps.SignedLessOrEqual
jump_where Signed Greater = jumps.SignedGreater
jump_where Signed GreaterOrEqual = jumps.SignedGreaterOrEqual

-- the jump of a comparison, after which the program goes on where it holds (`true`), or where it doesn't
abbrev pub jump_of : Sign → Bool → Comparison → Relation
jump_of sign true comparison = jump_where sign (opposite comparison)
jump_of sign false comparison = jump_where sign comparison

-- Of the record at a byte of the block: after it the program goes on where a comparison holds (`true`), or where it doesn't (`false`);
-- else it jumps so many slots further. R4 takes the field.
abbrev pub comparison_code : (byte : ℕ) → Bool → Field → Comparison → Operand → (skip : ℕ) → List Instruction
comparison_code byte goes_on f comparison operand skip =
    field_code 4 byte f
    ++ (operand_code byte operand ++ Branch Bits64 (jump_of f.sign goes_on comparison) 4 (source_of operand) (pos skip) ∷ [])

abbrev pub comparison_slots : Field → Operand → ℕ
comparison_slots f operand = field_slots f + (operand_slots operand + 1)

-- ---- bytes are compared in chunks of 8, the last ones in chunks of 4, 2 and 1

-- the widest chunk of so many bytes
abbrev pub chunk_size : ℕ → Size
chunk_size n = if nat_le 8 n then DoubleWord else (if nat_le 4 n then Word else (if nat_le 2 n then HalfWord else Byte))

-- the chunks of so many bytes
abbrev pub chunk_sizes : ℕ → List Size
chunk_sizes n =
    replicate (n / 8) DoubleWord
    ++ ((if nat_le 4 (n % 8) then Word ∷ [] else [])
    ++ ((if nat_le 2 (n % 4) then HalfWord ∷ [] else []) ++ (if nat_le 1 (n % 2) then Byte ∷ [] else [])))

abbrev pub chunk_field : Size → ℕ → Field
chunk_field size offset = record { size = size; offset = offset; sign = Unsigned; order = Little }

-- the number that a chunk is compared with
abbrev pub chunk_operand : Size → List ℕ → Operand
chunk_operand size bytes = operands.Number (pos (little_number (size_of size) bytes))

abbrev pub chunks_slots : List Size → List ℕ → ℕ
chunks_slots [] bytes = 0
chunks_slots (s ∷ ss) bytes = comparison_slots (chunk_field s 0) (chunk_operand s bytes) + chunks_slots ss (drop (size_of s) bytes)

-- the program goes on after it where the record at a byte of the block has these bytes from an offset on, else it jumps
abbrev pub chunks_code : (byte offset : ℕ) → List Size → List ℕ → (skip : ℕ) → List Instruction
chunks_code byte offset [] bytes skip = []
chunks_code byte offset (s ∷ ss) bytes skip =
    comparison_code byte true (chunk_field s offset) Equal (chunk_operand s bytes) (chunks_slots ss (drop (size_of s) bytes) + skip)
    ++ chunks_code byte (offset + size_of s) ss (drop (size_of s) bytes) skip

-- where the program is to go on if the bytes differ, it jumps over a jump
abbrev pub bytes_code : (byte : ℕ) → Bool → (offset : ℕ) → List ℕ → (skip : ℕ) → List Instruction
bytes_code byte true offset bytes skip = chunks_code byte offset (chunk_sizes (length bytes)) bytes skip
bytes_code byte false offset bytes skip = chunks_code byte offset (chunk_sizes (length bytes)) bytes 1 ++ Jump (pos skip) ∷ []

abbrev pub bytes_slots : Bool → List ℕ → ℕ
bytes_slots true bytes = chunks_slots (chunk_sizes (length bytes)) bytes
bytes_slots false bytes = chunks_slots (chunk_sizes (length bytes)) bytes + 1

-- ---- predicates in general

-- how many slots a test takes, after which the program goes on where the predicate is met, or where it isn't
abbrev pub test_slots : Bool → Predicate → ℕ
test_slots goes_on (Compare f comparison operand) = comparison_slots f operand
test_slots goes_on (Bytes offset bytes) = bytes_slots goes_on bytes.items
test_slots goes_on (And' x p y q) = test_slots true p + test_slots goes_on q
test_slots goes_on (Or' x p y q) = test_slots false p + test_slots goes_on q
test_slots goes_on (Not' x p) = test_slots (not goes_on) p

-- how far the first of two tests jumps: over the second, and on where the second would jump
abbrev pub over : Bool → ℕ → ℕ → ℕ
over true slots skip = slots + skip
over false slots skip = slots

-- Of the record at a byte of the block: after it the program goes on where the predicate is met (`true`), or where it isn't
-- (`false`); else it jumps so many slots further.
abbrev pub test_code : (byte : ℕ) → Bool → Predicate → (skip : ℕ) → List Instruction
test_code byte goes_on (Compare f comparison operand) skip = comparison_code byte goes_on f comparison operand skip
test_code byte goes_on (Bytes offset bytes) skip = bytes_code byte goes_on offset bytes.items skip
test_code byte goes_on (And' x p y q) skip =
    test_code byte true p (over goes_on (test_slots goes_on q) skip) ++ test_code byte goes_on q skip
test_code byte goes_on (Or' x p y q) skip =
    test_code byte false p (over (not goes_on) (test_slots goes_on q) skip) ++ test_code byte goes_on q skip
test_code byte goes_on (Not' x p) skip = test_code byte (not goes_on) p skip

-- ---- what is done of a record that matches: R7 has the address of scratch

-- adds 2^63 to a signed value in R5: words compare as the values do then
abbrev pub rank_code : Sign → List Instruction
rank_code Unsigned = []
rank_code Signed = LoadImmediate 4 (2 ^ 63) ∷ Arithmetic Bits64 Add 5 (Register 4) ∷ []

-- the rank of a field's value, in R5
abbrev pub ranked_code : (byte : ℕ) → Field → List Instruction
ranked_code byte f = field_code 5 byte f ++ rank_code f.sign

abbrev pub rank_slots : Sign → ℕ
rank_slots Unsigned = 0
rank_slots Signed = 3

abbrev pub ranked_slots : Field → ℕ
ranked_slots f = field_slots f + rank_slots f.sign

-- the number that a tally takes of a record, in R5; the least is the greatest of what is left to 2^64 - 1
abbrev pub taken_code : (byte : ℕ) → Tally → List Instruction
taken_code byte Count = []
taken_code byte (Sum f) = field_code 5 byte f
taken_code byte (Least f) = ranked_code byte f ++ Negate Bits64 5 ∷ Arithmetic Bits64 Add 5 (Immediate (neg_ℤ (pos 1))) ∷ []
taken_code byte (Greatest f) = ranked_code byte f

-- changes the word in R4
abbrev pub change_code : Tally → List Instruction
change_code Count = Arithmetic Bits64 Add 4 (Immediate (pos 1)) ∷ []
change_code (Sum f) = Arithmetic Bits64 Add 4 (Register 5) ∷ []
change_code (Least f) = Branch Bits64 jumps.GreaterOrEqual 4 (Register 5) (pos 1) ∷ Arithmetic Bits64 Move 4 (Register 5) ∷ []
change_code (Greatest f) = Branch Bits64 jumps.GreaterOrEqual 4 (Register 5) (pos 1) ∷ Arithmetic Bits64 Move 4 (Register 5) ∷ []

-- tallies the record at a byte of the block in the word at an offset from the address in a register
abbrev pub tally_code : (base byte at : ℕ) → Tally → List Instruction
tally_code base byte at t =
    taken_code byte t ++ Load DoubleWord 4 base (pos at) ∷ (change_code t ++ StoreRegister DoubleWord base 4 (pos at) ∷ [])

abbrev pub tallies_code : (base byte at : ℕ) → List Tally → List Instruction
tallies_code base byte at [] = []
tallies_code base byte at (t ∷ ts) = tally_code base byte at t ++ tallies_code base byte (at + 8) ts

abbrev pub taken_slots : Tally → ℕ
taken_slots Count = 0
taken_slots (Sum f) = field_slots f
taken_slots (Least f) = ranked_slots f + 2
taken_slots (Greatest f) = ranked_slots f

abbrev pub change_slots : Tally → ℕ
change_slots Count = 1
change_slots (Sum f) = 1
change_slots (Least f) = 2
change_slots (Greatest f) = 2

abbrev pub tallies_slots : List Tally → ℕ
tallies_slots [] = 0
tallies_slots (t ∷ ts) = taken_slots t + (change_slots t + 2) + tallies_slots ts

-- Where the value in R5 is that of a group, R3 takes the address of the group's words: each group has so many. Else it jumps over the
-- code of the tallies, which takes so many slots.
abbrev pub base_code : Grouping → (words slots : ℕ) → List Instruction
base_code by words slots =
    Arithmetic Bits64 Subtract 5 (Immediate (pos by.first))
    ∷ Branch Bits64 jumps.GreaterOrEqual 5 (Immediate (pos by.values)) (pos (3 + slots))
    ∷ Arithmetic Bits64 Multiply 5 (Immediate (pos (8 * words)))
    ∷ Arithmetic Bits64 Move 3 (Register 7) ∷ Arithmetic Bits64 Add 3 (Register 5) ∷ []

abbrev pub group_slots : Grouping → ℕ
group_slots by = field_slots by.field + 5

-- tallies the record at a byte of the block in the words of its group
abbrev pub grouped_code : (byte : ℕ) → Option Grouping → List Tally → List Instruction
grouped_code byte None ts = tallies_code 7 byte 0 ts
grouped_code byte (Some by) ts =
    field_code 5 byte by.field ++ (base_code by (length ts) (tallies_slots ts) ++ tallies_code 3 byte 0 ts)

abbrev pub grouped_slots : Option Grouping → List Tally → ℕ
grouped_slots None ts = tallies_slots ts
grouped_slots (Some by) ts = group_slots by + tallies_slots ts

-- emits so many bytes from one of the block on
abbrev pub emit_code : ℕ → ℕ → List Instruction
emit_code at size =
    Arithmetic Bits64 Move 1 (Register 6) ∷ Arithmetic Bits64 Add 1 (Immediate (pos at))
    ∷ Arithmetic Bits64 Move 2 (Immediate (pos size)) ∷ Call EMIT ∷ []

-- copies a chunk from a byte of the block on to the stack, where R10 has its end: so many bytes before that
abbrev pub copy_code : (from left : ℕ) → Size → List Instruction
copy_code from left size = Load size 4 6 (pos from) ∷ StoreRegister size 10 4 (neg_ℤ (pos left)) ∷ []

-- copies chunks, one after another
abbrev pub copies_code : (from left : ℕ) → List Size → List Instruction
copies_code from left [] = []
copies_code from left (s ∷ ss) = copy_code from left s ++ copies_code (from + size_of s) (left - size_of s) ss

-- copies ranges of the record at a byte of the block, one after another
abbrev pub ranges_code : (byte left : ℕ) → List ByteRange → List Instruction
ranges_code byte left [] = []
ranges_code byte left (range ∷ ranges) =
    copies_code (byte + range.offset) left (chunk_sizes range.size) ++ ranges_code byte (left - range.size) ranges

-- emits so many bytes at the end of the stack
abbrev pub emit_stacked_code : ℕ → List Instruction
emit_stacked_code size =
    Arithmetic Bits64 Move 1 (Register 10) ∷ Arithmetic Bits64 Add 1 (Immediate (neg_ℤ (pos size)))
    ∷ Arithmetic Bits64 Move 2 (Immediate (pos size)) ∷ Call EMIT ∷ []

-- puts ranges of the record at a byte of the block together on the stack, and emits them
abbrev pub stacked_code : (byte : ℕ) → List ByteRange → List Instruction
stacked_code byte ranges = ranges_code byte (emitted_bytes ranges) ranges ++ emit_stacked_code (emitted_bytes ranges)

-- emits ranges of the record at a byte of the block in one frame, a single one from where it is
abbrev pub emitted_code : (byte : ℕ) → List ByteRange → List Instruction
emitted_code byte [] = []
emitted_code byte (range ∷ []) = emit_code (byte + range.offset) range.size
emitted_code byte (first ∷ second ∷ more) = stacked_code byte (first ∷ second ∷ more)

abbrev pub ranges_slots : List ByteRange → ℕ
ranges_slots [] = 0
ranges_slots (range ∷ ranges) = 2 * length (chunk_sizes range.size) + ranges_slots ranges

abbrev pub emitted_slots : List ByteRange → ℕ
emitted_slots [] = 0
emitted_slots (range ∷ []) = 4
emitted_slots (first ∷ second ∷ more) = ranges_slots (first ∷ second ∷ more) + 4

abbrev pub match_code : Question → (byte : ℕ) → List Instruction
match_code q byte = grouped_code byte q.by q.tallies.items ++ emitted_code byte q.emitted.items

abbrev pub match_slots : Question → ℕ
match_slots q = grouped_slots q.by q.tallies.items + emitted_slots q.emitted.items

-- ---- records

-- the code of the record at a byte of the block
abbrev pub record_code : Question → (byte : ℕ) → List Instruction
record_code q byte = test_code byte true q.wanted (match_slots q) ++ match_code q byte

-- the code of so many records from a byte of the block on
abbrev pub records_code : Question → ℕ → (byte : ℕ) → List Instruction
records_code q zero byte = []
records_code q (suc n) byte = record_code q byte ++ records_code q n (byte + q.size)

-- keeps the addresses of block and scratch, which an emit clears in R2 and R3, and loads the argument
abbrev pub start_code : List Instruction
start_code =
    Load Word 8 1 (pos 20) ∷ Arithmetic Bits64 Move 6 (Register 2) ∷ Arithmetic Bits64 Move 7 (Register 3) ∷ []

-- the instructions of a question
abbrev pub question_code : Question → List Instruction
question_code q = start_code ++ (records_code q q.count q.first ++ Exit ∷ [])

-- its program
abbrev pub question_program : Question → List (Option Instruction)
question_program q = slots_of (question_code q)
