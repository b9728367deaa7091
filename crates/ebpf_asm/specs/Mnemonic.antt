-- Mnemonics (profile): one table, from which a mnemonic has its text and a word its mnemonic.
use Rattle.std.specs.Prelude.{List, ◌++◌, ℕ, Option, find, codes}
use Rattle.std.specs.Str.{bytes_eq}
use Rattle.instruction_set.specs.declared.operation.Width.{Width}
use Rattle.instruction_set.specs.declared.operation.Width.TheVariants as widths
use Rattle.instruction_set.specs.declared.operation.Operation.{Operation}
use Rattle.instruction_set.specs.declared.operation.Operation.TheVariants.{Add, Subtract, Multiply, Divide, SignedDivide, Or, And, LeftShift, RightShift, Modulo, SignedModulo, Xor, Move, ArithmeticShift}
use Rattle.instruction_set.specs.declared.operation.SignExtension.{SignExtension}
use Rattle.instruction_set.specs.declared.operation.SignExtension.TheVariants.{Bits8To32, Bits16To32, Bits8To64, Bits16To64, Bits32To64}
use Rattle.instruction_set.specs.declared.operation.Swap.{Swap}
use Rattle.instruction_set.specs.declared.operation.Swap.TheVariants.{ToLittle, ToBig, Reverse}
use Rattle.instruction_set.specs.declared.operation.SwapSize.{SwapSize}
use Rattle.instruction_set.specs.declared.operation.SwapSize.TheVariants as kept
use Rattle.instruction_set.specs.declared.operation.Size.{Size}
use Rattle.instruction_set.specs.declared.operation.Size.TheVariants as sizes
use Rattle.instruction_set.specs.declared.operation.SignedSize.{SignedSize}
use Rattle.instruction_set.specs.declared.operation.SignedSize.TheVariants as signed_sizes
use Rattle.instruction_set.specs.declared.operation.Relation.{Relation}
use Rattle.instruction_set.specs.declared.operation.Relation.TheVariants.{Equal, Greater, GreaterOrEqual, AnyBitSet, NotEqual, SignedGreater, SignedGreaterOrEqual, Less, LessOrEqual, SignedLess, SignedLessOrEqual}
use Rattle.ebpf_asm.specs.declared.mnemonic.Mnemonic.{Mnemonic}
use Rattle.ebpf_asm.specs.declared.mnemonic.Mnemonic.TheVariants.{LoadImmediate, Load, LoadSigned, StoreImmediate, StoreRegister, Arithmetic, Negate, MoveSigned, SwapBytes, Jump, JumpLong, Branch, Call, Exit}
use Rattle.ebpf_asm.specs.declared.mnemonic.TheConstants.{MNEMONICS}

-- the name of an operation (RFC 9669, 4.1)
abbrev pub operation_name : Operation → List ℕ
operation_name Add = codes "add"
operation_name Subtract = codes "sub"
operation_name Multiply = codes "mul"
operation_name Divide = codes "div"
operation_name SignedDivide = codes "sdiv"
operation_name Or = codes "or"
operation_name And = codes "and"
operation_name LeftShift = codes "lsh"
operation_name RightShift = codes "rsh"
operation_name Modulo = codes "mod"
operation_name SignedModulo = codes "smod"
operation_name Xor = codes "xor"
operation_name Move = codes "mov"
operation_name ArithmeticShift = codes "arsh"

-- the name of a jump by the relation that it tests (RFC 9669, 4.3)
abbrev pub relation_name : Relation → List ℕ
relation_name Equal = codes "jeq"
relation_name Greater = codes "jgt"
relation_name GreaterOrEqual = codes "jge"
relation_name AnyBitSet = codes "jset"
relation_name NotEqual = codes "jne"
relation_name SignedGreater = codes "jsgt"
relation_name SignedGreaterOrEqual = codes "jsge"
relation_name Less = codes "jlt"
relation_name LessOrEqual = codes "jle"
relation_name SignedLess = codes "jslt"
relation_name SignedLessOrEqual = codes "jsle"

-- the 32-bit forms have a `w` at the end
abbrev pub width_suffix : Width → List ℕ
width_suffix widths.Bits32 = codes "w"
width_suffix widths.Bits64 = codes ""

-- what stands for a size behind the name of a load or a store (RFC 9669, 5)
abbrev pub size_suffix : Size → List ℕ
size_suffix sizes.Byte = codes "b"
size_suffix sizes.HalfWord = codes "h"
size_suffix sizes.Word = codes "w"
size_suffix sizes.DoubleWord = codes "dw"

-- the same of a load that extends the sign (RFC 9669, 5.2)
abbrev pub signed_size_suffix : SignedSize → List ℕ
signed_size_suffix signed_sizes.Byte = codes "b"
signed_size_suffix signed_sizes.HalfWord = codes "h"
signed_size_suffix signed_sizes.Word = codes "w"

-- what stands for a sign extension behind the name of a move (RFC 9669, 4.1)
abbrev pub extension_suffix : SignExtension → List ℕ
extension_suffix Bits8To32 = codes "8w"
extension_suffix Bits16To32 = codes "16w"
extension_suffix Bits8To64 = codes "8"
extension_suffix Bits16To64 = codes "16"
extension_suffix Bits32To64 = codes "32"

-- the name of a byte swap (profile)
abbrev pub swap_name : Swap → List ℕ
swap_name ToLittle = codes "le"
swap_name ToBig = codes "be"
swap_name Reverse = codes "swap"

-- what stands for its size behind that (RFC 9669, 4.2)
abbrev pub swap_size_suffix : SwapSize → List ℕ
swap_size_suffix kept.Bits16 = codes "16"
swap_size_suffix kept.Bits32 = codes "32"
swap_size_suffix kept.Bits64 = codes "64"

-- the text of a mnemonic in two parts: what it does, and of which size or width
abbrev pub mnemonic_parts : Mnemonic → List ℕ × List ℕ
mnemonic_parts LoadImmediate = (codes "lddw", codes "")
mnemonic_parts (Load size) = (codes "ldx", size_suffix size)
mnemonic_parts (LoadSigned size) = (codes "ldxs", signed_size_suffix size)
mnemonic_parts (StoreImmediate size) = (codes "st", size_suffix size)
mnemonic_parts (StoreRegister size) = (codes "stx", size_suffix size)
mnemonic_parts (Arithmetic width operation) = (operation_name operation, width_suffix width)
mnemonic_parts (Negate width) = (codes "neg", width_suffix width)
mnemonic_parts (MoveSigned extension) = (codes "movsx", extension_suffix extension)
mnemonic_parts (SwapBytes swap size) = (swap_name swap, swap_size_suffix size)
mnemonic_parts Jump = (codes "ja", codes "")
mnemonic_parts JumpLong = (codes "jaw", codes "")
mnemonic_parts (Branch width relation) = (relation_name relation, width_suffix width)
mnemonic_parts Call = (codes "call", codes "")
mnemonic_parts Exit = (codes "exit", codes "")

-- the text of a mnemonic: its name, and what stands behind that
abbrev pub mnemonic_text : Mnemonic → List ℕ
mnemonic_text mnemonic = (mnemonic_parts mnemonic).0 ++ (mnemonic_parts mnemonic).1

-- the mnemonic whose text a word is
abbrev pub mnemonic_named : List ℕ → Option Mnemonic
mnemonic_named word = find (λ mnemonic. bytes_eq word (mnemonic_text mnemonic)) MNEMONICS
