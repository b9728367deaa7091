-- Operands (profile): registers, numbers, memory operands and the targets of jumps. Each reading gives a value or the fault.
use Rattle.std.specs.Prelude.{ℕ, ℤ, pos, negsuc, neg_ℤ, int_le, ◌-◌, ◌^◌, Bool, ◌&&◌, ◌||◌, ◌==◌, nat_lt, if◌then◌else◌, List, length, take, drop, slice_index, Option, Some, None, Result, Ok, Err, codes}
use Rattle.std.specs.List.{list_all, before_first, position_or_len}
use Rattle.std.specs.Int.{w32, w64, cast_signed, cast_unsigned}
use Rattle.std.specs.Char.{is_digit, is_ascii_digit, is_ascii_alphabetic, is_ascii_alphanumeric}
use Rattle.std.specs.Str.{bytes_eq}
use Rattle.std.specs.Str.Parse.{digits_value}
use Rattle.instruction_set.specs.declared.instruction.Source.{Source}
use Rattle.instruction_set.specs.declared.instruction.Source.TheVariants as sources
use Rattle.ebpf_asm.specs.declared.fault.FaultKind.{FaultKind}
use Rattle.ebpf_asm.specs.declared.fault.FaultKind.TheVariants.{Operand, OutOfRange}
use Rattle.common_definitions.specs.Readings.{◌>>=◌}
use Rattle.ebpf_asm.specs.Fault.{read_both}

-- r0 to r10
abbrev pub register_of : List ℕ → Result ℕ FaultKind
register_of text =
    if bytes_eq text (codes "r10") then Ok 10
    else (if length text == 2 && (slice_index text 0 == 114 && is_ascii_digit (slice_index text 1)) then Ok (slice_index text 1 - 48) else Err Operand)

-- one digit or more; no field takes a number of 2 ^ 64 or more
abbrev pub numeral_of : ℕ → List ℕ → Result ℕ FaultKind
numeral_of radix text =
    if length text == 0 then Err Operand
    else (if list_all (λ byte. is_digit byte radix) text
    then (if nat_lt (digits_value radix text) (2 ^ 64) then Ok (digits_value radix text) else Err OutOfRange)
    else Err Operand)

-- a number without a sign: hexadecimal behind `0x`, else decimal
unfoldable pub magnitude_of : List ℕ → Result ℕ FaultKind
magnitude_of text =
    if slice_index text 0 == 48 && slice_index text 1 == 120 then numeral_of 16 (drop 2 text) else numeral_of 10 text

-- a number: decimal behind a `-`, or one without a sign
unfoldable pub literal_of : List ℕ → Result ℤ FaultKind
literal_of text =
    if slice_index text 0 == 45 then (numeral_of 10 (drop 1 text) >>= λ n. Ok (neg_ℤ (pos n)))
    else (magnitude_of text >>= λ n. Ok (pos n))

-- is it `+` or `-`?
abbrev pub is_sign_byte : ℕ → Bool
is_sign_byte byte = byte == 43 || byte == 45

-- `+` or `-`, and a number without a sign
unfoldable pub signed_of : List ℕ → Result ℤ FaultKind
signed_of text =
    if slice_index text 0 == 43 then (magnitude_of (drop 1 text) >>= λ n. Ok (pos n))
    else (if slice_index text 0 == 45 then (magnitude_of (drop 1 text) >>= λ n. Ok (neg_ℤ (pos n))) else Err Operand)

-- the number, from the least to the greatest that a field takes
abbrev pub in_range : ℤ → ℤ → ℤ → Result ℤ FaultKind
in_range least greatest z = if int_le least z && int_le z greatest then Ok z else Err OutOfRange

-- a number that a field of 16 bits takes
abbrev pub short_of : ℤ → Result ℤ FaultKind
short_of z = in_range (negsuc 32767) (pos 32767) z

-- a number that a field of 32 bits takes
abbrev pub long_of : ℤ → Result ℤ FaultKind
long_of z = in_range (negsuc 2147483647) (pos 2147483647) z

-- an immediate: the low 32 bits of a number from -2 ^ 31 to 2 ^ 32 - 1
unfoldable pub immediate_told : List ℕ → Result ℤ FaultKind
immediate_told text = do
  number ← literal_of text
  immediate ← in_range (negsuc 2147483647) (pos 4294967295) number
  Ok (cast_signed w32 (cast_unsigned w32 immediate))

-- a wide value: the low 64 bits of a number from -2 ^ 63 to 2 ^ 64 - 1
unfoldable pub wide_of : List ℕ → Result ℕ FaultKind
wide_of text = do
  number ← literal_of text
  value ← in_range (negsuc 9223372036854775807) (pos 18446744073709551615) number
  Ok (cast_unsigned w64 value)

-- a register or an immediate
unfoldable pub source_told : List ℕ → Result Source FaultKind
source_told text =
    if slice_index text 0 == 114 then (register_of text >>= λ register. Ok (sources.Register register))
    else (immediate_told text >>= λ value. Ok (sources.Immediate value))

-- what stands between brackets
abbrev pub inside_brackets : List ℕ → Result (List ℕ) FaultKind
inside_brackets text =
    if slice_index text 0 == 91 && slice_index text (length text - 1) == 93 then Ok (take (length text - 2) (drop 1 text)) else Err Operand

-- the offset behind a memory operand's register: none is 0
unfoldable pub offset_of : List ℕ → Result ℤ FaultKind
offset_of text = if length text == 0 then Ok (pos 0) else (signed_of text >>= short_of)

-- a memory operand: in brackets a register and the offset behind it
unfoldable pub memory_told : List ℕ → Result (ℕ × ℤ) FaultKind
memory_told text = do
  inside ← inside_brackets text
  read_both (register_of (before_first is_sign_byte inside)) (offset_of (drop (position_or_len is_sign_byte inside) inside))

-- can a label have this byte: a letter, a digit, or `_`?
abbrev pub is_label_byte : ℕ → Bool
is_label_byte byte = is_ascii_alphanumeric byte || byte == 95

-- can a label begin with this byte: a letter, or `_`?
abbrev pub begins_label : ℕ → Bool
begins_label byte = is_ascii_alphabetic byte || byte == 95

-- is it a label's name?
abbrev pub is_label_name : List ℕ → Bool
is_label_name text = begins_label (slice_index text 0) && list_all is_label_byte text

-- the distance of a jump, which is 0 where a label stands in its place
unfoldable pub distance_told : (ℤ → Result ℤ FaultKind) → List ℕ → Result ℤ FaultKind
distance_told in_field text =
    if is_sign_byte (slice_index text 0) then (signed_of text >>= in_field)
    else (if is_label_name text then Ok (pos 0) else Err Operand)

-- the label that a text is, if it is one
abbrev pub label_of : List ℕ → Option (List ℕ)
label_of text = if is_label_name text then Some text else None
