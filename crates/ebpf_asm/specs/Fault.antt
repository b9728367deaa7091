-- What is wrong with a text, and which of two faults is told (profile).
use Rattle.std.specs.Prelude.{ℕ, Result, Ok, Err}
use Rattle.ebpf_asm.specs.declared.fault.FaultKind.{FaultKind}
use Rattle.ebpf_asm.specs.declared.fault.FaultKind.TheVariants.{UnknownMnemonic, Operand, OutOfRange, UnknownLabel, LabelTwice, LabelTooFar, TooLong, NotAscii}

-- the number of a fault, by which a user is told of it (profile)
abbrev pub fault_number : FaultKind → ℕ
fault_number UnknownMnemonic = 1
fault_number Operand = 2
fault_number OutOfRange = 3
fault_number UnknownLabel = 4
fault_number LabelTwice = 5
fault_number LabelTooFar = 6
fault_number TooLong = 7
fault_number NotAscii = 8

-- what two operands are: an operand that can't be read is told before a number that is out of range
abbrev pub read_both : {A B : Type 0} → Result A FaultKind → Result B FaultKind → Result (A × B) FaultKind
read_both (Ok a) (Ok b) = Ok (a, b)
read_both (Ok a) (Err fault) = Err fault
read_both (Err OutOfRange) (Err fault) = Err fault
read_both (Err fault) _ = Err fault
