-- The numbers of the kinds of fault (profile).
use Rattle.std.specs.Prelude.{ℕ}
use Rattle.ebpf_decode.specs.declared.fault.FaultKind.{FaultKind}
use Rattle.ebpf_decode.specs.declared.fault.FaultKind.TheVariants as kinds

-- the number of a fault, by which a user is told of it (profile)
abbrev pub fault_number : FaultKind → ℕ
fault_number kinds.Length = 20
fault_number kinds.Empty = 21
fault_number kinds.TooLong = 22
fault_number kinds.Opcode = 23
fault_number kinds.Register = 24
fault_number kinds.UnusedField = 25
fault_number kinds.CutWide = 26
fault_number kinds.Value = 27
fault_number kinds.NotInProfile = 28
