-- What a user is told of bytes that are no program (profile).
use Rattle.std.specs.Prelude.{ℕ, List, length}
use Rattle.ebpf_decode.specs.Reading.{fields_in}
use Rattle.ebpf_decode.specs.declared.fault.Fault.{Fault}
use Rattle.ebpf_decode.specs.declared.refusal.ProgramRefusal.{ProgramRefusal}

-- a fault of bytes, how many they are, and what its slot has
abbrev pub program_refusal_of : Fault → List ℕ → ProgramRefusal
program_refusal_of fault bytes = record { fault = fault; bytes = length bytes; fields = fields_in fault.slot bytes }
