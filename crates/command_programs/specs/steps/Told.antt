-- What the user is told of a fault: the file, and the fault with its line, slot or byte.
use Rattle.std.specs.Prelude.{◌≡◌, ℕ, List, Err}
use Rattle.std.specs.Borrow.{Bor}
use Rattle.ebpf_asm.specs.Assembly.{assembled}
use Rattle.ebpf_asm.specs.declared.fault.AssembleFault.{AssembleFault}
use Rattle.ebpf_asm.specs.declared.fault.AssembleFault.TheVariants as assembly
use Rattle.ebpf_decode.specs.Refusal.{program_refusal_of}
use Rattle.ebpf_decode.specs.declared.fault.DecodeFault.{DecodeFault}
use Rattle.ebpf_decode.specs.declared.fault.DecodeFault.TheVariants as program
use Rattle.emit_append.specs.Refusal.{refused_byte}
use Rattle.emit_append.specs.declared.fault.UnpackFault.{UnpackFault}
use Rattle.emit_append.specs.declared.fault.UnpackFault.TheVariants as frame
use Rattle.command_files.specs.declared.failure.Failure.{Failure}
use Rattle.command_files.specs.declared.failure.Failure.TheVariants.{NoMemory, CannotWrite, AssemblyRefused, ProgramRefused, FrameRefused}

-- of a text that isn't assembled: the file, and the fault with its line
abbrev pub IsToldOfAssembly : Bor (List ℕ) → AssembleFault → Failure → Type 0
IsToldOfAssembly path (assembly.Fault fault) (AssemblyRefused told refusal) = (told ≡ path) × (refusal.fault ≡ fault)
IsToldOfAssembly path (assembly.Fault fault) _ = ⊥
IsToldOfAssembly path assembly.Memory failure = failure ≡ NoMemory

-- why no program is made of a text: its first fault, a file that can't be written, or want of memory
abbrev pub MakesNone : Bor (List ℕ) → Bor (List ℕ) → List ℕ → Failure → Type 0
MakesNone text_file program_file text (AssemblyRefused told refusal) = (told ≡ text_file) × (assembled text ≡ Err refusal.fault)
MakesNone text_file program_file text (CannotWrite told cause) = told ≡ program_file
MakesNone text_file program_file text NoMemory = Unit {0}
MakesNone text_file program_file text _ = ⊥

-- of bytes that are no program: the file, and the fault with its slot
abbrev pub told_of_program : Bor (List ℕ) → List ℕ → DecodeFault → Failure
told_of_program path bytes (program.Fault fault) = ProgramRefused path (program_refusal_of fault bytes)
told_of_program path bytes program.Memory = NoMemory

-- of bytes that are no output blocks: the file, and the byte that is refused
abbrev pub IsToldOfFrame : Bor (List ℕ) → UnpackFault → Failure → Type 0
IsToldOfFrame path (frame.At byte) (FrameRefused told refusal) = (told ≡ path) × (refused_byte refusal ≡ byte)
IsToldOfFrame path (frame.At byte) _ = ⊥
IsToldOfFrame path frame.Memory failure = failure ≡ NoMemory
