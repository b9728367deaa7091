-- Why `asm` makes no program, and `disasm` prints none (profile).
use Rattle.std.specs.Prelude.{◌≡◌, ℕ, List, Option, Err, IfSome}
use Rattle.ebpf_asm.specs.Assembly.{assembled}
use Rattle.ebpf_decode.specs.Reading.{decoded_program}
use Rattle.command_files.specs.declared.failure.Failure.{Failure}
use Rattle.command_files.specs.declared.failure.Failure.TheVariants.{NoMemory, CannotPrint, CannotRead, CannotWrite, AssemblyRefused, ProgramRefused}

-- why `asm` makes no program: the first fault of the text file's bytes, where these are told, a file that can't be read or
-- written, or want of memory, and nothing else
abbrev pub AsmFails : (List ℕ → Option (List ℕ)) → List ℕ → List ℕ → Failure → Type 0
AsmFails contents text_file program_file (AssemblyRefused told refusal) =
    (told.now ≡ text_file) × IfSome (contents text_file) (λ text. assembled text ≡ Err refusal.fault)
AsmFails contents text_file program_file (CannotRead told cause) = told.now ≡ text_file
AsmFails contents text_file program_file (CannotWrite told cause) = told.now ≡ program_file
AsmFails contents text_file program_file NoMemory = Unit {0}
AsmFails contents text_file program_file _ = ⊥

-- why there is no program in a file: the first fault of the file's bytes, where these are told, a file that can't be read, or want of
-- memory, and nothing else
abbrev pub IsNoProgram : Option (List ℕ) → List ℕ → Failure → Type 0
IsNoProgram bytes path (ProgramRefused told refusal) = (told.now ≡ path) × IfSome bytes (λ bytes. decoded_program bytes ≡ Err refusal.fault)
IsNoProgram bytes path (CannotRead told cause) = told.now ≡ path
IsNoProgram bytes path NoMemory = Unit {0}
IsNoProgram bytes path _ = ⊥

-- why `disasm` doesn't print it: that, or an output that fails
abbrev pub DisasmFails : Option (List ℕ) → List ℕ → Failure → Type 0
DisasmFails bytes path CannotPrint = Unit {0}
DisasmFails bytes path failure = IsNoProgram bytes path failure
