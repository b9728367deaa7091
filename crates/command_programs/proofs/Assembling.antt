-- What `asm` makes of a file whose bytes are known.
use Rattle.std.proofs.Common.{◌≡◌, ℕ, List, Option, Result, Ok, Err, OnOk, IfSome, ap, sym, subst, ◌∙◌}
use Rattle.std.specs.Borrow.{Bor}
use Rattle.ebpf_asm.specs.Assembly.{assembled, fault_in}
use Rattle.ebpf_asm.specs.declared.fault.AssembleFault.{AssembleFault}
use Rattle.ebpf_asm.specs.declared.fault.AssembleFault.TheVariants.{Fault, Memory}
use Rattle.command_files.specs.declared.failure.Failure.{Failure}
use Rattle.command_files.specs.declared.failure.Failure.TheVariants.{NoMemory, CannotWrite, AssemblyRefused}
use Rattle.command_files.specs.Made.{Made}
use Rattle.command_files.specs.UserTold.{IsUnread}
use Rattle.command_files.proofs.Proved.{read_holds, same_name, unread_holds}
use Rattle.command_programs.specs.MakesProgram.{MakesProgram}
use Rattle.command_programs.specs.UserTold.{AsmFails}
use Rattle.command_programs.specs.steps.Told.{IsToldOfAssembly, MakesNone}

-- a text was read, and then a program was made of it, of the files that the command line names
module _ (contents : List ℕ → Option (List ℕ)) (text_file program_file text slice asked named : List ℕ) (before then after : Option (List Made))
    (is_asked : text_file ≡ asked) (is_named : program_file ≡ named) (slice_is : slice ≡ text) (kept : then ≡ before) where
  pub makes_program : {T E : Type 0} (result : Result T E) → IfSome (contents text_file) (λ bytes. text ≡ bytes)
      → OnOk result (MakesProgram then after program_file (assembled slice))
      → OnOk result (IfSome (contents asked) (λ bytes. MakesProgram before after named (assembled bytes)))
  makes_program (Err error) is makes = tt
  makes_program (Ok done) is makes =
      read_holds contents text_file asked text slice (λ bytes. MakesProgram before after named (assembled bytes)) is_asked slice_is is
      (subst (λ (p : List ℕ). MakesProgram before after p (assembled slice)) is_named
      (subst (λ (made : Option (List Made)). MakesProgram made after program_file (assembled slice)) kept makes))

-- what is told of an error of assembling is the text's fault, or want of memory
pub none_of_fault : (text_file program_file : Bor (List ℕ)) (text : List ℕ) (error : AssembleFault) (failure : Failure) → IsToldOfAssembly text_file error failure
    → IfSome (fault_in error) (λ fault. assembled text ≡ Err fault) → MakesNone text_file program_file text failure
none_of_fault text_file program_file text (Fault fault) (AssemblyRefused told refusal) is found = (is.0, found ∙ ap Err (sym is.1))
none_of_fault text_file program_file text (Fault fault) _ is found = absurd is
none_of_fault text_file program_file text Memory failure is found = subst (λ (f : Failure). MakesNone text_file program_file text f) (sym is) tt

-- the text file couldn't be read
pub fails_unread : (contents : List ℕ → Option (List ℕ)) (text_file : Bor (List ℕ)) (asked named : List ℕ) → text_file.now ≡ asked
    → (failure : Failure) → IsUnread text_file failure → AsmFails contents asked named failure
fails_unread contents text_file asked named is_asked = unread_holds text_file (AsmFails contents asked named) (λ told cause is. same_name is is_asked) tt

-- no program was made of what was read
module _ (contents : List ℕ → Option (List ℕ)) (text_file program_file : Bor (List ℕ)) (asked named : List ℕ) (is_asked : text_file.now ≡ asked) (is_named : program_file.now ≡ named) where
  pub fails_none : (text slice : List ℕ) → slice ≡ text → IfSome (contents text_file.now) (λ bytes. text ≡ bytes)
      → (failure : Failure) → MakesNone text_file program_file slice failure → AsmFails contents asked named failure
  fails_none text slice slice_is is (AssemblyRefused told refusal) fails = (
    same_name fails.0 is_asked,
    read_holds contents text_file.now asked text slice (λ bytes. assembled bytes ≡ Err refusal.fault) is_asked slice_is is fails.1,
  )
  fails_none text slice slice_is is (CannotWrite told cause) fails = same_name fails is_named
  fails_none text slice slice_is is NoMemory fails = tt
  fails_none text slice slice_is is _ fails = absurd fails
