-- Why there is no program in a file.
use Rattle.std.proofs.Common.{◌≡◌, ℕ, List, Option, Err, IfSome, refl, subst}
use Rattle.std.specs.Borrow.{Bor}
use Rattle.ebpf_decode.specs.Reading.{decoded_program, fault_in}
use Rattle.ebpf_decode.specs.declared.fault.DecodeFault.{DecodeFault}
use Rattle.ebpf_decode.specs.declared.fault.DecodeFault.TheVariants.{Fault, Memory}
use Rattle.command_files.specs.UserTold.{IsUnread}
use Rattle.command_files.specs.declared.failure.Failure.{Failure}
use Rattle.command_files.specs.declared.failure.Failure.TheVariants.{CannotPrint}
use Rattle.command_files.proofs.Proved.{read_holds, same_name, unread_holds}
use Rattle.command_programs.specs.UserTold.{DisasmFails, IsNoProgram}
use Rattle.command_programs.specs.steps.Told.{told_of_program}

-- it can't be read
pub none_unread : (bytes : Option (List ℕ)) (path : Bor (List ℕ)) (failure : Failure) → IsUnread path failure → IsNoProgram bytes path.now failure
none_unread bytes path = unread_holds path (IsNoProgram bytes path.now) (λ told cause is. same_name is refl) tt

-- its bytes are none
pub none_refused : (contents : List ℕ → Option (List ℕ)) (path : Bor (List ℕ)) (read slice told : List ℕ) (error : DecodeFault) → slice ≡ read
    → IfSome (contents path.now) (λ bytes. read ≡ bytes) → IfSome (fault_in error) (λ fault. decoded_program slice ≡ Err fault)
    → IsNoProgram (contents path.now) path.now (told_of_program path told error)
none_refused contents path read slice told (Fault fault) slice_is is found =
    (refl, read_holds contents path.now path.now read slice (λ bytes. decoded_program bytes ≡ Err fault) refl slice_is is found)
none_refused contents path read slice told Memory slice_is is found = tt

-- none is printed
none_printed : (bytes : Option (List ℕ)) (path : List ℕ) (failure : Failure) → IsNoProgram bytes path failure → DisasmFails bytes path failure
none_printed bytes path CannotPrint is = tt
none_printed bytes path _ is = is

pub disasm_fails : (contents : List ℕ → Option (List ℕ)) (path wanted : List ℕ) (failure : Failure) → path ≡ wanted
    → IsNoProgram (contents path) path failure → DisasmFails (contents wanted) wanted failure
disasm_fails contents path wanted failure same is =
    none_printed (contents wanted) wanted failure (subst (λ (p : List ℕ). IsNoProgram (contents p) p failure) same is)
