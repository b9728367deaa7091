-- The judge by the facts of a domain: that of a sound domain is sound, and what it tells is the first that is amiss.
use Rattle.std.proofs.Common.{◌≡◌, ℕ, List, Option, Some, None, Result, Ok, Err, refl, sym, subst, inl, inr}
use Rattle.ebpf_decode.proofs.Proved.{decoded_is_spelled}
use Rattle.ebpf_decode.specs.Laws.{FaultIsFirst}
use Rattle.ebpf_decode.specs.Reading.{decoded_program}
use Rattle.ebpf_decode.specs.declared.fault.Fault.{Fault}
use Rattle.instruction_set.specs.declared.instruction.Instruction.{Instruction}
use Rattle.program_interface.specs.RunSizes.{Sizes}
use Rattle.common_definitions.specs.Bytes.{AreBytes}
use Rattle.std.specs.Prelude.{◌⊎◌}
use Rattle.word_domain.specs.Domain.{Operations}
use Rattle.accepted_programs.specs.Accepted.{refusal}
use Rattle.accepted_programs.specs.Laws.{AcceptedNeverTraps, RefusalIsFirst}
use Rattle.accepted_programs.specs.declared.reason.Refusal.{Refusal}
use Rattle.device_meaning.specs.Judging.{IsSoundJudge, IsUnrefused, JudgedIsFirst, JudgedIsSpelled, JudgedIsUnrefused, ProgramRefused, TellsFirstFault, TellsFirstRefusal, accepted_unless, judge_by, judged_by, refused_for_fault, refused_for_reason}

module _ {D : Type 0} (operations : Operations D) (bytes : List ℕ) (sizes : Sizes) where
  -- ---- what is accepted

  unless_accepts : (program taken : List (Option Instruction)) (why : Option Refusal) → decoded_program bytes ≡ Ok program
      → refusal operations program sizes ≡ why → accepted_unless program why ≡ Ok taken → IsUnrefused operations bytes sizes taken
  unless_accepts program taken (Some why) decoded is made = cc
  unless_accepts program taken None decoded is made =
      let same : program ≡ taken = cc made in
      subst (IsUnrefused operations bytes sizes) same (record { decoded = decoded; unrefused = is })

  judged_accepts : (read : Result (List (Option Instruction)) Fault) (taken : List (Option Instruction)) → decoded_program bytes ≡ read
      → judged_by operations sizes read ≡ Ok taken → IsUnrefused operations bytes sizes taken
  judged_accepts (Err fault) taken decoded made = cc
  judged_accepts (Ok program) taken decoded made = unless_accepts program taken (refusal operations program sizes) decoded refl made

  -- ---- what is told

  module _ (faults : FaultIsFirst) (refusals : RefusalIsFirst operations) (are : AreBytes bytes) where
    unless_tells : (program : List (Option Instruction)) (told : ProgramRefused) (why : Option Refusal) → decoded_program bytes ≡ Ok program
        → refusal operations program sizes ≡ why → accepted_unless program why ≡ Err told → TellsFirstRefusal operations bytes sizes told
    unless_tells program told (Some why) decoded is made =
        let same : refused_for_reason why ≡ told = cc made in
        record { program = program; decoded = decoded; found = why; first = refusals program sizes why is; told = sym same }
    unless_tells program told None decoded is made = cc

    judged_tells : (read : Result (List (Option Instruction)) Fault) (told : ProgramRefused) → decoded_program bytes ≡ read
        → judged_by operations sizes read ≡ Err told → TellsFirstFault bytes told ⊎ TellsFirstRefusal operations bytes sizes told
    judged_tells (Err fault) told decoded made =
        let same : refused_for_fault fault ≡ told = cc made in
        inl (record { fault = fault; first = faults bytes fault are decoded; told = sym same })
    judged_tells (Ok program) told decoded made = inr (unless_tells program told (refusal operations program sizes) decoded refl made)

module _ {D : Type 0} (operations : Operations D) where
  pub judged_is_unrefused : JudgedIsUnrefused operations
  judged_is_unrefused bytes sizes program made = judged_accepts operations bytes sizes (decoded_program bytes) program refl made

  pub judged_is_first : FaultIsFirst → RefusalIsFirst operations → JudgedIsFirst operations
  judged_is_first faults refusals bytes sizes told are made =
      judged_tells operations bytes sizes faults refusals are (decoded_program bytes) told refl made

  -- the bytes spell what it accepts,
  pub judged_is_spelled : JudgedIsSpelled operations
  judged_is_spelled bytes sizes program are made =
      decoded_is_spelled bytes program are (judged_is_unrefused bytes sizes program made).decoded

  -- which never traps where the domain is sound
  pub domains_judge_soundly : AcceptedNeverTraps operations → IsSoundJudge (judge_by operations)
  domains_judge_soundly never bytes sizes program are fit made =
      let is = judged_is_unrefused bytes sizes program made in
      never program (judged_is_spelled bytes sizes program are made).0 sizes fit is.unrefused
