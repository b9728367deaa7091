-- Programs that are kept, and loaded again.
use Rattle.std.proofs.Common.{◌≡◌, ◌<◌, ◌+◌, ℕ, Bool, List, set, get_or, replicate, Option, Some, None, IfSome, Result, Ok, Err, cond, ap, sym, subst, ◌∙◌, inl, inr, arith, get_or-set_other, get_or-set_same}
use Rattle.std.specs.Prelude.{option_and_then}
use Rattle.std.proofs.lemmas.Bool.{cases_lt, le-leb}
use Rattle.std.proofs.lemmas.List.{length-replicate, length-set}
use Rattle.nvme_entry.specs.declared.program_slot.TheConstants.{PROGRAM_SLOTS}
use Rattle.accepted_programs.proofs.Proved.{none_known, set_known}
use Rattle.kept_device.specs.Kept.{slot_told}
use Rattle.kept_device.specs.declared.kept.KeptProgram.{KeptProgram}
use Rattle.ebpf_decode.specs.Reading.{decoded_program}
use Rattle.ebpf_decode.specs.declared.fault.Fault.{Fault}
use Rattle.instruction_set.specs.Spelling.{program_bytes}
use Rattle.instruction_set.specs.declared.instruction.Instruction.{Instruction}
use Rattle.program_interface.specs.RunSizes.{Sizes}
use Rattle.word_domain.specs.Domain.{Operations}
use Rattle.accepted_programs.specs.Accepted.{refusal}
use Rattle.accepted_programs.specs.declared.reason.Refusal.{Refusal}
use Rattle.word_domain.specs.declared.domain.Domain.{Ghosts}
use Rattle.verifier.specs.Verified.{program_of, sizes_of}
use Rattle.device_meaning.specs.Judging.{accepted_unless, judge_by, judged_by, refused_for_fault, refused_for_reason}
use Rattle.runner.specs.DeviceState.{loaded_of, loaded_slot}
use Rattle.runner.specs.Keeping.{loaded_again, loaded_by, saved_of, slot_again}
use Rattle.runner.specs.declared.loaded_program.LoadedProgram.{LoadedProgram}
use Rattle.runner.specs.Restored.{IsOfBytes}
use Rattle.runner.specs.steps.LoadingAgain.{AreAgain, IsRefused}

module _ {D : Type 0} {domain : Ghosts D} where
  -- what is kept of a program would be loaded again
  pub kept_again : (p : LoadedProgram D domain) → decoded_program (program_bytes (program_of p.prepared)) ≡ Ok (program_of p.prepared)
      → loaded_again (judge_by domain.operations) (sizes_of p.prepared).block (saved_of p) ≡ Some (loaded_of p)
  kept_again p decoded =
      let sizes : Sizes = sizes_of p.prepared in
      let kept = saved_of p in
      ap (λ (fits : Bool). option_and_then (λ (s : Sizes). loaded_by kept (judge_by domain.operations kept.bytes s)) (cond fits (Some sizes) None))
      (le-leb sizes.limit sizes.block p.prepared.are_sizes.fits)
      ∙ ap (λ (read : Result (List (Option Instruction)) Fault). loaded_by kept (judged_by domain.operations sizes read)) decoded
      ∙ ap (λ (why : Option Refusal). loaded_by kept (accepted_unless (program_of p.prepared) why)) p.prepared.accepted

module _ {D : Type 0} (operations : Operations D) where
  -- bytes that decode to no program are refused
  pub faulty_is_refused : (bytes : List ℕ) (sizes : Sizes) (fault : Fault) → decoded_program bytes ≡ Err fault → IsRefused (judge_by operations) bytes sizes
  faulty_is_refused bytes sizes fault read = record {
    why = refused_for_fault fault;
    refused = ap (λ (r : Result (List (Option Instruction)) Fault). judged_by operations sizes r) read;
  }

  -- and so are those of a program for whose refusal there is a reason
  pub unaccepted_is_refused : (bytes : List ℕ) (sizes : Sizes) (program : List (Option Instruction)) (found : Refusal) → decoded_program bytes ≡ Ok program
      → refusal operations program sizes ≡ Some found → IsRefused (judge_by operations) bytes sizes
  unaccepted_is_refused bytes sizes program found read refused = record {
    why = refused_for_reason found;
    refused = ap (λ (r : Result (List (Option Instruction)) Fault). judged_by operations sizes r) read
        ∙ ap (λ (why : Option Refusal). accepted_unless program why) refused;
  }

-- ---- slots

module _ {D : Type 0} {domain : Ghosts D} (block : ℕ) (kept : List (Option KeptProgram)) where
  pub none_again : AreAgain {D = D} {domain = domain} block kept (replicate PROGRAM_SLOTS None) 0
  none_again = record {
    number = length-replicate {A = Option (LoadedProgram D domain)} PROGRAM_SLOTS None;
    each = λ k less. absurd (omega (arith, less));
    sizes = λ k p at. absurd (none_known PROGRAM_SLOTS k p at);
    bytes = λ k less. absurd (omega (arith, less));
  }

  -- one more is again what was kept of it
  pub one_more_again : (slots : List (Option (LoadedProgram D domain))) (n : ℕ) (new : Option (LoadedProgram D domain)) → AreAgain block kept slots n → n < PROGRAM_SLOTS
      → slot_again (judge_by domain.operations) block (slot_told (get_or kept n None)) ≡ Some (loaded_slot new) → IfSome new (λ p. (sizes_of p.prepared).block ≡ block)
      → IfSome (slot_told (get_or kept n None)) IsOfBytes → AreAgain block kept (set slots n new) (n + 1)
  one_more_again slots n new are less again sized bytes = record {
    number = length-set slots n new ∙ are.number;
    each = λ k within. elim (cases_lt k n) [
      | inl before ↦
          are.each k before ∙ ap (λ (o : Option (LoadedProgram D domain)). Some (loaded_slot o)) (sym (get_or-set_other slots n k new None (λ same. absurd (omega (arith, same, before)))))
      | inr behind ↦
          let is : k ≡ n = omega (arith, within, behind) in
          ap (λ (j : ℕ). slot_again (judge_by domain.operations) block (slot_told (get_or kept j None))) is ∙ again
          ∙ ap (λ (o : Option (LoadedProgram D domain)). Some (loaded_slot o))
          (sym (ap (λ (j : ℕ). get_or (set slots n new) j None) is ∙ get_or-set_same slots n new None (omega (arith, are.number, less))))
    ];
    sizes = λ k p at. elim (set_known slots n k new p at) [
      | inl is ↦ subst (λ (o : Option (LoadedProgram D domain)). IfSome o (λ q. (sizes_of q.prepared).block ≡ block)) is.1 sized
      | inr other ↦ are.sizes k p other.1
    ];
    bytes = λ k within. elim (cases_lt k n) [
      | inl before ↦ are.bytes k before
      | inr behind ↦
          let is : n ≡ k = omega (arith, within, behind) in
          subst (λ (j : ℕ). IfSome (slot_told (get_or kept j None)) IsOfBytes) is bytes
    ];
  }
