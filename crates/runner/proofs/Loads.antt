-- A program that is put into a slot that no run uses.
use Rattle.std.proofs.Common.{◌≡◌, ◌≢◌, ℕ, Bool, false, List, [], ◌∷◌, map, set, get_or, Option, Some, None, Result, refl, ap, sym, subst, ◌∙◌, inl, inr, get_or-set_other}
use Rattle.std.specs.Prelude.{◌==◌, ◌||◌}
use Rattle.std.specs.List.{list_any}
use Rattle.std.proofs.lemmas.List.{map-set}
use Rattle.zone_state.specs.declared.status.Status.{Status}
use Rattle.zone_state.specs.declared.status.TheConstants.Status.{SUCCESS}
use Rattle.common_definitions.specs.Checks.{first_failed}
use Rattle.nvme_entry.specs.declared.command.LoadCommand.{LoadCommand}
use Rattle.program_interface.specs.RunSizes.{Sizes}
use Rattle.accepted_programs.proofs.Proved.{set_known}
use Rattle.accepted_programs.specs.declared.reason.Refusal.{Refusal}
use Rattle.ebpf_decode.specs.declared.fault.Fault.{Fault}
use Rattle.instruction_set.specs.declared.instruction.Instruction.{Instruction}
use Rattle.word_domain.specs.Domain.{Operations}
use Rattle.device_meaning.specs.Judging.{Judge, accepted_unless, judge_by, judged_by}
use Rattle.word_domain.specs.declared.domain.Domain.{Ghosts}
use Rattle.verifier.specs.Verified.{program_of, sizes_of}
use Rattle.image_store.specs.Namespace.{ZonedNamespace, zone_at}
use Rattle.zns_commands.specs.Answer.{refused_answer, success_answer}
use Rattle.zns_commands.specs.declared.answer.Answer.{Answer}
use Rattle.zns_commands.proofs.Proved.{grows_by_none}
use Rattle.device_meaning.specs.Admission.{Loaded, SameProgram}
use Rattle.device_meaning.specs.EventReplies.{completed, submission_of}
use Rattle.device_meaning.specs.BlockRuns.{no_scratch}
use Rattle.device_meaning.specs.Happenings.{judged, just_loaded, load_checks, load_unless, sizes_for}
use Rattle.device_meaning.specs.State.{Place, State, in_use, loaded_at, with_slot}
use Rattle.device_meaning.specs.View.{place_of}
use Rattle.device_meaning.proofs.Proved.{not_loaded, same_program}
use Rattle.runner.specs.steps.Answered.{HasLoaded}
use Rattle.runner.specs.DeviceState.{active_of, loaded_slot, device_state}
use Rattle.runner.specs.steps.Loading.{IsLoadable, IsNotAccepted, uses_slot}
use Rattle.runner.specs.steps.Ready.{IsForBlocks, IsReady}
use Rattle.runner.specs.declared.active_run.ActiveRun.{ActiveRun}
use Rattle.runner.specs.declared.loaded_program.LoadedProgram.{LoadedProgram}
use Rattle.runner.proofs.Staying.{Stays, keeps_source, placed_at, places_stay}

-- ---- which slots are used

module _ {D : Type 0} {domain : Ghosts D} where
  pub used_is : (ns : ZonedNamespace) (slots : List (Option (LoadedProgram D domain))) (runs : List (Option ActiveRun)) (slot : ℕ)
      → in_use (device_state ns slots runs) slot ≡ list_any (uses_slot slot) runs
  used_is ns slots [] slot = refl
  used_is ns slots (None ∷ runs) slot = used_is ns slots runs slot
  used_is ns slots (Some a ∷ runs) slot = ap (λ (b : Bool). (a.command.slot == slot) || b) (used_is ns slots runs slot)

-- ---- the program is put there

module _ {D : Type 0} {domain : Ghosts D} (ns : ZonedNamespace) (slots : List (Option (LoadedProgram D domain))) (runs : List (Option ActiveRun)) (load : LoadCommand) (input : List ℕ)
    (new : LoadedProgram D domain) (ready : IsReady ns slots runs)
    (loadable : IsLoadable domain.operations load input (device_state ns slots runs) (program_of new.prepared) (sizes_of new.prepared)) where
  abbrev s : State
  s = device_state ns slots runs

  -- a run uses another slot
  uses_other : (k : ℕ) (a : ActiveRun) → get_or runs k None ≡ Some a → a.command.slot ≢ load.slot
  uses_other k a at = not_loaded s k (place_of ns s.slots (active_of a)) load input (placed_at ns slots runs k a at) loadable.checks

  -- and is seen as before
  stays : (k : ℕ) (a : ActiveRun) → get_or runs k None ≡ Some a → Stays ns ns slots (set slots load.slot (Some new)) a
  stays k a at =
      let same = ap (λ (all : List (Option Loaded)). get_or all a.command.slot None) (map-set loaded_slot slots load.slot (Some new))
      ∙ get_or-set_other s.slots load.slot a.command.slot (loaded_slot (Some new)) None (uses_other k a at) in
      record {
        source = keeps_source ns ns a (ready.running k a at).fits refl (grows_by_none (zone_at ns a.source.zone).blocks);
        program = subst (SameProgram (loaded_at s a.command.slot)) (sym same) (same_program (loaded_at s a.command.slot));
      }

  put : new.result ≡ no_scratch → device_state ns (set slots load.slot (Some new)) runs
      ≡ with_slot s load.slot (Some (just_loaded (program_of new.prepared) load.limit))
  put blank =
      let seen_with : List (Option Loaded) → List (Option Place) → State = λ all places. record { namespace = ns; slots = all; places = places } in
      let loaded : ℕ → List ℕ → Loaded = λ limit result. record { program = program_of new.prepared; limit = limit; result = result } in
      ap (seen_with (map loaded_slot (set slots load.slot (Some new)))) (places_stay ns ns slots (set slots load.slot (Some new)) runs stays)
      ∙ ap (λ (all : List (Option Loaded)). seen_with all s.places) (map-set loaded_slot slots load.slot (Some new))
      ∙ ap (λ (limit : ℕ). seen_with (set s.slots load.slot (Some (loaded limit new.result))) s.places)
      (ap (λ (sizes : Sizes). sizes.limit) loadable.accepted.kept_is)
      ∙ ap (λ (result : List ℕ). seen_with (set s.slots load.slot (Some (loaded load.limit result))) s.places) blank

  pub loads : new.result ≡ no_scratch → HasLoaded (judge_by domain.operations) load input s (device_state ns (set slots load.slot (Some new)) runs) (success_answer 0 0)
  loads blank = record {
    starved = false;
    happening = λ queue entry.
        let sub = submission_of queue entry input in
        ap (λ (why : Option Status). load_unless (judge_by domain.operations) why false sub s load) loadable.checks
        ∙ ap (λ (read : Result (List (Option Instruction)) Fault). judged sub s load (judged_by domain.operations (sizes_for s load) read))
        loadable.accepted.spelled
        ∙ ap (λ (why : Option Refusal). judged sub s load (accepted_unless (program_of new.prepared) why)) loadable.accepted.accepted
        ∙ ap (λ (t : State). completed sub SUCCESS 0 0 [] t) (sym (put blank));
  }

  pub loaded_ready : IsReady ns (set slots load.slot (Some new)) runs
  loaded_ready = record {
    programs = λ k p at. elim (set_known slots load.slot k (Some new) p at) [
      | inl same ↦
          let this : new ≡ p = cc same.1 in
          subst (IsForBlocks ns) this (ap (λ (sizes : Sizes). sizes.block) loadable.accepted.kept_is)
      | inr other ↦ ready.programs k p other.1
    ];
    running = λ k a at.
        let was = ready.running k a at in
        record {
          program = was.program;
          loaded = get_or-set_other slots load.slot a.command.slot (Some new) None (uses_other k a at) ∙ was.loaded;
          accepted = was.accepted;
          fits = was.fits;
          left = was.left;
        };
    apart = ready.apart;
  }

-- ---- or it is refused

pub refuses_checked : (judge : Judge) (load : LoadCommand) (input : List ℕ) (s : State) (status : Status) → Some status ≡ first_failed (load_checks s load input)
    → HasLoaded judge load input s s (refused_answer status)
refuses_checked judge load input s status why = record {
  starved = false;
  happening = λ queue entry.
      ap (λ (o : Option Status). load_unless judge o false (submission_of queue entry input) s load) (sym why);
}

pub refuses_read : {D : Type 0} (operations : Operations D) (load : LoadCommand) (input : List ℕ) (s : State) (sizes : Sizes) (answer : Answer) → None ≡ first_failed (load_checks s load input)
    → sizes ≡ sizes_for s load → IsNotAccepted operations input sizes answer → HasLoaded (judge_by operations) load input s s answer
refuses_read operations load input s sizes answer why same refused = record {
  starved = refused.starved;
  happening = λ queue entry.
      ap (λ (o : Option Status). load_unless (judge_by operations) o refused.starved (submission_of queue entry input) s load) (sym why)
      ∙ refused.happening queue entry s load (sym same);
}
