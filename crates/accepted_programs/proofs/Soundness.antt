-- What is known at a slot is met by the block runs that come there, and a program that is accepted over a sound domain never traps.
use Rattle.std.specs.Prelude.{ℕ, zero, suc, ◌≡◌, ◌+◌, ◌-◌, ◌<◌, ◌≤◌, true, List, length, drop, count_by, is_some, Option, Some, None}
use Rattle.std.proofs.Common.{arith, inl, inr, ◌⊎◌, lit<, refl, ap, subst, sym, ◌∙◌}
use Rattle.std.proofs.lemmas.Bool.{cases_lt, cond_both}
use Rattle.instruction_set.proofs.Proved.{begins, begins_inside}
use Rattle.instruction_set.specs.Program.{instruction_at, instruction_count}
use Rattle.instruction_set.specs.declared.instruction.Instruction.{Instruction}
use Rattle.program_meaning.proofs.Proved.{decided_goes, keeps_group_limit, keeps_read_only, keeps_state, leads_to_instruction, more_fuel_is_the_same, runs_by_step_end}
use Rattle.program_meaning.specs.Cause.{is_exit, least_cause}
use Rattle.program_meaning.specs.Effect.{register}
use Rattle.program_meaning.specs.BlockRun.{BlockRun, block_run_of, continued, ran, state_after_steps}
use Rattle.program_meaning.specs.Places.{AccessesAt}
use Rattle.program_meaning.specs.State.{IsState, State, at_start}
use Rattle.program_meaning.specs.Step.{Ends, Goes, IsAt, after, decided, step_at, step_of}
use Rattle.program_meaning.specs.declared.cause.Cause.{Cause}
use Rattle.program_meaning.specs.declared.end.End.TheVariants.{Exit}
use Rattle.program_meaning.specs.declared.place.Place.{Place}
use Rattle.program_interface.specs.declared.area.Area.TheVariants.{Context, Block, Stack, Scratch}
use Rattle.program_interface.specs.RunSizes.{AreSizes, Sizes}
use Rattle.word_domain.specs.Domain.{IsSound, Operations}
use Rattle.accepted_programs.specs.Accepted.{refusal}
use Rattle.accepted_programs.proofs.CellLaws.{none_known}
use Rattle.accepted_programs.specs.Facts.{facts_at_start, facts_at}
use Rattle.accepted_programs.proofs.Flow.{arrives}
use Rattle.accepted_programs.proofs.Fitting.{HasFittingFields, fitting_fields}
use Rattle.accepted_programs.specs.Emitted.{group_in, most_below, most_emitted}
use Rattle.accepted_programs.proofs.KnownFacts.{known_facts}
use Rattle.accepted_programs.specs.Laws.{AcceptedAccessesLie, AcceptedEmitsNoMore, AcceptedEndsByItself, AcceptedNeverTraps, FactsAreMet}
use Rattle.accepted_programs.specs.Meets.{Meets, MeetsSome}
use Rattle.accepted_programs.specs.Places.{place_known}
use Rattle.accepted_programs.specs.FirstRefusal.{IsPassed}
use Rattle.accepted_programs.proofs.Edges.{Moved}
use Rattle.accepted_programs.proofs.FirstRefusals.{accepted_fails_nowhere}
use Rattle.accepted_programs.proofs.Moves.{moved}
use Rattle.accepted_programs.proofs.Places.{accesses_at}
use Rattle.accepted_programs.proofs.Progress.{fewer, some_left}
use Rattle.program_meaning.specs.TrapFree.{Exits, IsExit}
use Rattle.accepted_programs.proofs.Unhindered.{unhindered}
use Rattle.accepted_programs.specs.declared.facts.Facts.{Facts}
use Rattle.accepted_programs.specs.declared.facts.TheConstants.{CELLS}
use Rattle.accepted_programs.specs.declared.reason.Reason.TheVariants.{EmitLimit}

-- ---- a step that nothing hinders
decided_ends : (s : State) (i : Instruction) (least : Option Cause) → least ≡ None → is_exit i ≡ true
    → decided s i least ≡ Ends (register s 0) s
decided_ends s i None e exits = rw exits refl
decided_ends s i (Some cause) e exits = cc

module _ {D : Type 0} (contains : D → ℕ → Type 0) (operations : Operations D) where
  -- what holds of each state of a block run
  record Stands (program : List (Option Instruction)) (sizes : Sizes) (s : State) : Type 0 where
    is : IsState s
    block_long : length s.memory.block ≡ sizes.block
    here : IsAt program s.slot
    known : MeetsSome contains (facts_at operations sizes.block program s.slot) s
    group : length s.group ≤ sizes.limit

module _ {D : Type 0} {IsFact : D → Type 0} {contains : D → ℕ → Type 0} {operations : Operations D}
    (sound : IsSound IsFact contains operations) where
  start_meets : (bytes context scratch : List ℕ) → Meets contains (facts_at_start operations) (at_start bytes context scratch)
  start_meets bytes context scratch =
      let none = sound.constant 0 (lit< tt) in
      let context_at = sound.pointer Context 0 (lit< tt) in
      let block_at = sound.pointer Block 0 (lit< tt) in
      let scratch_at = sound.pointer Scratch 0 (lit< tt) in
      let stack_end = sound.pointer Stack 512 (lit< tt) in
      record {
        registers =
            (none, (context_at, (block_at, (scratch_at, (none, (none, (none, (none, (none, (none, (stack_end, tt)))))))))));
        cells = λ j d e. absurd (none_known CELLS j d e);
        group = omega arith;
        sum = tt;
        fit = tt;
      }

  module _ (program : List (Option Instruction)) (fields : HasFittingFields program) (sizes : Sizes) (are_sizes : AreSizes sizes) where
    -- ---- a step
    abbrev Holds : State → Type 0
    Holds s = Stands contains operations program sizes s

    next : (i : Instruction) (facts : Facts D) (s : State) → Holds s → step_of program sizes.limit s i ≡ Goes (after s i)
        → instruction_at program s.slot ≡ Some i → facts_at operations sizes.block program s.slot ≡ Some facts
        → Moved contains operations sizes.block i facts s (after s i) → Holds (after s i)
    next i facts s holds goes begins known there =
        let stays = keeps_state program sizes.limit s (after s i) i holds.is goes in
        record {
          is = stays;
          block_long = ap length (keeps_read_only program sizes.limit s (after s i) i goes Block refl) ∙ holds.block_long;
          here = leads_to_instruction program sizes.limit s (after s i) i goes;
          known = arrives sound (after s i) stays sizes.block program i facts s begins known there;
          group = keeps_group_limit program sizes.limit s (after s i) i holds.group goes;
        }

    -- a step leads forward to a state of which the same holds
    record Leads (s : State) : Type 0 where
      to : State
      goes : step_at program sizes.limit s (instruction_at program s.slot) ≡ Some (Goes to)
      holds : Holds to
      forward : s.slot < to.slot

    -- a step ends the block run, or leads on
    abbrev EndsOrLeads : State → Type 0
    EndsOrLeads s = (step_at program sizes.limit s (instruction_at program s.slot) ≡ Some (Ends (register s 0) s)) ⊎ Leads s

    abbrev IsPassedAt : ℕ → Type 0
    IsPassedAt slot = IsPassed operations program sizes slot

    -- ---- a step at a slot that is passed
    module _ (s : State) (holds : Holds s) (passed : IsPassedAt s.slot) where
      passed_by : (i : Instruction) (facts : Facts D) → instruction_at program s.slot ≡ Some i
          → facts_at operations sizes.block program s.slot ≡ Some facts → Meets contains facts s → EndsOrLeads s
      passed_by i facts begins known meets =
          let passes = passed i facts (record { begins = begins; are = known }) in
          let are = known_facts sound.facts sizes.block program s.slot facts known in
          let near = fields.offsets s.slot i begins in
          let into = fields.destinations s.slot i begins in
          let none = unhindered sound program sizes i facts s are_sizes holds.is holds.block_long are meets near passes in
          cond_both (is_exit i) true true (λ _. EndsOrLeads s)
          (λ exits. inl (rw (begins, decided_ends s i (least_cause program sizes.limit s i) none exits) refl))
          (λ runs_on.
          let goes = decided_goes s i (least_cause program sizes.limit s i) none runs_on in
          let there = moved sound program sizes i facts s are_sizes holds.is holds.block_long are meets near into runs_on passes in
          inr
          (record {
            to = after s i;
            goes = rw (begins, goes) refl;
            holds = next i facts s holds goes begins known there;
            forward = there.forward;
          }))

      passed_at : (at : Option Instruction) (known : Option (Facts D)) → instruction_at program s.slot ≡ at
          → facts_at operations sizes.block program s.slot ≡ known → is_some at ≡ true → MeetsSome contains known s → EndsOrLeads s
      passed_at (Some i) (Some facts) begins known here meets = passed_by i facts begins known meets
      passed_at None known begins e here meets = cc
      passed_at (Some i) None begins known here meets = absurd meets

      steps : EndsOrLeads s
      steps = passed_at (instruction_at program s.slot) (facts_at operations sizes.block program s.slot) refl refl holds.here holds.known

    -- ---- a block run
    abbrev run : ℕ → ℕ → State → BlockRun
    run fuel n s = block_run_of program sizes.limit fuel n s

    ended : (fuel n : ℕ) (s : State)
        → step_at program sizes.limit s (instruction_at program s.slot) ≡ Some (Ends (register s 0) s)
        → run (suc fuel) n s ≡ ran (Exit (register s 0)) (n + 1) s
    unfolding block_run_of
    ended fuel n s ends = ap (continued n s (λ t. block_run_of program sizes.limit fuel (n + 1) t)) ends

    led : (fuel n : ℕ) (s to : State) → step_at program sizes.limit s (instruction_at program s.slot) ≡ Some (Goes to)
        → run (suc fuel) n s ≡ run fuel (n + 1) to
    unfolding block_run_of
    led fuel n s to goes = ap (continued n s (λ t. block_run_of program sizes.limit fuel (n + 1) t)) goes

    -- a state that a block run comes to by slots that are passed
    comes : (fuel n : ℕ) (s : State) → Holds s → ((k : ℕ) → k < fuel → IsPassedAt (run k n s).state.slot)
        → Holds (run fuel n s).state
    comes zero n s holds passed = rw (runs_by_step_end program sizes.limit n s).0 holds
    comes (suc fuel) n s holds passed =
        let P : BlockRun → Type 0 = λ r. IsPassedAt r.state.slot in
        elim (steps s holds (subst P (runs_by_step_end program sizes.limit n s).0 (passed 0 (omega arith)))) [
          | inl ends ↦ rw (ended fuel n s ends) holds
          | inr leads ↦ rw (led fuel n s leads.to leads.goes)
              (comes fuel (n + 1) leads.to leads.holds
              (λ k less. subst P (led k n s leads.to leads.goes) (passed (suc k) (omega (arith, less)))))
        ]

    -- where a state accesses memory, at a slot that is passed
    lies_at : (s : State) (at : Option Instruction) (known : Option (Facts D)) (place : Place) → Holds s → IsPassedAt s.slot
        → instruction_at program s.slot ≡ at → facts_at operations sizes.block program s.slot ≡ known → MeetsSome contains known s
        → place_known operations sizes.block at known ≡ Some place → AccessesAt program place s
    lies_at s (Some i) (Some facts) place holds passed begins known meets placed =
        accesses_at sound program sizes i facts s place are_sizes holds.is holds.block_long
        (known_facts sound.facts sizes.block program s.slot facts known) meets (fields.offsets s.slot i begins)
        (passed i facts (record { begins = begins; are = known }) EmitLimit) begins placed
    lies_at s (Some i) None place holds passed begins known meets placed = absurd meets
    lies_at s None known place holds passed begins e meets placed = cc

    -- what holds at the start
    start_holds : is_some (instruction_at program 0) ≡ true → (bytes context scratch : List ℕ) → length bytes ≡ sizes.block
        → IsState (at_start bytes context scratch) → Holds (at_start bytes context scratch)
    start_holds here bytes context scratch long is = record {
      is = is;
      block_long = long;
      here = here;
      known = start_meets bytes context scratch;
      group = omega arith;
    }

    -- a bound on the group, wherever a block run is
    abbrev Bounds : ℕ → Type 0
    Bounds bound = (s : State) → Holds s → length s.group ≤ bound

    -- ---- a block run of a program that is accepted
    module _ (accepted : refusal operations program sizes ≡ None) (bound : ℕ) (bounds : Bounds bound) where
      exits : (most fuel n : ℕ) (s : State) → Holds s → count_by is_some (drop s.slot program) ≤ fuel → n + fuel ≤ most
          → Exits most bound (run fuel n s)
      exits most zero n s holds enough within =
          let some = some_left program s.slot holds.here in absurd (omega (arith, some, enough))
      exits most (suc fuel) n s holds enough within =
          elim (steps s holds (accepted_fails_nowhere operations program sizes accepted s.slot)) [
            | inl ends ↦ rw (ended fuel n s ends) (record { exit = tt; steps = omega (arith, within); group = bounds s holds })
            | inr leads ↦
                let less = fewer program s.slot leads.to.slot holds.here leads.forward in
                rw (led fuel n s leads.to leads.goes)
                (exits most fuel (n + 1) leads.to leads.holds (omega (arith, less, enough)) (omega (arith, within)))
          ]

      -- a block run from its start on
      starts : is_some (instruction_at program 0) ≡ true → (bytes context scratch : List ℕ) → length bytes ≡ sizes.block
          → IsState (at_start bytes context scratch)
          → Exits (instruction_count program) bound (run (instruction_count program) 0 (at_start bytes context scratch))
      starts here bytes context scratch long is =
          let count = instruction_count program in
          exits count count 0 (at_start bytes context scratch) (start_holds here bytes context scratch long is) (omega arith)
          (omega arith)

    -- ---- the greatest bound on the group
    most_at : (n slot : ℕ) (facts : Facts D) → slot < n → facts_at operations sizes.block program slot ≡ Some facts
        → facts.emitted ≤ most_below operations program sizes.block n
    most_at zero slot facts within known = absurd (omega (arith, within))
    most_at (suc n) slot facts within known = elim (cases_lt slot n) [
      | inl below ↦ let earlier = most_at n slot facts below known in omega (arith, earlier)
      | inr from ↦
          let same : slot ≡ n = omega arith in
          let P : ℕ → Type 0 = λ k. facts_at operations sizes.block program k ≡ Some facts in
          let here = ap group_in (subst P same known) in
          omega (arith, here)
    ]

    group_most : (s : State) (known : Option (Facts D)) → s.slot < length program
        → facts_at operations sizes.block program s.slot ≡ known → MeetsSome contains known s
        → length s.group ≤ most_emitted operations program sizes.block
    group_most s (Some facts) inside known meets =
        let above = most_at (length program) s.slot facts inside known in omega (arith, above, meets.group)
    group_most s None inside known meets = absurd meets

  -- ---- the theorems
  pub accepted_never_traps : AcceptedNeverTraps operations
  accepted_never_traps program is sizes are_sizes accepted =
      starts program (fitting_fields program is) sizes are_sizes accepted sizes.limit (λ s holds. holds.group) (begins program is)

  pub accepted_ends_by_itself : AcceptedEndsByItself operations
  accepted_ends_by_itself program is sizes are_sizes accepted bytes context scratch long starting fuel enough =
      let count = instruction_count program in
      let start = at_start bytes context scratch in
      let ends = accepted_never_traps program is sizes are_sizes accepted bytes context scratch long starting in
      let all : count + (fuel - count) ≡ fuel = omega (arith, enough) in
      let P : ℕ → Type 0 = λ k. block_run_of program sizes.limit k 0 start ≡ block_run_of program sizes.limit count 0 start in
      let same = subst P all
      (more_fuel_is_the_same program sizes.limit count (fuel - count) 0 start (λ out. subst IsExit out ends.exit)) in
      (subst (Exits count sizes.limit) (sym same) ends, same)

  pub accepted_emits_no_more : AcceptedEmitsNoMore operations
  accepted_emits_no_more program is sizes are_sizes accepted bytes context scratch long starting =
      let fields = fitting_fields program is in
      let run = starts program fields sizes are_sizes accepted (most_emitted operations program sizes.block)
      (λ s holds. group_most program fields sizes are_sizes s (facts_at operations sizes.block program s.slot)
      (begins_inside program s.slot holds.here) refl holds.known)
      (begins program is) bytes context scratch long starting in
      run.group

  pub accepted_accesses_lie : AcceptedAccessesLie operations
  accepted_accesses_lie program is sizes are_sizes accepted bytes context scratch long starting steps place placed =
      let fields = fitting_fields program is in
      let start = start_holds program fields sizes are_sizes (begins program is) bytes context scratch long starting in
      let passed = accepted_fails_nowhere operations program sizes accepted in
      let s = state_after_steps program sizes.limit steps (at_start bytes context scratch) in
      let there = comes program fields sizes are_sizes steps 0 (at_start bytes context scratch) start (λ k less. passed _) in
      lies_at program fields sizes are_sizes s _ _ place there (passed s.slot) refl refl there.known placed

  pub facts_are_met : FactsAreMet contains operations
  facts_are_met program is sizes are_sizes bytes context scratch long starting steps passed =
      let fields = fitting_fields program is in
      let start = start_holds program fields sizes are_sizes (begins program is) bytes context scratch long starting in
      (comes program fields sizes are_sizes steps 0 (at_start bytes context scratch) start passed).known
