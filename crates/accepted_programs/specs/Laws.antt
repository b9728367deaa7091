-- What acceptance is worth, and what a refusal tells.
use Rattle.std.specs.Prelude.{ℕ, ◌≡◌, ◌<◌, ◌≤◌, ◌-◌, ◌^◌, false, List, length, Option, Some, None, IfSome, IsSome}
use Rattle.instruction_set.specs.Program.{IsProgram, instruction_count}
use Rattle.instruction_set.specs.declared.instruction.Instruction.{Instruction}
use Rattle.program_meaning.specs.BlockRun.{block_run_of, state_after_steps}
use Rattle.program_meaning.specs.Places.{AccessesLie}
use Rattle.program_meaning.specs.State.{IsState, at_start}
use Rattle.program_meaning.specs.TrapFree.{Exits, NeverTraps}
use Rattle.program_interface.specs.RunSizes.{AreSizes, Sizes}
use Rattle.program_interface.specs.declared.TheConstants.{MOST_SLOTS}
use Rattle.word_domain.specs.Domain.{Operations}
use Rattle.accepted_programs.specs.Accepted.{record_fits, refusal}
use Rattle.accepted_programs.specs.Emitted.{most_emitted}
use Rattle.accepted_programs.specs.Facts.{fact, facts_at}
use Rattle.accepted_programs.specs.FirstRefusal.{IsFirstRefusal, IsPassed}
use Rattle.accepted_programs.specs.Meets.{MeetsSome}
use Rattle.accepted_programs.specs.Places.{place_at}
use Rattle.accepted_programs.specs.declared.facts.Facts.{Facts}
use Rattle.accepted_programs.specs.declared.reason.Refusal.{Refusal}

-- a program that these operations accept never traps
abbrev pub AcceptedNeverTraps : {D : Type 0} → Operations D → Type 0
AcceptedNeverTraps operations = (program : List (Option Instruction)) → IsProgram program → (sizes : Sizes) → AreSizes sizes
    → refusal operations program sizes ≡ None → NeverTraps program sizes.limit sizes.block

-- with at least as much fuel as it has instructions, a program that these operations accept ends by EXIT, after at most as many
-- steps as it has instructions, with a group within the limit, and its block run is the one with just as much fuel
abbrev pub AcceptedEndsByItself : {D : Type 0} → Operations D → Type 0
AcceptedEndsByItself operations = (program : List (Option Instruction)) → IsProgram program → (sizes : Sizes) → AreSizes sizes
    → refusal operations program sizes ≡ None
    → (bytes context scratch : List ℕ) → length bytes ≡ sizes.block → IsState (at_start bytes context scratch)
    → (fuel : ℕ) → instruction_count program ≤ fuel
    → Exits (instruction_count program) sizes.limit (block_run_of program sizes.limit fuel 0 (at_start bytes context scratch))
    × (block_run_of program sizes.limit fuel 0 (at_start bytes context scratch)
    ≡ block_run_of program sizes.limit (instruction_count program) 0 (at_start bytes context scratch))

-- over every block of the length, every context and every scratch, a program that these operations accept emits no more
-- than a group is known to have at some slot
abbrev pub AcceptedEmitsNoMore : {D : Type 0} → Operations D → Type 0
AcceptedEmitsNoMore operations = (program : List (Option Instruction)) → IsProgram program → (sizes : Sizes) → AreSizes sizes
    → refusal operations program sizes ≡ None
    → (bytes context scratch : List ℕ) → length bytes ≡ sizes.block → IsState (at_start bytes context scratch)
    → length (block_run_of program sizes.limit (instruction_count program) 0 (at_start bytes context scratch)).state.group
    ≤ most_emitted operations program sizes.block

-- over every block of the length, every context and every scratch, what a program that these operations accept loads, stores or
-- emits lies where it is known to at its slot
abbrev pub AcceptedAccessesLie : {D : Type 0} → Operations D → Type 0
AcceptedAccessesLie operations = (program : List (Option Instruction)) → IsProgram program → (sizes : Sizes) → AreSizes sizes
    → refusal operations program sizes ≡ None
    → AccessesLie program sizes.limit sizes.block (place_at operations sizes.block program)

-- the slot of a refusal is one of the program's, and so below the most slots of a program (it follows from RefusalIsFirst and BeginsInside)
abbrev pub RefusalIsInside : {D : Type 0} → Operations D → Type 0
RefusalIsInside operations = (program : List (Option Instruction)) → IsProgram program → (sizes : Sizes) (r : Refusal)
    → refusal operations program sizes ≡ Some r → (r.slot < length program) × (r.slot < MOST_SLOTS)

-- what is told of a program that is refused is its first refusal: of the lowest slot where a check fails, the least reason
abbrev pub RefusalIsFirst : {D : Type 0} → Operations D → Type 0
RefusalIsFirst operations = (program : List (Option Instruction)) (sizes : Sizes) (r : Refusal)
    → refusal operations program sizes ≡ Some r → IsFirstRefusal operations program sizes r

-- no slot of a program that is accepted fails a check
abbrev pub AcceptedFailsNowhere : {D : Type 0} → Operations D → Type 0
AcceptedFailsNowhere operations = (program : List (Option Instruction)) (sizes : Sizes)
    → refusal operations program sizes ≡ None → (slot : ℕ) → IsPassed operations program sizes slot

-- the bounds of a fact are in order, and those of an address go up to the greatest word
pub record TakesAddressesForAny {D : Type 0} (IsFact : D → Type 0) (operations : Operations D) : Type 0 where
  pub ordered : (d : D) → IsFact d → (operations.bounds d).low ≤ (operations.bounds d).high
  pub addresses : (d : D) → IsFact d → IsSome (operations.offsets d) → (operations.bounds d).high ≡ 2 ^ 64 - 1

-- in such a domain a record never fits by the sum of its address and its length: it is judged by the bounds of each alone
abbrev pub JudgesByBounds : {D : Type 0} → (D → Type 0) → Operations D → Type 0
JudgesByBounds {D} IsFact operations = TakesAddressesForAny IsFact operations
    → (block : ℕ) (facts : Facts D) → IsFact (fact operations facts 1) → IsFact (fact operations facts 2)
    → record_fits operations block facts ≡ false

-- where sums aren't tracked, nothing is known of registers together at any slot: a program is judged as if there were no sums
abbrev pub JudgesWithoutSums : {D : Type 0} → Operations D → Type 0
JudgesWithoutSums operations = operations.tracks_sums ≡ false → (block : ℕ) (program : List (Option Instruction)) (slot : ℕ)
    → IfSome (facts_at operations block program slot) (λ facts. (facts.sum ≡ None) × (facts.fit ≡ None))

-- over every block of the length, every context and every scratch, each state of a block run meets what is known at its slot,
-- where each slot that the block run was at before is passed; whether its own is passed doesn't matter
abbrev pub FactsAreMet : {D : Type 0} → (D → ℕ → Type 0) → Operations D → Type 0
FactsAreMet contains operations = (program : List (Option Instruction)) → IsProgram program → (sizes : Sizes) → AreSizes sizes
    → (bytes context scratch : List ℕ) → length bytes ≡ sizes.block → IsState (at_start bytes context scratch) → (steps : ℕ)
    → ((fewer : ℕ) → fewer < steps
    → IsPassed operations program sizes (state_after_steps program sizes.limit fewer (at_start bytes context scratch)).slot)
    → MeetsSome contains
    (facts_at operations sizes.block program (state_after_steps program sizes.limit steps (at_start bytes context scratch)).slot)
    (state_after_steps program sizes.limit steps (at_start bytes context scratch))
