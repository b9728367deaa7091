-- What `judge` gives: that a program is accepted, or its refusal, and what is known beside that.
use Rattle.std.specs.Prelude.{◌≡◌, List, Option, Some, None}
use Rattle.instruction_set.specs.declared.instruction.Instruction.{Instruction}
use Rattle.program_interface.specs.RunSizes.{Sizes}
use Rattle.word_domain.specs.Domain.{Operations}
use Rattle.accepted_programs.specs.Accepted.{refusal}
use Rattle.accepted_programs.specs.Emitted.{most_emitted}
use Rattle.accepted_programs.specs.Facts.{facts_at}
use Rattle.accepted_programs.specs.Places.{ArePlaces}
use Rattle.verifier.specs.declared.judging.Judgement.{Judgement}
use Rattle.verifier.specs.declared.judging.Judgement.TheVariants.{Accepted, Refused}

module _ {D : Type 0} (operations : Operations D) (program : List (Option Instruction)) where
  -- accepted, with the most that is emitted and the place of each slot; or refused, with the facts that are known at that slot
  abbrev pub IsJudged : Sizes → Judgement D → Type 0
  IsJudged sizes (Accepted most places) =
      (refusal operations program sizes ≡ None)
      × (most ≡ most_emitted operations program sizes.block)
      × ArePlaces operations sizes.block program places.items
  IsJudged sizes (Refused refused) =
      (refusal operations program sizes ≡ Some refused.refusal)
      × (facts_at operations sizes.block program refused.refusal.slot ≡ Some refused.facts.value)
