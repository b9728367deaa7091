-- What takes the place of functions, slot by slot.
use Rattle.std.proofs.Common.{◌≡◌, ℕ, suc, ◌+◌, Bool, List, ◌++◌, length, Option, refl, ap, add-one}
use Rattle.ebpf_inline.specs.Bodies.{body_of, callee_part, parts_before, place, places_of, slot_part}
use Rattle.ebpf_inline.specs.Data.{first_ones}
use Rattle.ebpf_inline.specs.Sizes.{within}
use Rattle.ebpf_inline.specs.Units.{slots_of}
use Rattle.ebpf_inline.specs.declared.frame.Frame.{Frame}
use Rattle.ebpf_inline.specs.declared.unit.TranslationUnit.{TranslationUnit}
use Rattle.instruction_set.specs.declared.instruction.Instruction.{Instruction}

-- one slot more
pub one_part_more : (at : ℕ → List (Option Instruction)) (slot : ℕ) → parts_before at (slot + 1) ≡ parts_before at slot ++ at slot
one_part_more at slot = ap (parts_before at) (add-one slot)

module _ (unit : TranslationUnit) (room : ℕ) (frame : Frame) where
  -- a function's are those of its slots
  pub body_is : (depth : ℕ) (is_called : Bool) → body_of unit room (suc depth) frame is_called
      ≡ parts_before (slot_part (callee_part unit room (within frame depth)) unit room (within frame depth) is_called)
      (length (slots_of unit frame.function))
  unfolding body_of
  body_is depth is_called = refl

  -- the places
  pub places_are : places_of unit room frame ≡ first_ones (place unit room frame) (length (slots_of unit frame.function) + 1)
  unfolding places_of
  places_are = refl
