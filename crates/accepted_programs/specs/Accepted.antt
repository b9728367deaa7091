-- Which programs are accepted, and why others aren't (profile).
use Rattle.std.specs.Prelude.{ℕ, ℤ, zero, suc, Bool, true, false, not, is_some, is_none, ◌+◌, ◌^◌, ◌==◌, ◌&&◌, ◌||◌, nat_lt, nat_le, List, [], ◌∷◌, length, find, Option, Some, None, if◌then◌else◌, pos, int_le, int_lt}
use Rattle.std.specs.Option.{option_flatten, option_map, option_map_or, option_or}
use Rattle.instruction_set.specs.Instruction.{access_of, distance_of, is_emit, target, writes}
use Rattle.instruction_set.specs.Program.{instruction_at}
use Rattle.instruction_set.specs.declared.access.Access.{Access}
use Rattle.instruction_set.specs.declared.instruction.Instruction.{Instruction}
use Rattle.instruction_set.specs.declared.instruction.Instruction.TheVariants.{Jump, JumpLong, Exit}
use Rattle.program_meaning.specs.Cause.{calls_unknown, is_load, slot_in}
use Rattle.program_interface.specs.declared.area.Area.{Area}
use Rattle.program_interface.specs.declared.frame.TheConstants.{FRAME_LENGTH_BYTES}
use Rattle.program_interface.specs.RunSizes.{Sizes}
use Rattle.program_interface.specs.Area.{address_of, is_writable, length_of}
use Rattle.word_domain.specs.Domain.{Operations}
use Rattle.word_domain.specs.declared.offsets.Offsets.{Offsets}
use Rattle.accepted_programs.specs.Facts.{area_of, fact, facts_at, greatest, greatest_length, least_length, slot_behind}
use Rattle.accepted_programs.specs.declared.facts.Facts.{Facts}
use Rattle.accepted_programs.specs.declared.sums.Fit.{Fit}
use Rattle.accepted_programs.specs.declared.reason.Reason.{Reason}
use Rattle.accepted_programs.specs.declared.reason.Reason.TheVariants.{JumpBack, JumpOutside, FallsOff, WriteToFramePointer, LoadOutside, StoreOutside, UnknownHelper, EmitAddress, EmitLength, EmitLimit}
use Rattle.accepted_programs.specs.declared.reason.Refusal.{Refusal}

-- the number of a reason, by which a user is told of it
abbrev pub reason_number : Reason → ℕ
reason_number JumpBack = 1
reason_number JumpOutside = 2
reason_number FallsOff = 3
reason_number WriteToFramePointer = 4
reason_number LoadOutside = 5
reason_number StoreOutside = 6
reason_number UnknownHelper = 7
reason_number EmitAddress = 8
reason_number EmitLength = 9
reason_number EmitLimit = 10

-- the reasons in the order of their numbers
abbrev pub all_reasons : List Reason
all_reasons =
    JumpBack ∷ JumpOutside ∷ FallsOff ∷ WriteToFramePointer ∷ LoadOutside ∷ StoreOutside ∷ UnknownHelper
    ∷ EmitAddress ∷ EmitLength ∷ EmitLimit ∷ []

-- does an instruction begin at this slot of a program?
abbrev pub begins_at : List (Option Instruction) → ℤ → Bool
begins_at program slot = is_some (option_flatten (slot_in program slot))

-- does a jump of this distance, if it is one, lead back?
abbrev pub goes_back : Option ℤ → Bool
goes_back (Some distance) = int_lt distance (pos 0)
goes_back None = false

-- does a jump of this distance, if it is one, lead to a slot where no instruction begins?
abbrev pub leads_nowhere : List (Option Instruction) → ℕ → Option ℤ → Bool
leads_nowhere program slot (Some distance) = not (begins_at program (target slot distance))
leads_nowhere program slot None = false

-- does an instruction always leave the slots in a row?
abbrev pub turns_away : Instruction → Bool
turns_away (Jump distance) = true
turns_away (JumpLong distance) = true
turns_away Exit = true
turns_away _ = false

-- does an instruction go on to the slot behind it, where none begins?
abbrev pub falls_off : List (Option Instruction) → ℕ → Instruction → Bool
falls_off program slot i = if turns_away i then false else not (begins_at program (pos (slot_behind slot i)))

-- the refusal of a slot for a reason
abbrev pub refused_at : ℕ → Reason → Refusal
refused_at slot reason = record { slot = slot; reason = reason }

-- are the two R1 and R2, by which emit is told a record's address and length?
abbrev pub is_record : Fit → Bool
is_record f = ((f.first == 1) && (f.second == 2)) || ((f.first == 2) && (f.second == 1))

module _ {D : Type 0} (operations : Operations D) where
  -- the area that holds the bytes of an access
  abbrev pub area_accessed : ℕ → Facts D → Access → Option Area
  area_accessed block facts access = area_of operations block facts access.base access.offset access.size

  -- may a load, if this is one, have bytes that do not all lie in one area?
  abbrev pub loads_outside : ℕ → Facts D → Option Access → Bool
  loads_outside block facts (Some access) = is_load access.kind && is_none (area_accessed block facts access)
  loads_outside block facts None = false

  -- may a store, if this is one, have bytes that do not all lie in one area that can be written?
  abbrev pub stores_outside : ℕ → Facts D → Option Access → Bool
  stores_outside block facts (Some access) =
      not (is_load access.kind) && not (option_map_or is_writable (area_accessed block facts access) false)
  stores_outside block facts None = false

  -- the sum of address and length of a record, R1 and R2, is known not to wrap, and to be at most the end of the address's area
  abbrev pub ends_inside : ℕ → Facts D → Fit → Offsets → Bool
  ends_inside block facts f told =
      nat_lt (greatest operations facts 1 + greatest operations facts 2 + f.more) (2 ^ 64)
      && nat_le f.most (address_of told.area + length_of block told.area + f.more)

  -- are all bytes of a record, at least one, known to lie in an area by the sum of its address and its length? The address isn't below
  -- the area, and the sum is at most its end
  abbrev pub fits_by_sum : ℕ → Facts D → Option Fit → Option Offsets → Bool
  fits_by_sum block facts (Some f) (Some told) =
      is_record f && int_le (pos 0) told.low && nat_le 1 (least_length operations facts) && ends_inside block facts f told
  fits_by_sum block facts _ _ = false

  -- the same by what is known of R1
  abbrev pub record_fits : ℕ → Facts D → Bool
  record_fits block facts = fits_by_sum block facts facts.fit (operations.offsets (fact operations facts 1))

  -- may it be that the address to emit from lies in no area, nor at the end of one?
  abbrev pub emits_from_nowhere : ℕ → Facts D → Bool
  emits_from_nowhere block facts = is_none (area_of operations block facts 1 (pos 0) 0) && not (record_fits block facts)

  -- may there be no bytes to emit, or more than the area has?
  abbrev pub emits_amiss : ℕ → Facts D → Bool
  emits_amiss block facts =
      least_length operations facts == 0
      || (is_none (area_of operations block facts 1 (pos 0) (greatest_length operations facts)) && not (record_fits block facts))

  -- may a frame take the group over its limit?
  abbrev pub passes_limit : ℕ → Facts D → Bool
  passes_limit limit facts = nat_lt limit (facts.emitted + FRAME_LENGTH_BYTES + greatest_length operations facts)

  module _ (program : List (Option Instruction)) (sizes : Sizes) where
    -- does the check of this reason fail? Each for itself
    abbrev pub fails : ℕ → Facts D → Instruction → Reason → Bool
    fails slot facts i JumpBack = goes_back (distance_of i)
    fails slot facts i JumpOutside = leads_nowhere program slot (distance_of i)
    fails slot facts i FallsOff = falls_off program slot i
    fails slot facts i WriteToFramePointer = writes i 10
    fails slot facts i LoadOutside = loads_outside sizes.block facts (access_of i)
    fails slot facts i StoreOutside = stores_outside sizes.block facts (access_of i)
    fails slot facts i UnknownHelper = calls_unknown i
    fails slot facts i EmitAddress = is_emit i && emits_from_nowhere sizes.block facts
    fails slot facts i EmitLength = is_emit i && emits_amiss sizes.block facts
    fails slot facts i EmitLimit = is_emit i && passes_limit sizes.limit facts

    -- the least reason to refuse an instruction at a slot with these facts
    abbrev pub reason_of : ℕ → Facts D → Instruction → Option Reason
    reason_of slot facts i = find (fails slot facts i) all_reasons

    -- the refusal of a slot; one with no facts isn't looked at
    abbrev pub refusal_at : ℕ → Option Instruction → Option (Facts D) → Option Refusal
    refusal_at slot (Some i) (Some facts) = option_map (refused_at slot) (reason_of slot facts i)
    refusal_at slot _ _ = None

    -- the first refusal at the slots below this one
    abbrev pub refusal_below : ℕ → Option Refusal
    refusal_below zero = None
    refusal_below (suc slot) =
        option_or (refusal_below slot) (refusal_at slot (instruction_at program slot) (facts_at operations sizes.block program slot))

    -- the first refusal of a program, which is accepted if there is none
    abbrev pub refusal : Option Refusal
    refusal = refusal_below (length program)
