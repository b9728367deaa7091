-- Where the instructions of a program access memory, by what is known at their slots (profile).
use Rattle.std.specs.Prelude.{ℕ, ℤ, pos, negsuc, ◌≡◌, ◌^◌, ◌+ℤ◌, ◌==◌, ◌&&◌, nat_lt, List, get_or, Option, Some, None, if◌then◌else◌}
use Rattle.std.specs.Option.{option_map}
use Rattle.std.specs.Ordering.{int_eq}
use Rattle.instruction_set.specs.Instruction.{access_of, is_emit}
use Rattle.instruction_set.specs.Program.{instruction_at}
use Rattle.instruction_set.specs.declared.access.Access.{Access}
use Rattle.instruction_set.specs.declared.instruction.Instruction.{Instruction}
use Rattle.program_interface.specs.Area.{address_of}
use Rattle.program_interface.specs.declared.area.Area.{Area}
use Rattle.program_meaning.specs.declared.place.Place.{Place}
use Rattle.word_domain.specs.Domain.{Operations}
use Rattle.word_domain.specs.declared.offsets.Offsets.{Offsets}
use Rattle.accepted_programs.specs.Facts.{area_of, fact, facts_at, greatest_length}
use Rattle.accepted_programs.specs.declared.facts.Facts.{Facts}

-- a distance as an offset in an area, which is a number of 16 bits
abbrev pub offset_from : ℤ → Option ℕ
offset_from (pos k) = if nat_lt k (2 ^ 16) then Some k else None
offset_from (negsuc n) = None

-- how far into an area an offset leads, where the address is known to be one alone, told by its distance from this area
abbrev pub offset_into : Area → Option Offsets → ℤ → Option ℕ
offset_into area (Some told) offset =
    if address_of told.area == address_of area && int_eq told.low told.high then offset_from (told.low +ℤ offset) else None
offset_into area None offset = None

-- a place in an area, with an offset from an address of which this is known
abbrev pub place_in : Option Offsets → ℤ → Area → Place
place_in told offset area = record { area = area; offset = offset_into area told offset }

module _ {D : Type 0} (operations : Operations D) (block : ℕ) where
  -- the place of so many bytes at an offset from a register, if an area is known to hold them
  abbrev pub place_from : Facts D → ℕ → ℤ → ℕ → Option Place
  place_from facts r offset size =
      option_map (place_in (operations.offsets (fact operations facts r)) offset) (area_of operations block facts r offset size)

  -- the place of what an instruction loads or stores, if it does
  abbrev pub place_accessed : Facts D → Option Access → Option Place
  place_accessed facts (Some access) = place_from facts access.base access.offset access.size
  place_accessed facts None = None

  -- the place of what an instruction loads, stores or emits, if it does; emit takes the bytes from R1 on, as many as R2 says
  abbrev pub place_of : Facts D → Instruction → Option Place
  place_of facts i =
      if is_emit i then place_from facts 1 (pos 0) (greatest_length operations facts) else place_accessed facts (access_of i)

  -- the same, where there are an instruction and facts
  abbrev pub place_known : Option Instruction → Option (Facts D) → Option Place
  place_known (Some i) (Some facts) = place_of facts i
  place_known _ _ = None

  -- where a program accesses memory at a slot, if it does, and if it is known
  abbrev pub place_at : List (Option Instruction) → ℕ → Option Place
  place_at program slot = place_known (instruction_at program slot) (facts_at operations block program slot)

  -- a list of what is known of each slot; past its end nothing is
  abbrev pub ArePlaces : List (Option Instruction) → List (Option Place) → Type 0
  ArePlaces program places = (slot : ℕ) → get_or places slot None ≡ place_at program slot
