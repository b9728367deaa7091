-- Both listings, told apart by whether slots stand in them.
use Rattle.std.specs.Prelude.{ℕ, List, Option}
use Rattle.instruction_set.specs.declared.instruction.Instruction.{Instruction}
use Rattle.ebpf_asm.specs.declared.listing.Slots.{Slots}
use Rattle.ebpf_asm.specs.declared.listing.Slots.TheVariants.{Without, With}
use Rattle.ebpf_asm.specs.Listing.{line_text, line_with_slot, listing, listing_with_slots}

-- the listing of a program, with its slots or without
abbrev pub listed : Slots → List (Option Instruction) → List ℕ
listed Without slots = listing slots
listed With slots = listing_with_slots slots

-- the line of an instruction at a slot
abbrev pub listed_line : Slots → ℕ → Instruction → List ℕ
listed_line Without slot instruction = line_text instruction
listed_line With slot instruction = line_with_slot slot instruction
