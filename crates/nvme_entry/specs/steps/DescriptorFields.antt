-- The fields that the bytes of a zone descriptor tell (ZNS 1.1, 3.4.2).
use Rattle.std.specs.Prelude.{ℕ, ◌*◌, ◌/◌, ◌%◌, ◌^◌, List, Option}
use Rattle.std.specs.Option.{option_map}
use Rattle.zone_state.specs.State.{state_of}
use Rattle.zone_state.specs.declared.state.ZoneState.{ZoneState}
use Rattle.common_definitions.specs.Bytes.{field}
use Rattle.nvme_entry.specs.declared.descriptor.ZoneDescriptor.{ZoneDescriptor}

-- the number in the 8 bytes with this index
abbrev pub eight_bytes : List ℕ → ℕ → ℕ
eight_bytes bytes index = field bytes (8 * index) 8

-- the descriptor with the fields that bytes tell, where they tell a state that there is
abbrev pub descriptor_in : List ℕ → Option ZoneDescriptor
descriptor_in bytes = option_map
    (λ (state : ZoneState). record { state = state; capacity = eight_bytes bytes 1; lowest = eight_bytes bytes 2; write_pointer = eight_bytes bytes 3 })
    (state_of (eight_bytes bytes 0 / 2 ^ 12 % 2 ^ 4))
