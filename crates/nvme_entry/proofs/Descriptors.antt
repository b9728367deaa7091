-- The bytes of a zone descriptor tell its fields.
use Rattle.std.proofs.Common.{◌≡◌, ℕ, ◌/◌, ◌%◌, ◌^◌, ◌<◌, List, drop, refl, ap, ◌∙◌, arith, Option, Some}
use Rattle.byteorder.specs.Numbers.{little_number-reads_back}
use Rattle.zone_state.specs.State.{state_of}
use Rattle.zone_state.specs.declared.state.ZoneState.{ZoneState}
use Rattle.zone_state.specs.declared.state.ZoneState.TheVariants.{Empty, ImplicitlyOpened, ExplicitlyOpened, Closed, ReadOnly, Full, Offline}
use Rattle.nvme_entry.specs.declared.descriptor.ZoneDescriptor.{ZoneDescriptor}
use Rattle.nvme_entry.specs.Descriptor.{AreDescriptorFields, descriptor_bytes, type_and_state}
use Rattle.nvme_entry.specs.steps.DescriptorFields.{descriptor_in, eight_bytes}

state_told : (state : ZoneState) → state_of (type_and_state state / 2 ^ 12 % 2 ^ 4) ≡ Some state
state_told Empty = refl
state_told ImplicitlyOpened = refl
state_told ExplicitlyOpened = refl
state_told Closed = refl
state_told ReadOnly = refl
state_told Full = refl
state_told Offline = refl

small : (state : ZoneState) → type_and_state state < 2 ^ 64
small Empty = omega arith
small ImplicitlyOpened = omega arith
small ExplicitlyOpened = omega arith
small Closed = omega arith
small ReadOnly = omega arith
small Full = omega arith
small Offline = omega arith

-- the fields read from the bytes of a descriptor are its own
pub read_back : (d : ZoneDescriptor) → AreDescriptorFields d → descriptor_in (descriptor_bytes d) ≡ Some d
read_back d fields =
    let bytes = descriptor_bytes d in
    let first : eight_bytes bytes 0 ≡ type_and_state d.state = little_number-reads_back 8 (type_and_state d.state) (drop 8 bytes) (omega (arith, small d.state)) in
    let second : eight_bytes bytes 1 ≡ d.capacity = little_number-reads_back 8 d.capacity (drop 16 bytes) (omega (arith, fields.capacity)) in
    let third : eight_bytes bytes 2 ≡ d.lowest = little_number-reads_back 8 d.lowest (drop 24 bytes) (omega (arith, fields.lowest)) in
    let fourth : eight_bytes bytes 3 ≡ d.write_pointer = little_number-reads_back 8 d.write_pointer (drop 32 bytes) (omega (arith, fields.write_pointer)) in
    let state : state_of (eight_bytes bytes 0 / 2 ^ 12 % 2 ^ 4) ≡ Some d.state = ap (λ (n : ℕ). state_of (n / 2 ^ 12 % 2 ^ 4)) first ∙ state_told d.state in
    rw (state, second, third, fourth) refl

pub is_read_back : (bytes : List ℕ) (found : Option ZoneDescriptor) → found ≡ descriptor_in bytes
    → (d : ZoneDescriptor) → AreDescriptorFields d → bytes ≡ descriptor_bytes d → found ≡ Some d
is_read_back bytes found read d fields is = read ∙ ap descriptor_in is ∙ read_back d fields
