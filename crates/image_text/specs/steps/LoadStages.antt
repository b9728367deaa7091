-- What the stages of a load give, before the whole of it is known.
use Rattle.std.specs.Prelude.{ℕ, ◌≡◌, ◌*◌, List, [], ◌∷◌, length, Result, Ok, Err, IsOk}
use Rattle.zone_state.specs.Zone.{CountedZone}
use Rattle.image_text.specs.declared.fault.LoadFault.{LoadFault}
use Rattle.image_text.specs.declared.fault.LoadFault.TheVariants.{Stream}
use Rattle.image_store.specs.ImageInMemory.{IsFlat, zones_of}
use Rattle.common_definitions.specs.Bytes.{spliced}
use Rattle.image_store.specs.Geometry.{Shape}
use Rattle.common_definitions.specs.Readings.{◌>>=◌}
use Rattle.image_store.specs.Namespace.{ZoneWithBlocks, ZonedNamespace, namespace_with}
use Rattle.image_text.specs.Loading.{LoadFails, LoadGives}
use Rattle.image_text.specs.Reading.{blocks_in, bytes_in, end_in, header_in, namespace_in}

-- no stream has failed
abbrev pub IsNoStream : LoadFault → Type 0
IsNoStream Stream = ⊥
IsNoStream _ = Unit {0}

-- a call that succeeds, or fails for another reason than its stream
abbrev pub NoStreamFails : {X : Type 0} → Result X LoadFault → Type 0
NoStreamFails (Ok x) = Unit {0}
NoStreamFails (Err fault) = IsNoStream fault

-- so many bytes, put into their place among others, and the rest
abbrev pub spliced_in : ℕ → ℕ → List ℕ → List ℕ → Result (List ℕ × List ℕ) LoadFault
spliced_in at n others bytes = bytes_in n bytes >>= λ part. Ok (spliced at part.0 others, part.1)

-- zones that fit their shape, over any bytes that have room for all blocks
abbrev pub AreZones : Shape → List CountedZone → Type 0
AreZones s zones = (bytes : List ℕ) → length bytes ≡ s.zones * (s.capacity * s.block) → IsFlat s zones bytes

-- a call that reads the blocks of zones into their rooms gives what reading the first of some bytes gives, and leaves the others
abbrev pub FillsZones : {X : Type 0} → Type 0 → Shape → List CountedZone → (X → List ℕ) → List ℕ → List ℕ → Result X LoadFault → Type 0
FillsZones wanted s zones rooms before after result =
    LoadGives wanted (λ x. (zones_of s.block s.capacity zones (rooms x), after)) result (blocks_in s.block zones before)

-- what a text is that goes on with these bytes after the blocks of zones
abbrev pub after_blocks : Shape → List ZoneWithBlocks → List ℕ → Result ZonedNamespace LoadFault
after_blocks s zones bytes = end_in bytes >>= λ end. Ok (namespace_with s zones)

-- and one that goes on with these after rows that pass all tests
abbrev pub after_limits : Shape → List CountedZone → List ℕ → Result ZonedNamespace LoadFault
after_limits s zs bytes = blocks_in s.block zs bytes >>= λ blocks. after_blocks s blocks.0 blocks.1

-- a text begins with a header and rows that pass all tests, and goes on with these bytes
pub record HasZones (all : List ℕ) (s : Shape) (zs : List CountedZone) (later : List ℕ) : Type 0 where
  pub accepted : IsOk (header_in all)
  pub so_far : namespace_in all ≡ after_limits s zs later

-- a call that reads the header and the rows of a text, and tests them
abbrev pub TellsRows : {X : Type 0} → (X → Shape × List CountedZone) → List ℕ → List ℕ → Result X LoadFault → Type 0
TellsRows view all later (Ok x) = HasZones all (view x).0 (view x).1 later
TellsRows view all later (Err fault) = LoadFails (IsOk (header_in all)) fault (namespace_in all)

-- the bytes after so many
abbrev pub bytes_after : ℕ → List ℕ → Result (List ℕ) LoadFault
bytes_after n bytes = bytes_in n bytes >>= λ part. Ok part.1

-- the bytes after the blocks of zones
abbrev pub blocks_after : ℕ → List CountedZone → List ℕ → Result (List ℕ) LoadFault
blocks_after block [] bytes = Ok bytes
blocks_after block (z ∷ zs) bytes = bytes_after (z.written * block) bytes >>= blocks_after block zs
