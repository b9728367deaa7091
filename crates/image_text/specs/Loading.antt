-- What a call gives that reads from a source, over what reading the source's bytes gives.
use Rattle.std.specs.Prelude.{ℕ, ◌≡◌, ◌+◌, List, Result, Ok, Err, IsOk}
use Rattle.zone_state.specs.Zone.{CountedZone}
use Rattle.image_store.specs.Geometry.{Shape}
use Rattle.image_store.specs.Namespace.{ZonedNamespace, counted_zones, shape}
use Rattle.image_text.specs.Reading.{header_in, namespace_in}
use Rattle.image_text.specs.declared.fault.LoadFault.{LoadFault}
use Rattle.image_text.specs.declared.fault.LoadFault.TheVariants.{Stream, Memory}

-- The fault is the one that reading gives. A stream that fails says nothing of the bytes, and memory
-- is wanted only where `wanted` holds.
abbrev pub LoadFails : {Y : Type 0} → Type 0 → LoadFault → Result Y LoadFault → Type 0
LoadFails wanted Stream reading = Unit {0}
LoadFails wanted Memory reading = wanted
LoadFails wanted fault reading = reading ≡ Err fault

-- A call whose result is seen by `view` gives what reading gives, unless the stream failed, or memory was
-- wanted, which it is only where `wanted` holds.
abbrev pub LoadGives : {X Y : Type 0} → Type 0 → (X → Y) → Result X LoadFault → Result Y LoadFault → Type 0
LoadGives wanted view (Ok x) reading = reading ≡ Ok (view x)
LoadGives wanted view (Err fault) reading = LoadFails wanted fault reading

-- a call that loads a text gives its namespace or its first fault, and wants memory only where the header is accepted
abbrev pub LoadsText : {X : Type 0} → (X → ZonedNamespace) → List ℕ → Result X LoadFault → Type 0
LoadsText view bytes result = LoadGives (IsOk (header_in bytes)) view result (namespace_in bytes)

-- a text loads as a namespace of this shape with these zones
pub record HasTable (bytes : List ℕ) (s : Shape) (zones : List CountedZone) : Type 0 where
  pub namespace : ZonedNamespace
  pub loads : namespace_in bytes ≡ Ok namespace
  pub shape_is : s ≡ shape namespace
  pub zones_are : zones ≡ counted_zones namespace

-- a call that loads the shape and the zones of a text, without the blocks: of a text that loads it gives these, and of another the fault
-- that loading it gives
abbrev pub LoadsTable : {X : Type 0} → (X → Shape × List CountedZone) → List ℕ → Result X LoadFault → Type 0
LoadsTable view bytes (Ok x) = HasTable bytes (view x).0 (view x).1
LoadsTable view bytes (Err fault) = LoadFails (IsOk (header_in bytes)) fault (namespace_in bytes)

-- the count of failures is one more with the fault of a stream, and stays with each other fault
abbrev pub CountsFault : ℕ → ℕ → LoadFault → Type 0
CountsFault before after Stream = after ≡ before + 1
CountsFault before after _ = after ≡ before

-- a load counts one failure of its source where the stream failed, and else none
abbrev pub CountsLoad : {X : Type 0} → ℕ → ℕ → Result X LoadFault → Type 0
CountsLoad before after (Ok x) = after ≡ before
CountsLoad before after (Err fault) = CountsFault before after fault
