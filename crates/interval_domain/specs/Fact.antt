-- Facts about a word, and what belongs to them (profile).
use Rattle.std.specs.Prelude.{ℕ, ℤ, Bool, Option, Some, None, pos, ◌<◌, ◌≤◌, ◌-◌, ◌^◌, ◌+ℤ◌, ◌-ℤ◌, ◌≤ℤ◌, ◌==◌, ◌&&◌, int_le, min, max, if◌then◌else◌}
use Rattle.std.specs.Int.{int_min, int_max}
use Rattle.std.specs.Ordering.{int_eq}
use Rattle.instruction_set.specs.declared.operation.SignedSize.{SignedSize}
use Rattle.instruction_set.specs.declared.operation.Size.{Size}
use Rattle.instruction_set.specs.declared.operation.Size.TheVariants.{Byte, HalfWord, Word, DoubleWord}
use Rattle.program_interface.specs.Area.{address_of, length_of}
use Rattle.program_interface.specs.declared.area.Area.{Area}
use Rattle.word_domain.specs.Domain.{IsAtOffset}
use Rattle.word_domain.specs.declared.bounds.Bounds.{Bounds}
use Rattle.word_domain.specs.declared.offsets.Offsets.{Offsets}
use Rattle.interval_domain.specs.declared.fact.Fact.{Fact}
use Rattle.interval_domain.specs.declared.fact.Fact.TheVariants.{Words, Pointer}

-- the numbers from the lowest to the greatest
abbrev pub IsInBounds : Bounds → ℕ → Type 0
IsInBounds b n = (b.low ≤ n) × (n ≤ b.high)

-- the words that belong to a fact: those within the bounds; those whose distance from the area's
-- address is within the bounds
abbrev pub ContainsWord : Fact → ℕ → Type 0
ContainsWord (Words b) w = IsInBounds b w × (w < 2 ^ 64)
ContainsWord (Pointer area low high) w = IsAtOffset (record { area = area; low = low; high = high }) w × (w < 2 ^ 64)

-- how far from its area's address a pointer is known, either way
abbrev pub farthest : ℤ
farthest = pos (2 ^ 20)

-- the bounds of a fact are in order, and those of a pointer no farther than that
abbrev pub IsFact : Fact → Type 0
IsFact (Words b) = b.low ≤ b.high
IsFact (Pointer area low high) = ((pos 0 -ℤ farthest) ≤ℤ low) × (low ≤ℤ high) × (high ≤ℤ farthest)

-- the bounds that are these two numbers
abbrev pub range : ℕ → ℕ → Bounds
range low high = record { low = low; high = high }

-- the bounds of one number alone
abbrev pub single : ℕ → Bounds
single n = range n n

-- is there one number alone between the bounds?
abbrev pub is_single : Bounds → Bool
is_single b = b.low == b.high

-- every word
abbrev pub full : Bounds
full = range 0 (2 ^ 64 - 1)

-- a pointer whose bounds would pass the farthest either way may be any word
abbrev pub pointer_to : Area → ℤ → ℤ → Fact
pointer_to area low high =
    if int_le (pos 0 -ℤ farthest) low && int_le high farthest then Pointer area low high else Words full

-- what a load gives, zero-extended from its bytes (RFC 9669, 5.1)
abbrev pub loaded_of : Size → Fact
loaded_of Byte = Words (range 0 (2 ^ 8 - 1))
loaded_of HalfWord = Words (range 0 (2 ^ 16 - 1))
loaded_of Word = Words (range 0 (2 ^ 32 - 1))
loaded_of DoubleWord = Words full

-- what a sign-extending load gives (RFC 9669, 5.2): any word
abbrev pub loaded_signed_of : SignedSize → Fact
loaded_signed_of size = Words full

-- what belongs to either of two facts
abbrev pub join_of : Fact → Fact → Fact
join_of (Words b) (Words c) = Words (range (min b.low c.low) (max b.high c.high))
join_of (Pointer area low high) (Pointer area' low' high') =
    if address_of area == address_of area' then Pointer area (int_min low low') (int_max high high') else Words full
join_of _ _ = Words full

-- the bounds of a fact; a pointer counts as every word
abbrev pub bounds_of : Fact → Bounds
bounds_of (Words b) = b
bounds_of (Pointer area low high) = full

-- the area of a pointer, if it has all bytes of an access at this offset
abbrev pub area_accessed : ℕ → Fact → ℤ → ℕ → Option Area
area_accessed block (Words b) offset size = None
area_accessed block (Pointer area low high) offset size =
    if int_le (pos 0) (low +ℤ offset) && int_le (high +ℤ offset +ℤ pos size) (pos (length_of block area))
    then Some area
    else None

-- the area and the distances of a pointer
abbrev pub offsets_of : Fact → Option Offsets
offsets_of (Words b) = None
offsets_of (Pointer area low high) = Some (record { area = area; low = low; high = high })

-- a fact with two different bounds widened to every word
abbrev pub widened : Fact → Fact
widened (Words b) = if is_single b then Words b else Words full
widened (Pointer area low high) = if int_eq low high then Pointer area low high else Words full
