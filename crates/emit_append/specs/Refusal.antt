-- What a user is told of bytes that are no output blocks (profile).
use Rattle.std.specs.Prelude.{ℕ, ◌≡◌, ◌≢◌, ◌+◌, ◌*◌, ◌/◌, List, length, slice_index}
use Rattle.emit_append.specs.declared.refusal.FrameRefusal.{FrameRefusal}
use Rattle.emit_append.specs.declared.refusal.FrameRefusal.TheVariants.{Part, Byte}

-- the byte that is refused
abbrev pub refused_byte : FrameRefusal → ℕ
refused_byte (Part at left block) = at
refused_byte (Byte at byte) = at

-- what is told of a byte, where these bytes are to be blocks of this size: of the first behind all whole blocks how many
-- bytes are left, and the size; of another what it is
abbrev pub StandsAt : ℕ → List ℕ → ℕ → FrameRefusal → Type 0
StandsAt block bytes at (Part place left size) =
    (place ≡ at) × (size ≡ block) × (at ≡ length bytes / block * block) × (at + left ≡ length bytes)
StandsAt block bytes at (Byte place byte) = (place ≡ at) × (at ≢ length bytes / block * block) × (byte ≡ slice_index bytes at)
