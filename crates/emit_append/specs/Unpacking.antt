-- How frames in output blocks are read back (profile).
use Rattle.std.specs.Prelude.{ℕ, zero, suc, ◌≡◌, ◌↔◌, ◌+◌, ◌*◌, ◌/◌, ◌^◌, ◌<◌, ◌≤◌, ◌==◌, nat_lt, List, [], ◌∷◌, ◌++◌, length, map, take, drop, Option, Some, None, Result, Ok, Err, ◌⊎◌, if◌then◌else◌, Vec}
use Rattle.std.specs.List.{AllByRecursion, concat, flat_map}
use Rattle.std.specs.declared.alloc.Global.{Global}
use Rattle.byteorder.specs.Endian.{little_number}
use Rattle.common_definitions.specs.Readings.{◌>>=◌, with_front}
use Rattle.program_interface.specs.Frame.{frames}
use Rattle.program_interface.specs.declared.frame.TheConstants.{FRAME_LENGTH_BYTES}
use Rattle.emit_append.specs.declared.fault.UnpackFault.{UnpackFault}
use Rattle.emit_append.specs.declared.fault.UnpackFault.TheVariants.{At, Memory}
use Rattle.common_definitions.specs.Bytes.{AreBytes, padded}
use Rattle.emit_append.specs.PackedLaw.{FitBlock}
use Rattle.emit_append.specs.Packing.{packed}

-- the records, or the first byte that is refused, by its number
abbrev pub Reading : Type 0
Reading = Result (List (List ℕ)) ℕ

-- The bytes after the last frame hold no record, and have to be zeros.
abbrev pub zeros_at : ℕ → List ℕ → Reading
zeros_at at [] = Ok []
zeros_at at (byte ∷ rest) = if byte == 0 then zeros_at (at + 1) rest else Err at

-- the length that stands in front; 0 where no frame follows
abbrev pub frame_length : List ℕ → ℕ
frame_length rest = if nat_lt (length rest) FRAME_LENGTH_BYTES then 0 else little_number FRAME_LENGTH_BYTES rest

-- the record behind the length in front
abbrev pub frame_record : List ℕ → List ℕ
frame_record rest = take (frame_length rest) (drop FRAME_LENGTH_BYTES rest)

-- the bytes behind the frame in front
abbrev pub after_frame : List ℕ → List ℕ
after_frame rest = drop (FRAME_LENGTH_BYTES + frame_length rest) rest

-- The frames from byte `at` on, where these bytes of a block are left. Each step passes a frame, so as many steps as bytes are enough.
unfoldable pub frames_at : ℕ → ℕ → List ℕ → Reading
frames_at zero at rest = Ok []
frames_at (suc steps) at rest =
    if frame_length rest == 0 then zeros_at at rest else
    if nat_lt (length rest) (FRAME_LENGTH_BYTES + frame_length rest) then Err at else
    with_front (frame_record rest ∷ []) (frames_at steps (at + (FRAME_LENGTH_BYTES + frame_length rest)) (after_frame rest))

-- the records of a block whose first byte is byte `at`
abbrev pub output_block_at : ℕ → List ℕ → Reading
output_block_at at block = frames_at (length block) at block

-- so many blocks from byte `at` on, after which nothing may follow
unfoldable pub output_blocks_at : ℕ → ℕ → ℕ → List ℕ → Reading
output_blocks_at zero block at [] = Ok []
output_blocks_at zero block at (byte ∷ rest) = Err at
output_blocks_at (suc count) block at bytes =
    output_block_at at (take block bytes) >>= λ records. with_front records (output_blocks_at count block (at + block) (drop block bytes))

-- the records of the blocks that these bytes are
abbrev pub unpacked : ℕ → List ℕ → Reading
unpacked block bytes = output_blocks_at (length bytes / block) block 0 bytes

-- the bytes of records, without where they lie in memory
abbrev pub record_bytes : List (Vec ℕ Global) → List (List ℕ)
record_bytes records = map (λ r. r.items) records

-- the byte that a fault tells; none where memory ran out
abbrev pub byte_told : UnpackFault → Option ℕ
byte_told (At byte) = Some byte
byte_told Memory = None

-- What is packed of groups of frames, none of a record without bytes, reads back as the records of all of them, in order,
-- where each group fits into a block.
abbrev pub PackedFramesReadBack : Type 0
PackedFramesReadBack =
    (block : ℕ) (groups : List (List (List ℕ))) → 0 < block → block < 2 ^ 16 →
    AllByRecursion (λ records. AllByRecursion (λ bytes. 0 < length bytes) records) groups →
    FitBlock block (map frames groups) →
    unpacked block (concat (packed block (map frames groups))) ≡ Ok (flat_map (λ records. records) groups)

-- bytes that are blocks of the frames of these records, in order, and of zeros, where no record is without bytes
-- parts: the records of each block
pub record AreFrames (block : ℕ) (records : List (List ℕ)) (bytes : List ℕ) : Type 0 where
  pub parts : List (List (List ℕ))
  pub in_order : flat_map (λ part. part) parts ≡ records
  pub some : AllByRecursion (λ part. AllByRecursion (λ bytes. 0 < length bytes) part) parts
  pub fits : AllByRecursion (λ part. length (frames part) ≤ block) parts
  pub rest_is_zeros : bytes ≡ concat (map (padded block) (map frames parts))

-- Bytes unpack to records where they are blocks of the records' frames and zeros, and nowhere else.
abbrev pub UnpackedIsFrames : Type 0
UnpackedIsFrames =
    (block : ℕ) (bytes : List ℕ) (records : List (List ℕ)) → 0 < block → block < 2 ^ 16 → AreBytes bytes →
    (unpacked block bytes ≡ Ok records) ↔ AreFrames block records bytes

-- bytes that output blocks of some records can begin with
pub record CanBegin (block : ℕ) (front : List ℕ) : Type 0 where
  pub behind : List ℕ
  pub records : List (List ℕ)
  pub are : AreFrames block records (front ++ behind)

-- a byte up to which output blocks can begin so. With it and the byte behind it they can't: two, since the first byte of a
-- frame's length is the one that is told. Or else no block is left, but bytes are.
pub record IsLowestRefused (block : ℕ) (bytes : List ℕ) (at : ℕ) : Type 0 where
  pub inside : at < length bytes
  pub before : CanBegin block (take at bytes)
  pub there : (¬ CanBegin block (take (at + 2) bytes)) ⊎ (at ≡ length bytes / block * block)

-- The byte that is refused is the lowest one.
abbrev pub RefusedIsLowest : Type 0
RefusedIsLowest =
    (block : ℕ) (bytes : List ℕ) (at : ℕ) → 0 < block → block < 2 ^ 16 → AreBytes bytes →
    unpacked block bytes ≡ Err at → IsLowestRefused block bytes at
