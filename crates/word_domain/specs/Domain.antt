-- What a domain's operations give, and when they are sound: the words that belong to a fact before an
-- instruction belong to what the operation gives for it after.
use Rattle.std.specs.Prelude.{ℕ, ℤ, Bool, true, Option, Some, None, IfSome, FitsSigned, pos, ◌≡◌, ◌<◌, ◌≤◌, ◌≤ℤ◌, ◌-ℤ◌, ◌+◌, ◌%◌, ◌^◌}
use Rattle.std.specs.Int.{w16, w64, cast_unsigned}
use Rattle.instruction_set.specs.Instruction.{signed_size_of, size_of}
use Rattle.instruction_set.specs.declared.operation.Relation.{Relation}
use Rattle.instruction_set.specs.declared.operation.SignedSize.{SignedSize}
use Rattle.instruction_set.specs.declared.operation.Size.{Size}
use Rattle.instruction_set.specs.declared.operation.Width.{Width}
use Rattle.program_meaning.specs.Effect.{sign_extended}
use Rattle.program_meaning.specs.Memory.{lies_in}
use Rattle.program_interface.specs.Area.{address_of}
use Rattle.program_meaning.specs.Word.{computed, is_taken}
use Rattle.program_interface.specs.declared.area.Area.{Area}
use Rattle.program_meaning.specs.declared.word.Arithmetic.{Arithmetic}
use Rattle.program_interface.specs.BlockSize.{IsBlockSize}
use Rattle.word_domain.specs.declared.bounds.Bounds.{Bounds}
use Rattle.word_domain.specs.declared.offsets.Offsets.{Offsets}

-- the operations of a domain, whose facts are of type D
pub record Operations (D : Type 0) : Type 0 where
  -- one word
  pub constant : ℕ → D
  -- every word
  pub any : D
  -- the address this far into an area
  pub pointer : Area → ℕ → D
  -- what a load can give, zero-extended or sign-extended
  pub loaded : Size → D
  pub loaded_signed : SignedSize → D
  -- what belongs to either
  pub join : D → D → D
  -- what an arithmetic instruction makes of destination and source
  pub alu : Arithmetic → D → D → D
  -- destination and source along an edge of a compare, which is taken or not; the last says that both
  -- are one register. None: there is no such edge
  pub refine : Width → Relation → Bool → D → D → Bool → Option (D × D)
  -- the area that holds this many bytes from each address on that is a word and an offset, beside a
  -- block of this length. None: no area is known to
  pub access : ℕ → D → ℤ → ℕ → Option Area
  -- the lowest and the greatest word, or wider
  pub bounds : D → Bounds
  -- the area from whose address every word is a distance away, and the least and the greatest distance, or wider
  pub offsets : D → Option Offsets
  -- are sums of registers tracked? They are of no use where an address has the bounds of any word
  pub tracks_sums : Bool

-- the edge exists, and both words belong after it
abbrev pub BelongAfter : {D : Type 0} → (D → ℕ → Type 0) → ℕ → ℕ → Option (D × D) → Type 0
BelongAfter contains x y None = ⊥
BelongAfter contains x y (Some facts) = contains facts.0 x × contains facts.1 y

-- a word that belongs to a fact. A number may be no word, and a value of the facts' type no fact: no law
-- speaks of those
pub record Belongs {D : Type 0} (IsFact : D → Type 0) (contains : D → ℕ → Type 0) (d : D) (w : ℕ) : Type 0 where
  pub fact : IsFact d
  pub word : w < 2 ^ 64
  pub within : contains d w

-- the bytes of an access: the block beside it has one of its sizes, the offset is an instruction's, and the size a number of
-- 64 bits
pub record IsAccess (block : ℕ) (offset : ℤ) (size : ℕ) : Type 0 where
  pub beside : IsBlockSize block
  pub near : FitsSigned w16 offset
  pub counted : size < 2 ^ 64

-- an address whose distance from the area's is between the two
abbrev pub IsAtOffset : Offsets → ℕ → Type 0
IsAtOffset told w =
    (told.low ≤ℤ (pos w -ℤ pos (address_of told.area))) × ((pos w -ℤ pos (address_of told.area)) ≤ℤ told.high)

-- what operations give is a fact
pub record GiveFacts {D : Type 0} (IsFact : D → Type 0) (operations : Operations D) : Type 0 where
  pub constant : (w : ℕ) → w < 2 ^ 64 → IsFact (operations.constant w)
  pub any : IsFact operations.any
  pub pointer : (area : Area) (k : ℕ) → k < 2 ^ 32 → IsFact (operations.pointer area k)
  pub loaded : (size : Size) → IsFact (operations.loaded size)
  pub loaded_signed : (size : SignedSize) → IsFact (operations.loaded_signed size)
  pub join : (d e : D) → IsFact d → IsFact e → IsFact (operations.join d e)
  pub alu : (arithmetic : Arithmetic) (d e : D) → IsFact d → IsFact e → IsFact (operations.alu arithmetic d e)
  pub refine : (width : Width) (relation : Relation) (taken : Bool) (d e : D) (same : Bool) → IsFact d → IsFact e
      → IfSome (operations.refine width relation taken d e same) (λ facts. IsFact facts.0 × IsFact facts.1)

-- the laws of a domain
pub record IsSound {D : Type 0} (IsFact : D → Type 0) (contains : D → ℕ → Type 0) (operations : Operations D) : Type 0 where
  pub facts : GiveFacts IsFact operations
  pub constant : (w : ℕ) → w < 2 ^ 64 → contains (operations.constant w) w
  pub any : (w : ℕ) → w < 2 ^ 64 → contains operations.any w
  pub pointer : (area : Area) (k : ℕ) → k < 2 ^ 32 → contains (operations.pointer area k) (address_of area + k)
  pub loaded : (size : Size) (n : ℕ) → n < 256 ^ size_of size → contains (operations.loaded size) n
  pub loaded_signed : (size : SignedSize) (n : ℕ) → n < 256 ^ signed_size_of size
      → contains (operations.loaded_signed size) (sign_extended size n)
  pub join_first : (d e : D) (w : ℕ) → Belongs IsFact contains d w → IsFact e → contains (operations.join d e) w
  pub join_second : (d e : D) (w : ℕ) → IsFact d → Belongs IsFact contains e w → contains (operations.join d e) w
  pub alu : (arithmetic : Arithmetic) (d e : D) (x y : ℕ) → Belongs IsFact contains d x → Belongs IsFact contains e y
      → contains (operations.alu arithmetic d e) (computed arithmetic x y)
  pub refine : (width : Width) (relation : Relation) (taken : Bool) (d e : D) (same : Bool) (x y : ℕ)
      → Belongs IsFact contains d x → Belongs IsFact contains e y → (same ≡ true → x ≡ y)
      → is_taken width relation x y ≡ taken
      → BelongAfter contains x y (operations.refine width relation taken d e same)
  pub access : (block : ℕ) (d : D) (offset : ℤ) (size : ℕ) (area : Area) (w : ℕ) → IsAccess block offset size
      → operations.access block d offset size ≡ Some area → Belongs IsFact contains d w
      → lies_in block area ((w + cast_unsigned w64 offset) % 2 ^ 64) size ≡ true
  pub bounds : (d : D) (w : ℕ) → Belongs IsFact contains d w
      → ((operations.bounds d).low ≤ w) × (w ≤ (operations.bounds d).high)
  pub offsets : (d : D) (told : Offsets) (w : ℕ) → operations.offsets d ≡ Some told → Belongs IsFact contains d w
      → IsAtOffset told w
