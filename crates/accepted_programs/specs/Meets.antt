-- When a state meets what is known of it.
use Rattle.std.specs.Prelude.{ℕ, ◌≡◌, ◌≤◌, ◌+◌, ◌*◌, ◌%◌, ◌^◌, List, [], ◌∷◌, length, drop, get_or, Option, Some, None}
use Rattle.byteorder.specs.Endian.{little_number}
use Rattle.program_meaning.specs.State.{State}
use Rattle.accepted_programs.specs.declared.facts.Facts.{Facts}
use Rattle.accepted_programs.specs.declared.facts.TheConstants.{CELL_BYTES}
use Rattle.accepted_programs.specs.declared.sums.Fit.{Fit}
use Rattle.accepted_programs.specs.declared.sums.Sum.{Sum}

-- the little-endian word that a cell's bytes are
abbrev pub word_in : List ℕ → ℕ → ℕ
word_in stack j = little_number CELL_BYTES (drop (CELL_BYTES * j) stack)

-- the word of a register that is added, if there is one, else 0
abbrev pub added_word : List ℕ → Option ℕ → ℕ
added_word words (Some r) = get_or words r 0
added_word words None = 0

-- the register has the sum
abbrev pub HasSum : Option Sum → List ℕ → Type 0
HasSum None words = Unit {0}
HasSum (Some s) words = get_or words s.register 0 ≡ (get_or words s.first 0 + added_word words s.second + s.more) % 2 ^ 64

-- the sum of the two is at most the number
abbrev pub AreWithin : Option Fit → List ℕ → Type 0
AreWithin None words = Unit {0}
AreWithin (Some f) words = (get_or words f.first 0 + get_or words f.second 0 + f.more) % 2 ^ 64 ≤ f.most

module _ {D : Type 0} (contains : D → ℕ → Type 0) where
  -- each word belongs to the fact at its place
  abbrev pub Belong : List D → List ℕ → Type 0
  Belong [] words = Unit {0}
  Belong (d ∷ ds) [] = ⊥
  Belong (d ∷ ds) (w ∷ ws) = contains d w × Belong ds ws

  -- the word of each cell of which something is known belongs to the fact
  abbrev pub BelongInCells : List (Option D) → List ℕ → Type 0
  BelongInCells cells stack = (j : ℕ) (d : D) → get_or cells j None ≡ Some d → contains d (word_in stack j)

  -- the registers and the words of the stack belong to the facts, the group is within the bound, and of registers together holds what
  -- is known
  pub record Meets (facts : Facts D) (s : State) : Type 0 where
    pub registers : Belong facts.registers s.registers
    pub cells : BelongInCells facts.cells s.memory.stack
    pub group : length s.group ≤ facts.emitted
    pub sum : HasSum facts.sum s.registers
    pub fit : AreWithin facts.fit s.registers

  -- there are facts, and the state meets them
  abbrev pub MeetsSome : Option (Facts D) → State → Type 0
  MeetsSome None s = ⊥
  MeetsSome (Some facts) s = Meets facts s
