-- Words that belong to the facts of their registers.
use Rattle.std.proofs.Common.{ℕ, zero, suc, ◌%◌, ◌≡◌, ◌<◌, ◌^◌, List, [], ◌∷◌, ◌++◌, get_or, set, drop, replicate, true, refl, subst, arith}
use Rattle.std.proofs.lemmas.Bool.{eqb-true}
use Rattle.std.proofs.lemmas.List.{set-get_or}
use Rattle.instruction_set.specs.Instruction.{immediate_word}
use Rattle.instruction_set.specs.declared.instruction.Source.{Source}
use Rattle.instruction_set.specs.declared.instruction.Source.TheVariants.{Immediate, Register}
use Rattle.instruction_set.specs.declared.operation.Relation.{Relation}
use Rattle.instruction_set.specs.declared.operation.Width.{Width}
use Rattle.instruction_set.specs.declared.operation.Width.TheVariants.{Bits32, Bits64}
use Rattle.program_meaning.specs.Effect.{operand, register}
use Rattle.program_meaning.specs.State.{IsState, State}
use Rattle.program_meaning.specs.Word.{is_taken, low_bits}
use Rattle.word_domain.specs.Domain.{Belongs, IsSound, Operations}
use Rattle.accepted_programs.specs.Facts.{compared_fact, fact, is_register, source_fact}
use Rattle.accepted_programs.proofs.KnownFacts.{AreFacts, fact_is, immediate_fits, low_is_word}
use Rattle.accepted_programs.specs.Meets.{Belong, Meets}
use Rattle.accepted_programs.specs.declared.facts.Facts.{Facts}

-- ---- rows of facts
module _ {D : Type 0} (contains : D → ℕ → Type 0) where
  pub belong_set : (ds : List D) (ws : List ℕ) (r : ℕ) (d : D) (w : ℕ) → contains d w → Belong contains ds ws
      → Belong contains (set ds r d) (set ws r w)
  belong_set [] ws r d w is all = tt
  belong_set (e ∷ es) [] r d w is all = absurd all
  belong_set (e ∷ es) (v ∷ vs) zero d w is all = (is, all.1)
  belong_set (e ∷ es) (v ∷ vs) (suc r) d w is all = (all.0, belong_set es vs r d w is all.1)

  -- a fact more about a word that stays
  pub belong_refined : (ds : List D) (ws : List ℕ) (r : ℕ) (d : D) → contains d (get_or ws r 0) → Belong contains ds ws
      → Belong contains (set ds r d) ws
  belong_refined ds ws r d is all =
      subst (λ vs. Belong contains (set ds r d) vs) (set-get_or ws r 0) (belong_set ds ws r d (get_or ws r 0) is all)

  pub belong_drop : (n : ℕ) (ds : List D) (ws : List ℕ) → Belong contains ds ws
      → Belong contains (drop n ds) (drop n ws)
  belong_drop zero ds ws all = all
  belong_drop (suc n) [] ws all = tt
  belong_drop (suc n) (d ∷ ds) [] all = absurd all
  belong_drop (suc n) (d ∷ ds) (w ∷ ws) all = belong_drop n ds ws all.1

  pub belong_replicate : (n : ℕ) (d : D) (w : ℕ) (ds : List D) (ws : List ℕ) → contains d w → Belong contains ds ws
      → Belong contains (replicate n d ++ ds) (replicate n w ++ ws)
  belong_replicate zero d w ds ws is all = all
  belong_replicate (suc n) d w ds ws is all = (is, belong_replicate n d w ds ws is all)

-- ---- the words of an instruction

-- the source of a compare, which at 32 bits takes an immediate's low half
abbrev pub compared : List ℕ → Width → Source → ℕ
compared registers width (Register r) = get_or registers r 0
compared registers width (Immediate z) = low_bits width (immediate_word z)

-- a compare at 32 bits reads the low half of its source alone
pub compares_low : (registers : List ℕ) (width : Width) (relation : Relation) (x : ℕ) (source : Source)
    → is_taken width relation x (compared registers width source) ≡ is_taken width relation x (operand registers source)
compares_low registers width relation x (Register r) = refl
compares_low registers Bits32 relation x (Immediate z) =
    let same : immediate_word z % 2 ^ 32 % 2 ^ 32 ≡ immediate_word z % 2 ^ 32 = omega arith in
    rw same refl
compares_low registers Bits64 relation x (Immediate z) = refl

pub one_register : (registers : List ℕ) (width : Width) (dst : ℕ) (source : Source) → is_register dst source ≡ true
    → get_or registers dst 0 ≡ compared registers width source
one_register registers width dst (Register r) same = let e = eqb-true dst r same in rw e refl
one_register registers width dst (Immediate z) same = cc

module _ {D : Type 0} {IsFact : D → Type 0} {contains : D → ℕ → Type 0} {operations : Operations D}
    (sound : IsSound IsFact contains operations) where
  -- past the row's end every word belongs
  belong_get : (ds : List D) (ws : List ℕ) (r : ℕ) → ((k : ℕ) → get_or ws k 0 < 2 ^ 64) → Belong contains ds ws
      → contains (get_or ds r operations.any) (get_or ws r 0)
  belong_get [] ws r words all = sound.any (get_or ws r 0) (words r)
  belong_get (d ∷ ds) [] r words all = absurd all
  belong_get (d ∷ ds) (w ∷ ws) zero words all = all.0
  belong_get (d ∷ ds) (w ∷ ws) (suc r) words all = belong_get ds ws r (λ k. words (suc k)) all.1

  -- a word that is known belongs to its fact
  pub constant_belongs : (w : ℕ) → w < 2 ^ 64 → Belongs IsFact contains (operations.constant w) w
  constant_belongs w fits = record {
    fact = sound.facts.constant w fits;
    word = fits;
    within = sound.constant w fits;
  }

  module _ (facts : Facts D) (ws : List ℕ) (are : AreFacts IsFact facts) (words : (k : ℕ) → get_or ws k 0 < 2 ^ 64)
      (all : Belong contains facts.registers ws) where
    -- a register's word belongs to its fact
    pub belongs : (r : ℕ) → Belongs IsFact contains (fact operations facts r) (get_or ws r 0)
    belongs r = record {
      fact = fact_is sound.facts facts r are;
      word = words r;
      within = belong_get facts.registers ws r words all;
    }

    pub source_belongs : (source : Source) → Belongs IsFact contains (source_fact operations facts source) (operand ws source)
    source_belongs (Register r) = belongs r
    source_belongs (Immediate z) = constant_belongs (immediate_word z) (immediate_fits z)

    pub compared_belongs : (width : Width) (source : Source)
        → Belongs IsFact contains (compared_fact operations width facts source) (compared ws width source)
    compared_belongs width (Register r) = belongs r
    compared_belongs width (Immediate z) =
        constant_belongs (low_bits width (immediate_word z)) (low_is_word width (immediate_word z) (immediate_fits z))

  -- the word of a register, in a state that meets the facts, belongs to its fact
  pub word_of : (facts : Facts D) (s : State) → AreFacts IsFact facts → IsState s → Meets contains facts s → (r : ℕ)
      → Belongs IsFact contains (fact operations facts r) (register s r)
  word_of facts s are is meets r = belongs facts s.registers are is.words meets.registers r
