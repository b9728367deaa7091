-- What is accepted by what a domain knows is accepted by what another knows, which tells at least as much.
use Rattle.std.proofs.Common.{ℕ, ℤ, suc, zero, ◌≡◌, ◌%◌, ◌^◌, ◌<◌, ◌≤◌, inl, inr, Bool, true, false, cond, List, Option, Some, None, refl, arith, lit<, pos, ◌⊎◌, not, find, [], ◌∷◌, length, IfSome, ap}
use Rattle.std.proofs.Math.Nat.{mod-lt}
use Rattle.std.specs.Prelude.{◌==◌, ◌&&◌, nat_le, ◌||◌, is_none}
use Rattle.instruction_set.specs.Instruction.{access_of, distance_of, immediate_word, size_of, is_emit}
use Rattle.instruction_set.specs.Program.{instruction_at}
use Rattle.instruction_set.specs.declared.instruction.Instruction.{Instruction}
use Rattle.instruction_set.specs.declared.instruction.Instruction.TheVariants.{LoadImmediate, Load, LoadSigned, StoreImmediate, StoreRegister, Arithmetic, Negate, MoveSigned, SwapBytes, Jump, JumpLong, Branch, Call}
use Rattle.instruction_set.specs.declared.instruction.Source.{Source}
use Rattle.instruction_set.specs.declared.instruction.Source.TheVariants.{Immediate, Register}
use Rattle.instruction_set.specs.declared.operation.Relation.{Relation}
use Rattle.instruction_set.specs.declared.operation.Size.{Size}
use Rattle.instruction_set.specs.declared.operation.Size.TheVariants.{Byte, DoubleWord}
use Rattle.instruction_set.specs.declared.operation.Width.{Width}
use Rattle.instruction_set.specs.declared.operation.Width.TheVariants.{Bits32, Bits64}
use Rattle.program_meaning.specs.steps.Causes.{hinders_store, hinders_load}
use Rattle.program_meaning.specs.Word.{low_bits}
use Rattle.program_interface.specs.declared.area.Area.TheVariants.{Context, Block, Stack, Scratch}
use Rattle.word_domain.specs.Domain.{Operations}
use Rattle.accepted_programs.specs.Accepted.{stores_outside, all_reasons, emits_amiss, emits_from_nowhere, fails, loads_outside, passes_limit, record_fits, refusal_at, refusal_below, refused_at}
use Rattle.accepted_programs.specs.Facts.{after_store, along, area_of, compared_fact, enters_stack, fact, facts_at, facts_at_start, facts_at_target, facts_behind, given_below, gives, is_register, kept_fact, leads, loaded_fact, merge, slot_behind, source_fact, with_both, with_fact, with_source, with_sums, greatest_length, least_length}
use Rattle.accepted_programs.specs.Cells.{join_cell}
use Rattle.accepted_programs.specs.declared.facts.Facts.{Facts}
use Rattle.profile_laws.proofs.Telling.{CellsNear, RowNear, WordsNear, cell_first, cell_least, cell_second, cell_wide, none_near, read_near, row_at, row_behind, row_drop, row_first, row_least, row_second, row_set, stored_near, BothNear, TellsAsMuch, IsWithin}
use Rattle.std.proofs.lemmas.Bool.Decides.{nat_tests}
use Rattle.std.specs.Option.{option_map}
use Rattle.instruction_set.specs.declared.access.Access.{Access}
use Rattle.instruction_set.specs.declared.access.AccessKind.{AccessKind}
use Rattle.program_interface.specs.RunSizes.{Sizes}
use Rattle.program_interface.specs.declared.area.Area.{Area}
use Rattle.accepted_programs.specs.FirstRefusal.{IsPassed}
use Rattle.accepted_programs.specs.Laws.{AcceptedFailsNowhere, JudgesWithoutSums}
use Rattle.accepted_programs.specs.declared.reason.Reason.{Reason}
use Rattle.accepted_programs.specs.declared.reason.Reason.TheVariants.{LoadOutside, StoreOutside, EmitAddress, EmitLength, EmitLimit}
use Rattle.profile_laws.specs.Laws.{AcceptsWhatIsAccepted}
use Rattle.instruction_set.specs.declared.access.AccessKind.TheVariants as kinds
use Rattle.program_meaning.specs.declared.word.Arithmetic.TheVariants as word

immediate_fits : (z : ℤ) → immediate_word z < 2 ^ 64
immediate_fits z = mod-lt _ (lit< tt)

low_fits : (width : Width) (w : ℕ) → w < 2 ^ 64 → low_bits width w < 2 ^ 64
low_fits Bits32 w fits = omega arith
low_fits Bits64 w fits = fits

some_byte : (size : Size) → 1 ≤ size_of size
some_byte Byte = omega arith
some_byte size = omega arith

both_cond : {A B : Type 0} (test : Bool) (x y : A) (x' y' : B) (R : A → B → Type 0) → R x x' → R y y' → R (cond test x y) (cond test x' y')
both_cond true x y x' y' R first second = first
both_cond false x y x' y' R first second = second

module _ {D : Type 0} {Near : D → D → Type 0} {operations others : Operations D} (tells : TellsAsMuch Near operations others) where
  -- facts of which the first tell at least as much: of each register, of each cell, and how much was emitted
  pub record FactsNear (f g : Facts D) : Type 0 where
    pub registers : RowNear Near others.any f.registers g.registers
    pub cells : CellsNear tells f.cells g.cells
    pub emitted : f.emitted ≤ g.emitted

  -- the second are there where the first are
  abbrev pub SomeNear : Option (Facts D) → Option (Facts D) → Type 0
  SomeNear None g = Unit {0}
  SomeNear (Some f) None = ⊥
  SomeNear (Some f) (Some g) = FactsNear f g

  -- ---- joins
  merge_least : (f f' g : Option (Facts D)) → SomeNear f g → SomeNear f' g → SomeNear (merge operations f f') g
  merge_least (Some f) (Some f') (Some g) first second = record {
    registers = row_least Near others.any tells.wide operations.join tells.join_least f.registers f'.registers g.registers first.registers second.registers;
    cells = row_least _ None (cell_wide tells) (join_cell operations.join) (cell_least tells) f.cells f'.cells g.cells first.cells second.cells;
    emitted = omega (arith, first.emitted, second.emitted);
  }
  merge_least (Some f) (Some f') None first second = absurd first
  merge_least (Some f) None g first second = first
  merge_least None f' g first second = second

  merge_first : (f g g' : Option (Facts D)) → SomeNear f g → SomeNear f (merge others g g')
  merge_first None g g' near = tt
  merge_first (Some f) None g' near = absurd near
  merge_first (Some f) (Some g) None near = near
  merge_first (Some f) (Some g) (Some g') near = record {
    registers = row_first Near others.any tells.wide others.join tells.join_first f.registers g.registers g'.registers near.registers;
    cells = row_first _ None (cell_wide tells) (join_cell others.join) (cell_first tells) f.cells g.cells g'.cells near.cells;
    emitted = omega (arith, near.emitted);
  }

  merge_second : (f g g' : Option (Facts D)) → SomeNear f g' → SomeNear f (merge others g g')
  merge_second None g g' near = tt
  merge_second (Some f) g None near = absurd near
  merge_second (Some f) None (Some g') near = near
  merge_second (Some f) (Some g) (Some g') near = record {
    registers = row_second Near others.any tells.wide others.join tells.join_second f.registers g.registers g'.registers near.registers;
    cells = row_second _ None (cell_wide tells) (join_cell others.join) (cell_second tells) f.cells g.cells g'.cells near.cells;
    emitted = omega (arith, near.emitted);
  }

  start_near : FactsNear (facts_at_start operations) (facts_at_start others)
  start_near =
      let none = tells.constant 0 (lit< tt) in
      let context = tells.pointer Context 0 (lit< tt) in
      let bytes = tells.pointer Block 0 (lit< tt) in
      let scratch = tells.pointer Scratch 0 (lit< tt) in
      let stack = tells.pointer Stack 512 (lit< tt) in
      record {
        registers = (none, (context, (bytes, (scratch, (none, (none, (none, (none, (none, (none, (stack, tt)))))))))));
        cells = none_near tells;
        emitted = omega arith;
      }

  module _ (f g : Facts D) (are : FactsNear f g) where
    pub fact_near : (r : ℕ) → Near (fact operations f r) (fact others g r)
    fact_near r = row_at Near others.any operations.any f.registers g.registers r tells.any are.registers

    source_near : (source : Source) → Near (source_fact operations f source) (source_fact others g source)
    source_near (Register r) = fact_near r
    source_near (Immediate z) = tells.constant (immediate_word z) (immediate_fits z)

    compared_near : (width : Width) (source : Source) → Near (compared_fact operations width f source) (compared_fact others width g source)
    compared_near width (Register r) = fact_near r
    compared_near width (Immediate z) = tells.constant (low_bits width (immediate_word z)) (low_fits width (immediate_word z) (immediate_fits z))

    set_near : (r : ℕ) (d e : D) → Near d e → FactsNear (with_fact operations f r d) (with_fact others g r e)
    set_near r d e near = record {
      registers = row_set Near others.any tells.wide f.registers g.registers r d e near are.registers;
      cells = are.cells;
      emitted = are.emitted;
    }

    word_near : (i : Instruction) (r : ℕ) (d e : D) → Near d e
        → FactsNear (with_sums operations i f (with_fact operations f r d)) (with_sums others i g (with_fact others g r e))
    word_near i r d e near =
        let set = set_near r d e near in
        record { registers = set.registers; cells = set.cells; emitted = set.emitted }

    loaded_near : (size : Size) (src : ℕ) (offset : ℤ) → Near (loaded_fact operations f size src offset) (loaded_fact others g size src offset)
    loaded_near DoubleWord src offset =
        rw (tells.first_whole, tells.second_whole)
        (read_near tells (operations.offsets (fact operations f src)) (others.offsets (fact others g src)) offset f.cells g.cells
        (tells.offsets (fact operations f src) (fact others g src) (fact_near src)) are.cells)
    loaded_near Byte src offset = tells.loaded Byte
    loaded_near size src offset = tells.loaded size

    kept_near : (size : Size) (src : ℕ) → WordsNear tells (kept_fact operations f size src) (kept_fact others g size src)
    kept_near DoubleWord src = both_cond (nat_le 1 src && nat_le src 9) _ None _ None (WordsNear tells) (fact_near src) tt
    kept_near Byte src = tt
    kept_near size src = tt

  -- ---- edges
  source_set : (f g : Facts D) → FactsNear f g → (source : Source) (d e : D) → Near d e
      → FactsNear (with_source operations f source d) (with_source others g source e)
  source_set f g are (Register r) d e near = set_near f g are r d e near
  source_set f g are (Immediate z) d e near = are

  both_near : (f g : Facts D) (dst : ℕ) (source : Source) (told told' : Option (D × D)) → FactsNear f g → BothNear Near told told'
      → SomeNear (with_both operations f dst source told) (with_both others g dst source told')
  both_near f g dst source None told' are near = tt
  both_near f g dst source (Some both) None are near = absurd near
  both_near f g dst source (Some both) (Some both') are near =
      let set = source_set _ _ (set_near f g are dst both.0 both'.0 near.0) source both.1 both'.1 near.1 in
      record { registers = set.registers; cells = set.cells; emitted = set.emitted }

  along_near : (f g : Facts D) → FactsNear f g → (taken : Bool) (width : Width) (relation : Relation) (dst : ℕ) (source : Source)
      → SomeNear (along operations taken width relation dst source f) (along others taken width relation dst source g)
  along_near f g are taken width relation dst source =
      both_near f g dst source _ _ are
      (tells.refine width relation taken _ _ _ _ (is_register dst source) (fact_near f g are dst) (compared_near f g are width source))

  module _ (block : ℕ) where
    -- a store by the area that the second know
    stored : (f g : Facts D) → FactsNear f g → (size : Size) (dst : ℕ) (offset : ℤ) (word word' : Option D)
        → hinders_store kinds.Store (area_of others block g dst offset (size_of size)) ≡ false → WordsNear tells word word'
        → FactsNear (after_store operations block f size dst offset word) (after_store others block g size dst offset word')
    stored f g are size dst offset word word' passes words =
        let near = fact_near f g are dst in
        elim (tells.access block (fact operations f dst) (fact others g dst) offset (size_of size) (size_of size) near (omega arith)) [
          | inl none ↦ let no : true ≡ false = (rw none at passes) in cc
          | inr known ↦
              rw known.1
              (both_cond (enters_stack (area_of others block g dst offset (size_of size))) _ f _ g FactsNear
              (record {
                registers = are.registers;
                cells = stored_near tells (operations.offsets (fact operations f dst)) (others.offsets (fact others g dst)) offset (size_of size)
                    word word' f.cells g.cells (tells.offsets (fact operations f dst) (fact others g dst) near) known.0 (some_byte size) words are.cells;
                emitted = are.emitted;
              })
              are)
        ]

    behind_near : (i : Instruction) (f g : Facts D) → FactsNear f g → stores_outside others block g (access_of i) ≡ false
        → SomeNear (facts_behind operations block i f) (facts_behind others block i g)
    behind_near (LoadImmediate dst value) f g are passes =
        word_near f g are (LoadImmediate dst value) dst _ _ (tells.constant (value % 2 ^ 64) (mod-lt value (lit< tt)))
    behind_near (Load size dst src offset) f g are passes = word_near f g are (Load size dst src offset) dst _ _ (loaded_near f g are size src offset)
    behind_near (LoadSigned size dst src offset) f g are passes = word_near f g are (LoadSigned size dst src offset) dst _ _ (tells.loaded_signed size)
    behind_near (StoreImmediate size dst offset value) f g are passes = stored f g are size dst offset None None passes tt
    behind_near (StoreRegister size dst src offset) f g are passes = stored f g are size dst offset _ _ passes (kept_near f g are size src)
    behind_near (Arithmetic width operation dst source) f g are passes =
        word_near f g are (Arithmetic width operation dst source) dst _ _
        (tells.alu (word.Binary width operation) _ _ _ _ (fact_near f g are dst) (source_near f g are source))
    behind_near (Negate width dst) f g are passes =
        word_near f g are (Negate width dst) dst _ _ (tells.alu (word.Negate width) _ _ _ _ (fact_near f g are dst) (tells.constant 0 (lit< tt)))
    behind_near (MoveSigned extension dst src) f g are passes =
        word_near f g are (MoveSigned extension dst src) dst _ _
        (tells.alu (word.MoveSigned extension) _ _ _ _ (tells.constant 0 (lit< tt)) (fact_near f g are src))
    behind_near (SwapBytes swap size dst) f g are passes =
        word_near f g are (SwapBytes swap size dst) dst _ _
        (tells.alu (word.SwapBytes swap size) _ _ _ _ (fact_near f g are dst) (tells.constant 0 (lit< tt)))
    behind_near (Branch width relation dst source distance) f g are passes = along_near f g are false width relation dst source
    behind_near (Call helper) f g are passes =
        let length = tells.bounds (fact operations f 2) (fact others g 2) (fact_near f g are 2) in
        record {
          registers = row_behind Near others.any 6 (operations.constant 0) (others.constant 0) _ _ (tells.constant 0 (lit< tt))
              (row_drop Near others.any 6 f.registers g.registers are.registers);
          cells = are.cells;
          emitted = omega (arith, are.emitted, length.1);
        }
    behind_near i f g are passes = tt

    target_near : (i : Instruction) (f g : Facts D) → FactsNear f g → SomeNear (facts_at_target operations block i f) (facts_at_target others block i g)
    target_near (Jump distance) f g are = are
    target_near (JumpLong distance) f g are = are
    target_near (Branch width relation dst source distance) f g are = along_near f g are true width relation dst source
    target_near i f g are = tt

    -- ---- slots, where the second store nothing outside

    -- an instruction that is there doesn't store outside by what is known
    abbrev pub StoresInside : Option Instruction → Option (Facts D) → Type 0
    StoresInside begun known = (i : Instruction) (g : Facts D) → begun ≡ Some i → known ≡ Some g → stores_outside others block g (access_of i) ≡ false

    gives_near : (begun : Option Instruction) (slot other : ℕ) (f g sofar sofar' : Option (Facts D)) → StoresInside begun g → SomeNear f g
        → SomeNear sofar sofar' → SomeNear (gives operations block begun slot f other sofar) (gives others block begun slot g other sofar')
    gives_near (Some i) slot other (Some f) (Some g) sofar sofar' inside near before =
        let goes_on = slot_behind slot i == other in
        let jumps = leads slot (distance_of i) other in
        let behind = cond goes_on (facts_behind operations block i f) None in
        let behind' = cond goes_on (facts_behind others block i g) None in
        let ahead = cond jumps (facts_at_target operations block i f) None in
        let ahead' = cond jumps (facts_at_target others block i g) None in
        let sofar_behind = merge others sofar' behind' in
        merge_least (merge operations sofar behind) ahead (merge others sofar_behind ahead')
        (merge_least sofar behind (merge others sofar_behind ahead')
        (merge_first sofar sofar_behind ahead' (merge_first sofar sofar' behind' before))
        (merge_first behind sofar_behind ahead' (merge_second behind sofar' behind'
        (both_cond goes_on _ None _ None SomeNear (behind_near i f g near (inside i g refl refl)) tt))))
        (merge_second ahead sofar_behind ahead' (both_cond jumps _ None _ None SomeNear (target_near i f g near) tt))
    gives_near (Some i) slot other (Some f) None sofar sofar' inside near before = absurd near
    gives_near (Some i) slot other None (Some g) sofar sofar' inside near before =
        merge_first sofar (merge others sofar' _) _ (merge_first sofar sofar' _ before)
    gives_near (Some i) slot other None None sofar sofar' inside near before = before
    gives_near None slot other f g sofar sofar' inside near before = before

    module _ (program : List (Option Instruction)) (inside : (slot : ℕ) → StoresInside (instruction_at program slot) (facts_at others block program slot)) where
      pub given_near : (slot other : ℕ) → SomeNear (given_below operations block program slot other) (given_below others block program slot other)
      given_near zero other = both_cond (other == 0) _ None _ None SomeNear start_near tt
      given_near (suc slot) other =
          gives_near (instruction_at program slot) slot other (given_below operations block program slot slot) (given_below others block program slot slot)
          (given_below operations block program slot other) (given_below others block program slot other) (inside slot)
          (given_near slot slot) (given_near slot other)

-- the second know no area, or the first know the same
abbrev AreaNear : Option Area → Option Area → Type 0
AreaNear o o' = (o' ≡ None) ⊎ (o ≡ o')

load_passes : (kind : AccessKind) (o o' : Option Area) → AreaNear o o' → hinders_load kind o' ≡ false → hinders_load kind o ≡ false
load_passes kinds.Load o o' near passes = elim near [ inl none ↦ let no : true ≡ false = (rw none at passes) in cc | inr same ↦ rw same passes ]
load_passes kinds.Store o o' near passes = refl

store_passes : (kind : AccessKind) (o o' : Option Area) → AreaNear o o' → hinders_store kind o' ≡ false → hinders_store kind o ≡ false
store_passes kinds.Load o o' near passes = refl
store_passes kinds.Store o o' near passes = elim near [ inl none ↦ let no : true ≡ false = (rw none at passes) in cc | inr same ↦ rw same passes ]

-- a record lies in an area that is known, where nothing is known of a sum
record_passes : (o o' : Option Area) (fits fits' : Bool) → AreaNear o o' → fits' ≡ false → (is_none o' && not fits') ≡ false → (is_none o && not fits) ≡ false
record_passes o None fits false near is passes = cc
record_passes o None fits true near is passes = cc
record_passes None (Some area) fits fits' near is passes = elim near [ inl none ↦ cc | inr same ↦ cc ]
record_passes (Some area') (Some area) fits fits' near is passes = refl

length_passes : (n n' : ℕ) (amiss amiss' : Bool) → n' ≤ n → (amiss' ≡ false → amiss ≡ false) → ((n' == 0) || amiss') ≡ false → ((n == 0) || amiss) ≡ false
length_passes n n' amiss amiss' less passes e = grind (arith, nat_tests)

when_emitted : (emits b b' : Bool) → (b' ≡ false → b ≡ false) → (emits && b') ≡ false → (emits && b) ≡ false
when_emitted true b b' passes e = passes e
when_emitted false b b' passes e = refl

none_found : (test : Reason → Bool) (reasons : List Reason) → ((r : Reason) → test r ≡ false) → find test reasons ≡ None
none_found test [] none = refl
none_found test (r ∷ reasons) none = rw (none r) (none_found test reasons none)

module _ {D : Type 0} {Near : D → D → Type 0} {operations others : Operations D} (tells : TellsAsMuch Near operations others) where
  module _ (block : ℕ) (f g : Facts D) (are : FactsNear tells f g) where
    area_near : (r : ℕ) (offset : ℤ) (size size' : ℕ) → size ≤ size' → AreaNear (area_of operations block f r offset size) (area_of others block g r offset size')
    area_near r offset size size' less =
        elim (tells.access block (fact operations f r) (fact others g r) offset size size' (fact_near tells f g are r) less) [
          | inl none ↦ inl none
          | inr known ↦ inr known.1
        ]

    loads_pass : (access : Option Access) → loads_outside others block g access ≡ false → loads_outside operations block f access ≡ false
    loads_pass None e = refl
    loads_pass (Some access) e = load_passes access.kind _ _ (area_near access.base access.offset access.size access.size (omega arith)) e

    stores_pass : (access : Option Access) → stores_outside others block g access ≡ false → stores_outside operations block f access ≡ false
    stores_pass None e = refl
    stores_pass (Some access) e = store_passes access.kind _ _ (area_near access.base access.offset access.size access.size (omega arith)) e

    lengths : IsWithin (operations.bounds (fact operations f 2)) (others.bounds (fact others g 2))
    lengths = tells.bounds (fact operations f 2) (fact others g 2) (fact_near tells f g are 2)

    limit_passes : (limit : ℕ) → passes_limit others limit g ≡ false → passes_limit operations limit f ≡ false
    limit_passes limit e = let within = lengths in let emitted = are.emitted in grind (arith, nat_tests)

    module _ (no_fit : record_fits others block g ≡ false) where
      address_passes : emits_from_nowhere others block g ≡ false → emits_from_nowhere operations block f ≡ false
      address_passes e = record_passes _ _ _ _ (area_near 1 (pos 0) 0 0 (omega arith)) no_fit e

      amiss_passes : emits_amiss others block g ≡ false → emits_amiss operations block f ≡ false
      amiss_passes e =
          length_passes (least_length operations f) (least_length others g) _ _ lengths.0
          (record_passes _ _ _ _ (area_near 1 (pos 0) (greatest_length operations f) (greatest_length others g) lengths.1) no_fit) e

  module _ (program : List (Option Instruction)) (sizes : Sizes) where
    check_passes : (slot : ℕ) (f g : Facts D) (i : Instruction) → FactsNear tells f g → record_fits others sizes.block g ≡ false → (reason : Reason)
        → fails others program sizes slot g i reason ≡ false → fails operations program sizes slot f i reason ≡ false
    check_passes slot f g i are no_fit LoadOutside e = loads_pass sizes.block f g are (access_of i) e
    check_passes slot f g i are no_fit StoreOutside e = stores_pass sizes.block f g are (access_of i) e
    check_passes slot f g i are no_fit EmitAddress e = when_emitted (is_emit i) _ _ (address_passes sizes.block f g are no_fit) e
    check_passes slot f g i are no_fit EmitLength e = when_emitted (is_emit i) _ _ (amiss_passes sizes.block f g are no_fit) e
    check_passes slot f g i are no_fit EmitLimit e = when_emitted (is_emit i) _ _ (limit_passes sizes.block f g are sizes.limit) e
    check_passes slot f g i are no_fit reason e = e

    module _ (passed : (slot : ℕ) → IsPassed others program sizes slot) (judged : JudgesWithoutSums others) where
      -- nothing is known of registers together
      no_sum : (slot : ℕ) (g : Facts D) → facts_at others sizes.block program slot ≡ Some g → record_fits others sizes.block g ≡ false
      no_sum slot g is =
          let nothing : IfSome (Some g) (λ facts. (facts.sum ≡ None) × (facts.fit ≡ None)) = rw is at (judged tells.untracked sizes.block program slot) in
          rw nothing.1 refl

      passes_at : (slot : ℕ) (begun : Option Instruction) (known known' : Option (Facts D)) → instruction_at program slot ≡ begun
          → facts_at others sizes.block program slot ≡ known' → SomeNear tells known known'
          → refusal_at operations program sizes slot begun known ≡ None
      passes_at slot (Some i) (Some f) (Some g) begins is near =
          ap (option_map (refused_at slot))
          (none_found (fails operations program sizes slot f i) all_reasons
          (λ reason. check_passes slot f g i near (no_sum slot g is) reason (passed slot i g (record { begins = begins; are = is }) reason)))
      passes_at slot (Some i) (Some f) None begins is near = absurd near
      passes_at slot (Some i) None known' begins is near = refl
      passes_at slot None known known' begins is near = refl

      passes_below : (n : ℕ) → refusal_below operations program sizes n ≡ None
      passes_below zero = refl
      passes_below (suc n) =
          rw (passes_below n)
          (passes_at n (instruction_at program n) (facts_at operations sizes.block program n) (facts_at others sizes.block program n) refl refl
          (given_near tells sizes.block program (λ slot i g begins is. passed slot i g (record { begins = begins; are = is }) StoreOutside) n n))

  pub accepts : AcceptedFailsNowhere others → JudgesWithoutSums others → AcceptsWhatIsAccepted operations others
  accepts nowhere judged program sizes accepted = passes_below program sizes (λ slot. nowhere program sizes accepted slot) judged (length program)
