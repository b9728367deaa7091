-- That a turn appends at most two blocks.
use Rattle.std.proofs.Common.{◌≡◌, ℕ, suc, ◌-◌, ◌≤◌, Bool, true, false, cond, List, [], ◌∷◌, ◌++◌, length, drop, refl, ap, subst, sym, ◌∙◌, arith}
use Rattle.std.specs.Prelude.{nat_le}
use Rattle.std.specs.List.{AllByRecursion}
use Rattle.std.proofs.lemmas.List.{drop_at, length-map}
use Rattle.program_meaning.specs.BlockRun.{BlockRun}
use Rattle.program_meaning.specs.declared.end.End.{End}
use Rattle.program_meaning.specs.declared.end.End.TheVariants as end
use Rattle.common_definitions.specs.Bytes.{padded}
use Rattle.emit_append.specs.Packing.{all_but_last, beginning, behind, block_fillings, laid_out, packed, released}
use Rattle.emit_append.proofs.Proved.{packing_goes_on}
use Rattle.device_meaning.specs.Outcome.{Emitted, Turn, last_turn_by, middle_turn, turns_after, with_group}
use Rattle.device_meaning.proofs.Outcomes.{later_groups}

-- ---- groups come to no more blocks than there are of them

module _ (block : ℕ) where
  one_more : (fits : Bool) (room : ℕ) (group : List ℕ) (groups : List (List ℕ))
      → ((more : ℕ) → length (laid_out block more groups).later ≤ length groups)
      → length (cond fits (behind group (laid_out block (room - length group) groups))
      (beginning group (laid_out block (block - length group) groups))).later ≤ suc (length groups)
  one_more true room group groups few = let rest = few (room - length group) in omega (arith, rest)
  one_more false room group groups few = let rest = few (block - length group) in omega (arith, rest)

  few_later : (room : ℕ) (groups : List (List ℕ)) → length (laid_out block room groups).later ≤ length groups
  few_later room [] = omega arith
  few_later room (group ∷ groups) = one_more (nat_le (length group) room) room group groups (λ more. few_later more groups)

  few_packed : (groups : List (List ℕ)) → length (packed block groups) ≤ length groups
  few_packed groups =
      let same = length-map (block_fillings block groups) (padded block) in
      let few = few_later 0 groups in
      omega (arith, same, few)

but_last_few : (blocks : List (List ℕ)) → length (all_but_last blocks) ≤ length blocks
but_last_few [] = omega arith
but_last_few (b ∷ []) = omega arith
but_last_few (b ∷ c ∷ bs) = let few = but_last_few (c ∷ bs) in omega (arith, few)

-- ---- turns

abbrev pub HasFew : Turn → Type 0
HasFew turn = length turn.blocks ≤ 2

-- what comes to blocks in front of which others stood
few_more : (first more whole : List (List ℕ)) → whole ≡ first ++ more → length more ≤ 2 → length (drop (length first) whole) ≤ 2
few_more first more whole is few =
    let rest : drop (length first) whole ≡ more = ap (λ (blocks : List (List ℕ)). drop (length first) blocks) is ∙ drop_at first more (length first) refl in
    subst (λ (blocks : List (List ℕ)). length blocks ≤ 2) (sym rest) few

module _ (block : ℕ) where
  later_packed : (emitted : Emitted) (run : BlockRun) → length (packed block (later_groups block emitted run)) ≤ 2
  later_packed emitted run = few_packed block (later_groups block emitted run)

  later_released : (emitted : Emitted) (run : BlockRun) → length (released block (later_groups block emitted run)) ≤ 2
  later_released emitted run =
      let few = but_last_few (packed block (later_groups block emitted run)) in
      let most = later_packed emitted run in
      omega (arith, few, most)

  last_few : (e : End) (emitted : Emitted) (run : BlockRun) → HasFew (last_turn_by e block emitted run)
  last_few (end.Exit r0) emitted run =
      few_more (released block emitted.groups) (packed block (later_groups block emitted run)) (packed block (with_group emitted run).groups)
      (packing_goes_on block emitted.groups (run.state.group ∷ [])).blocks (later_packed emitted run)
  last_few (end.Trap slot cause) emitted run = omega arith
  last_few end.OutOfFuel emitted run = omega arith

  middle_few : (emitted : Emitted) (run : BlockRun) → HasFew (middle_turn block emitted run)
  middle_few emitted run =
      few_more (released block emitted.groups) (released block (later_groups block emitted run)) (released block (with_group emitted run).groups)
      (packing_goes_on block emitted.groups (run.state.group ∷ [])).released_blocks (later_released emitted run)

  pub turns_few : (emitted : Emitted) (block_runs : List BlockRun) → AllByRecursion HasFew (turns_after block emitted block_runs)
  turns_few emitted [] = tt
  turns_few emitted (run ∷ []) = (last_few run.end emitted run, tt)
  turns_few emitted (run ∷ next ∷ block_runs) = (middle_few emitted run, turns_few (with_group emitted run) (next ∷ block_runs))
