-- Passing over blocks in place of reading them.
use Rattle.std.proofs.Common.{◌≡◌, ℕ, ◌+◌, ◌-◌, ◌*◌, ◌<◌, ◌≤◌, Bool, cond, List, [], ◌∷◌, length, get_or, take, drop, replicate, Result, Ok, Err, refl, ap, sym, subst, ◌∙◌, arith, inl, inr}
use Rattle.std.proofs.lemmas.Bool.{le-leb}
use Rattle.std.proofs.lemmas.Bool.Decides.{leb_tells}
use Rattle.std.proofs.lemmas.List.{at_drop_more, drop-drop, length-drop, length-replicate}
use Rattle.zone_state.specs.Zone.{CountedZone}
use Rattle.common_definitions.specs.Readings.{◌>>=◌}
use Rattle.image_store.specs.Geometry.{Shape}
use Rattle.image_store.specs.ImageInMemory.{zone_seen}
use Rattle.image_store.specs.Namespace.{ZoneWithBlocks, namespace_with}
use Rattle.image_store.proofs.Proved.{resized}
use Rattle.image_text.specs.declared.fault.LoadFault.{LoadFault}
use Rattle.image_text.specs.declared.fault.LoadFault.TheVariants.{Memory, Stream, Truncated}
use Rattle.image_text.specs.Loading.{HasTable, LoadFails}
use Rattle.image_text.specs.Reading.{blocks_in, bytes_in, end_in, namespace_in}
use Rattle.image_text.specs.Streams.{IsSkipped}
use Rattle.image_text.specs.steps.LoadStages.{AreZones, HasZones, after_blocks, blocks_after, bytes_after}
use Rattle.image_text.proofs.BlocksRead.{Zones}
use Rattle.image_text.proofs.FilledBuffers.{Split, bytes_short, bytes_whole}
use Rattle.image_text.proofs.LoadStages.{FailsToLoad, end_fails, fails_at, has_all, has_blocks}
use Rattle.image_text.proofs.OnlyTextsLoad.{blocks_only, size_read}
use Rattle.image_text.proofs.ReadingCalls.{bind_ok, fails_then, is_this, ok_is}

-- ---- so many bytes

abbrev rest_of : Result Split LoadFault → Result (List ℕ) LoadFault
rest_of part = part >>= λ split. Ok split.1

bytes_there : (n : ℕ) (bytes : List ℕ) → n ≤ length bytes → bytes_after n bytes ≡ Ok (drop n bytes)
bytes_there n bytes inside =
    ap (λ (test : Bool). let r : Result Split LoadFault = cond test (Ok (take n bytes, drop n bytes)) (Err Truncated) in rest_of r) (le-leb n (length bytes) inside)

bytes_cut : (n : ℕ) (bytes : List ℕ) → length bytes < n → bytes_after n bytes ≡ Err Truncated
bytes_cut n bytes short = ap rest_of (bytes_short n bytes short)

-- no more are to be passed over
pub all_skipped : (rest : List ℕ) → bytes_after 0 rest ≡ Ok rest
all_skipped rest = let none : length {A = ℕ} [] ≡ 0 = refl in ap rest_of (bytes_whole 0 [] rest none)

-- some were
pub some_skipped : (total : Result (List ℕ) LoadFault) (left n : ℕ) (before after : List ℕ) → n ≤ left → total ≡ bytes_after left before → IsSkipped before after left n
    → total ≡ bytes_after (left - n) after
some_skipped total left n before after few so_far skip =
    let size : length after ≡ length before - n = ap length skip.rest ∙ length-drop n before in
    let at : n + (left - n) ≡ left = omega (arith, few) in
    so_far
    ∙ elim (leb_tells left (length before)) [
      | inl inside ↦
          bytes_there left before inside.1
          ∙ (ap (λ (rest : List ℕ). let r : Result (List ℕ) LoadFault = Ok rest in r)
          (ap (λ (k : ℕ). drop k before) (sym at) ∙ (sym (drop-drop (left - n) n before) ∙ ap (drop (left - n)) (sym skip.rest)))
          ∙ sym (bytes_there (left - n) after (omega (arith, size, inside.1, skip.there))))
      | inr short ↦ bytes_cut left before short.1 ∙ sym (bytes_cut (left - n) after (omega (arith, size, short.1, skip.there)))
    ]

-- none was, where one was wanted
pub none_skipped : (total : Result (List ℕ) LoadFault) (left : ℕ) (before after : List ℕ) → 1 ≤ left → total ≡ bytes_after left before → IsSkipped before after left 0
    → total ≡ Err Truncated
none_skipped total left [] after some so_far skip = so_far ∙ bytes_cut left [] (omega (arith, some))
none_skipped total left (first ∷ rest) after some so_far skip = absurd (omega (arith, skip.some (omega arith) some))

-- ---- the blocks of zones

next_zone : (block : ℕ) (zones : List CountedZone) (i : ℕ) (zone : CountedZone) (before : List ℕ) → i < length zones → zone ≡ get_or zones i zone
    → blocks_after block (drop i zones) before ≡ (bytes_after (zone.written * block) before >>= blocks_after block (drop (i + 1) zones))
next_zone block zones i zone before inside is =
    at_drop_more (λ (zs : List CountedZone). blocks_after block zs before) zones i zone inside
    ∙ ap (λ (z : CountedZone). bytes_after (z.written * block) before >>= blocks_after block (drop (i + 1) zones)) (sym is)

pub zone_skipped : (block : ℕ) (zones : List CountedZone) (i : ℕ) (zone : CountedZone) (before after : List ℕ) → i < length zones → zone ≡ get_or zones i zone
    → bytes_after (zone.written * block) before ≡ Ok after → blocks_after block (drop i zones) before ≡ blocks_after block (drop (i + 1) zones) after
zone_skipped block zones i zone before after inside is skipped =
    next_zone block zones i zone before inside is ∙ ap (λ (r : Result (List ℕ) LoadFault). r >>= blocks_after block (drop (i + 1) zones)) skipped

pub zone_fails : (block : ℕ) (zones : List CountedZone) (i : ℕ) (zone : CountedZone) (before : List ℕ) (first : LoadFault) → i < length zones → zone ≡ get_or zones i zone
    → LoadFails ⊥ first (bytes_after (zone.written * block) before) → LoadFails ⊥ first (blocks_after block (drop i zones) before)
zone_fails block zones i zone before first inside is fails =
    subst (λ (r : Result (List ℕ) LoadFault). LoadFails ⊥ first r) (sym (next_zone block zones i zone before inside is))
    (fails_then ⊥ ⊥ first (bytes_after (zone.written * block) before) (blocks_after block (drop (i + 1) zones)) (λ no. no) fails)

-- ---- and what reading them leaves

abbrev left_by : Result Zones LoadFault → Result (List ℕ) LoadFault
left_by read = read >>= λ blocks. Ok blocks.1

one_more : (zone : ZoneWithBlocks) (read : Result Zones LoadFault) → left_by read ≡ left_by (read >>= λ rest. Ok (zone ∷ rest.0, rest.1))
one_more zone (Ok rest) = refl
one_more zone (Err first) = refl

one_zone : (block : ℕ) (z : CountedZone) (zs : List CountedZone) (part : Result Split LoadFault) → ((bytes : List ℕ) → blocks_after block zs bytes ≡ left_by (blocks_in block zs bytes))
    → (rest_of part >>= blocks_after block zs) ≡ left_by (part >>= λ front. blocks_in block zs front.1 >>= λ rest. Ok (zone_seen block z front.0 ∷ rest.0, rest.1))
one_zone block z zs (Ok front) more = more front.1 ∙ one_more (zone_seen block z front.0) (blocks_in block zs front.1)
one_zone block z zs (Err first) more = refl

same_rest : (block : ℕ) (zs : List CountedZone) (bytes : List ℕ) → blocks_after block zs bytes ≡ left_by (blocks_in block zs bytes)
same_rest block [] bytes = refl
same_rest block (z ∷ zs) bytes = one_zone block z zs (bytes_in (z.written * block) bytes) (same_rest block zs)

only_first : {X Y : Type 0} (fault : LoadFault) (read : Result X LoadFault) (next : X → Y) → (read >>= λ x. let r : Result Y LoadFault = Ok (next x) in r) ≡ Err fault → read ≡ Err fault
only_first fault (Ok x) next e = absurd cc
only_first {X} {Y} fault (Err first) next e = ap (λ (f : LoadFault). let r : Result X LoadFault = Err f in r) (is_this {X = Y} first fault e)

first_fails : {X Y : Type 0} (fault : LoadFault) (read : Result X LoadFault) (next : X → Y) → LoadFails ⊥ fault (read >>= λ x. let r : Result Y LoadFault = Ok (next x) in r) → LoadFails ⊥ fault read
first_fails Stream read next h = tt
first_fails Memory read next h = h
first_fails fault read next h = only_first fault read next h

-- the blocks are there, though none was read
blocks_are_there : (block : ℕ) (zs : List CountedZone) (later last : List ℕ) → blocks_after block zs later ≡ Ok last → (zones : List ZoneWithBlocks) × (blocks_in block zs later ≡ Ok (zones, last))
blocks_are_there block zs later last e =
    let a = bind_ok (blocks_in block zs later) (λ blocks. Ok blocks.1) last (sym (same_rest block zs later) ∙ e) in
    (a.0.0, a.1 ∙ ap (λ (rest : List ℕ). let r : Result Zones LoadFault = Ok (a.0.0, rest) in r) (ok_is a.0.1 last a.2))

-- ---- the table of a text

module _ {later : List ℕ} {s : Shape} {zs : List CountedZone} (all : List ℕ) (tested : HasZones all s zs later) where
  -- the blocks aren't all there
  pub skipping_fails : (first : LoadFault) → LoadFails ⊥ first (blocks_after s.block zs later) → FailsToLoad all first
  skipping_fails first fails =
      let read = first_fails first (blocks_in s.block zs later) (λ (blocks : Zones). blocks.1) (subst (λ (r : Result (List ℕ) LoadFault). LoadFails ⊥ first r) (same_rest s.block zs later) fails) in
      fails_at ⊥ _ first (blocks_in s.block zs later) (λ blocks. after_blocks s blocks.0 blocks.1) (namespace_in all) tested.so_far (λ no. absurd no) read

  -- something follows them
  pub following_fails : {last : List ℕ} (first : LoadFault) → blocks_after s.block zs later ≡ Ok last → LoadFails ⊥ first (end_in last) → FailsToLoad all first
  following_fails {last} first passed fails =
      let read = blocks_are_there s.block zs later last passed in
      end_fails all first (has_blocks tested read.1) fails

  -- or nothing
  pub has_table : {last : List ℕ} → AreZones s zs → blocks_after s.block zs later ≡ Ok last → end_in last ≡ Ok tt → HasTable all s zs
  has_table {last} fit passed none =
      let read = blocks_are_there s.block zs later last passed in
      let room = s.zones * (s.capacity * s.block) in
      let flat = fit (replicate room 0) (length-replicate {A = ℕ} room 0) in
      let counted = (blocks_only s.block s.capacity zs later (read.0, last) flat.capacities read.1).counted in
      record {
        namespace = namespace_with s read.0;
        loads = has_all (has_blocks tested read.1) none;
        shape_is = ap (resized s) (size_read s zs read.0 flat.count counted);
        zones_are = sym counted;
      }
