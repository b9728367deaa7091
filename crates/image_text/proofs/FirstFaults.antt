-- The fault that a text is refused with is its first.
use Rattle.std.proofs.Common.{◌≡◌, ℕ, ◌+◌, ◌*◌, ◌<◌, ◌≤◌, ◌==◌, nat_le, true, false, List, [], ◌∷◌, length, take, drop, get_or, Option, Some, None, Ok, Err, refl, ap, sym, subst, ◌∙◌, arith, inl, inr, length-append, length-drop, pos_of_ne-zero}
use Rattle.std.specs.Prelude.{◌&&◌, IfSome}
use Rattle.std.proofs.lemmas.Bool.{eqb-false, eqb-true, le-leb}
use Rattle.std.proofs.lemmas.Bool.Decides.{leb_tells}
use Rattle.zone_state.specs.Zone.{CountedZone}
use Rattle.zone_resources.specs.declared.admission.Limits.{Limits as ResourceLimits}
use Rattle.zone_resources.specs.Admission.{IsWithin}
use Rattle.zone_resources.specs.Counts.{open_count, active_count}
use Rattle.image_text.specs.declared.fault.LoadFault.{LoadFault}
use Rattle.image_text.specs.declared.fault.LoadFault.TheVariants.{Truncated, ZoneRow, Total, Limits, Trailing}
use Rattle.image_text.specs.declared.header.Header.{Header}
use Rattle.image_text.specs.FirstFault.{FaultIsFirst, HasRows, IsFirstFault, IsRowFault, TellsAllZones, TellsTotal, TellsZone, TellsZones, blocks_end, row_at}
use Rattle.image_store.specs.Geometry.{Shape}
use Rattle.image_store.specs.ImageInMemory.{no_counted_zone}
use Rattle.image_store.specs.Namespace.{ZoneWithBlocks, ZonedNamespace, namespace_with}
use Rattle.image_text.specs.Reading.{rows_end, shape_in, total_told, header_told, zones_in, total_kept, limits_kept, blocks_in, end_in}
use Rattle.image_text.specs.Text.{written_blocks}
use Rattle.image_text.proofs.BlocksRead.{zone_read}
use Rattle.image_text.proofs.FaultPlaces.{blocks_more, blocks_short, short_rows, short_text, whole_rows, whole_text}
use Rattle.image_text.proofs.FilledBuffers.{bytes_parts, bytes_size}
use Rattle.image_text.proofs.LoadedNamespaces.{kept_within}
use Rattle.image_text.specs.steps.LoadStages.{after_blocks, after_limits}
use Rattle.image_text.proofs.LoadStages.{after_header, after_rows, after_total}
use Rattle.image_text.proofs.ReadingCalls.{bind_fails, chosen, is_this, ok_is, wrong}
use Rattle.image_text.proofs.HeaderFaults.{IsReadHeader, header_first, header_is_read}
use Rattle.image_text.proofs.RowFaults.{first_bad, row_of_text}
use Rattle.image_text.proofs.ToldRows.{Tell, are_told}

-- ---- blocks

-- blocks that are all there
blocks_there : (block : ℕ) (zs : List CountedZone) (bytes : List ℕ) (got : List ZoneWithBlocks × List ℕ) → blocks_in block zs bytes ≡ Ok got → length bytes ≡ written_blocks zs * block + length got.1
blocks_there block [] bytes got e = let same : length bytes ≡ length got.1 = ap (λ (g : List ZoneWithBlocks × List ℕ). length g.1) (ok_is ([], bytes) got e) in omega (arith, same)
blocks_there block (z ∷ zs) bytes got e =
    let n = z.written * block in
    let sum : written_blocks (z ∷ zs) * block ≡ n + written_blocks zs * block = blocks_more block z zs in
    let r = zone_read block z zs bytes got e in
    let size = bytes_size n bytes r.front r.first in
    let parts = ap length (bytes_parts n bytes r.front r.first) in
    let later = blocks_there block zs r.front.1 r.later r.more in
    let end : length r.later.1 ≡ length got.1 = ap (λ (g : List ZoneWithBlocks × List ℕ). length g.1) r.are in
    omega (arith, sum, size, parts, length-append r.front.0 r.front.1, later, end)

-- ---- behind the header

not_within : (limits : ResourceLimits) (zs : List CountedZone) → (nat_le (open_count zs) limits.open_limit && nat_le (active_count zs) limits.active_limit) ≡ false → IsWithin zs limits → ⊥
not_within limits zs e fit =
    let opened = le-leb (open_count zs) limits.open_limit fit.opened in
    let active = le-leb (active_count zs) limits.active_limit fit.active in
    let both : (nat_le (open_count zs) limits.open_limit && nat_le (active_count zs) limits.active_limit) ≡ true = rw (opened, active) refl in
    let bad : true ≡ false = sym both ∙ e in
    cc

total_right : (total : Option ℕ) (zs : List CountedZone) (done : Unit {0}) → total_kept total zs ≡ Ok done → IfSome total (λ n. n ≡ written_blocks zs)
total_right None zs done e = tt
total_right (Some total) zs done e = eqb-true total (written_blocks zs) (chosen (total == written_blocks zs) tt done (Total total (written_blocks zs)) e).0

module _ (bytes : List ℕ) (h : Header) (there : 64 ≤ length bytes) (read : IsReadHeader bytes h) where
  abbrev given : Shape
  given = h.geometry

  -- what holds of the text's shape holds of the header's
  same_end : rows_end bytes ≡ 64 + given.zones * 8
  same_end = ap (λ (s : Shape). 64 + s.zones * 8) read.same

  tells : (zs : List CountedZone) → given.zones * 8 ≤ length (drop 64 bytes) → length zs ≤ given.zones → Tell given.capacity (take (given.zones * 8) (drop 64 bytes)) zs → TellsZones read.version bytes zs
  tells zs inside few each = record {
    header = read.header;
    whole = omega (arith, same_end, inside, length-drop 64 bytes);
    each = λ k lt.
        subst (λ (s : Shape). TellsZone s.capacity (row_at bytes k) (get_or zs k no_counted_zone)) (sym read.same)
        (subst (λ (row : List ℕ). TellsZone given.capacity row (get_or zs k no_counted_zone)) (row_of_text bytes given.zones k (omega (arith, lt, few))) (each k lt));
  }

  row_first : (fault : LoadFault) → given.zones * 8 ≤ length (drop 64 bytes) → zones_in 0 given.capacity given.zones (take (given.zones * 8) (drop 64 bytes)) ≡ Err fault → IsFirstFault bytes fault
  row_first fault inside e =
      let found = first_bad 0 given.capacity given.zones (take (given.zones * 8) (drop 64 bytes)) fault e in
      let k = length found.before in
      let few = found.few in
      let bad = found.bad in
      let here : IsRowFault given.capacity (row_at bytes k) bad.why = subst (λ (row : List ℕ). IsRowFault given.capacity row bad.why) (row_of_text bytes given.zones k few) bad.wrong in
      let at : 0 + k ≡ k = omega arith in
      subst (IsFirstFault bytes) (sym (bad.is ∙ ap (λ (i : ℕ). ZoneRow i bad.why) at)) (
        read.version,
        record {
          before = found.before;
          tells = tells found.before inside (omega (arith, few)) found.each;
          next = refl;
          row = subst (λ (s : Shape). k < s.zones) (sym read.same) few;
          wrong = subst (λ (s : Shape). IsRowFault s.capacity (row_at bytes k) bad.why) (sym read.same) here;
        },
      )

  tells_all : (zs : List CountedZone) → given.zones * 8 ≤ length (drop 64 bytes) → zones_in 0 given.capacity given.zones (take (given.zones * 8) (drop 64 bytes)) ≡ Ok zs → TellsAllZones read.version bytes zs
  tells_all zs inside e =
      let told = are_told 0 given.capacity given.zones (take (given.zones * 8) (drop 64 bytes)) zs e in
      let count = told.count in
      record { first = tells zs inside (omega (arith, count)) told.each; all = count ∙ ap (λ (s : Shape). s.zones) (sym read.same) }

  total_first : (zs : List CountedZone) (total : Option ℕ) (fault : LoadFault) → TellsAllZones read.version bytes zs → total ≡ total_told read.version (take 64 bytes) → total_kept total zs ≡ Err fault → IsFirstFault bytes fault
  total_first zs None fault all is e = absurd cc
  total_first zs (Some total) fault all is e =
      let p = wrong (total == written_blocks zs) tt (Total total (written_blocks zs)) fault e in
      subst (IsFirstFault bytes) p.1 (read.version, zs, all, sym is, refl, eqb-false total (written_blocks zs) p.0)

  limits_first : (zs : List CountedZone) (fault : LoadFault) → TellsAllZones read.version bytes zs → TellsTotal read.version bytes zs → limits_kept given.limits zs ≡ Err fault → IsFirstFault bytes fault
  limits_first zs fault all total e =
      let p = wrong (nat_le (open_count zs) given.limits.open_limit && nat_le (active_count zs) given.limits.active_limit) tt (Limits (open_count zs) (active_count zs) given.limits) fault e in
      subst (IsFirstFault bytes) p.1 (read.version, zs, all, total, refl, refl, ap (λ (s : Shape). s.limits) (sym read.same), not_within given.limits zs p.0)

  same_blocks : (zs : List CountedZone) → blocks_end bytes zs ≡ 64 + given.zones * 8 + written_blocks zs * given.block
  same_blocks zs = ap (λ (s : Shape). 64 + s.zones * 8 + written_blocks zs * s.block) read.same

  blocks_first : (zs : List CountedZone) (fault : LoadFault) → given.zones * 8 ≤ length (drop 64 bytes) → HasRows read.version bytes zs
      → after_limits given zs (drop (given.zones * 8) (drop 64 bytes)) ≡ Err fault → IsFirstFault bytes fault
  blocks_first zs fault inside rows e =
      let n = given.zones * 8 in
      let behind = drop n (drop 64 bytes) in
      let front = length-drop 64 bytes in
      let rest = length-drop n (drop 64 bytes) in
      let end = same_blocks zs in
      bind_fails (IsFirstFault bytes) (blocks_in given.block zs behind) (λ blocks. after_blocks given blocks.0 blocks.1) fault e
      (λ first short.
      let p = blocks_short given.block zs behind first short in
      subst (IsFirstFault bytes) p.0 (inr (inr (read.version, zs, rows, omega (arith, p.1, front, rest, end, inside)))))
      (λ blocks got later.
      let size = blocks_there given.block zs behind blocks got in
      bind_fails (IsFirstFault bytes) (end_in blocks.1) (λ end. Ok (namespace_with given blocks.0)) fault later
      (λ first more.
      let p = wrong (length blocks.1 == 0) tt Trailing first more in
      let some = eqb-false (length blocks.1) 0 p.0 in
      let one : 0 < length blocks.1 = pos_of_ne-zero some in
      subst (IsFirstFault bytes) p.1 (read.version, zs, rows, omega (arith, one, size, front, rest, end, inside)))
      (λ done fine none. absurd cc))

  rows_first : (zs : List CountedZone) (fault : LoadFault) → given.zones * 8 ≤ length (drop 64 bytes) → TellsAllZones read.version bytes zs
      → after_rows h zs (drop (given.zones * 8) (drop 64 bytes)) ≡ Err fault → IsFirstFault bytes fault
  rows_first zs fault inside all e =
      let behind = drop (given.zones * 8) (drop 64 bytes) in
      bind_fails (IsFirstFault bytes) (total_kept h.total zs) (λ same. after_total given zs behind) fault e
      (λ first bad. total_first zs h.total first all read.total bad)
      (λ same kept later.
      let total : TellsTotal read.version bytes zs = subst (λ (t : Option ℕ). IfSome t (λ n. n ≡ written_blocks zs)) read.total (total_right h.total zs same kept) in
      bind_fails (IsFirstFault bytes) (limits_kept given.limits zs) (λ kept. after_limits given zs behind) fault later
      (λ first bad. limits_first zs first all total bad)
      (λ done fit last.
      let limits : IsWithin zs (shape_in bytes).limits = subst (λ (s : Shape). IsWithin zs s.limits) (sym read.same) (kept_within given.limits zs done fit) in
      blocks_first zs fault inside (record { tells = all; total = total; limits = limits }) last))

  rest_first : (fault : LoadFault) → after_header h (drop 64 bytes) ≡ Err fault → IsFirstFault bytes fault
  rest_first fault e =
      let n = given.zones * 8 in
      elim (leb_tells n (length (drop 64 bytes))) [
        | inl inside ↦
            bind_fails (IsFirstFault bytes) (zones_in 0 given.capacity given.zones (take n (drop 64 bytes))) (λ zs. after_rows h zs (drop n (drop 64 bytes))) fault
            (sym (whole_rows h (drop 64 bytes) inside.1) ∙ e)
            (λ first bad. row_first first inside.1 bad)
            (λ zs told later. rows_first zs fault inside.1 (tells_all zs inside.1 told) later)
        | inr short ↦
            let few = short.1 in
            subst (IsFirstFault bytes) (is_this {X = ZonedNamespace} Truncated fault (sym (short_rows h (drop 64 bytes) few) ∙ e))
            (inr (inl (read.version, read.header, omega (arith, few, same_end, there, length-drop 64 bytes))))
      ]

pub fault_is_first : FaultIsFirst
fault_is_first bytes fault e =
    elim (leb_tells 64 (length bytes)) [
      | inl there ↦
          bind_fails (IsFirstFault bytes) (header_told (take 64 bytes)) (λ h. after_header h (drop 64 bytes)) fault (sym (whole_text bytes there.1) ∙ e)
          (λ first bad. header_first bytes first there.1 bad)
          (λ h told later. rest_first bytes h there.1 (header_is_read bytes h there.1 told) fault later)
      | inr short ↦ subst (IsFirstFault bytes) (is_this {X = ZonedNamespace} Truncated fault (sym (short_text bytes short.1) ∙ e)) (inl short.1)
    ]
