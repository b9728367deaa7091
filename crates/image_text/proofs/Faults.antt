-- Which faults a text has: none of a stream, and no want of memory.
use Rattle.std.proofs.Common.{◌≡◌, ℕ, Bool, cond, List, Option, Some, None, Result, Ok, Err, sym, subst}
use Rattle.std.specs.Option.{ok_or}
use Rattle.std.specs.Prelude.{◌==◌, ◌&&◌, nat_le}
use Rattle.zone_state.specs.Zone.{CountedZone}
use Rattle.zone_resources.specs.declared.admission.Limits.{Limits}
use Rattle.zone_resources.specs.Counts.{open_count, active_count}
use Rattle.image_text.specs.declared.fault.LoadFault.{LoadFault}
use Rattle.image_text.specs.declared.fault.LoadFault.TheVariants.{Magic, Total, Limits as PastLimits, Stream, Memory}
use Rattle.image_text.specs.declared.version.Version.{Version}
use Rattle.image_text.specs.Loading.{LoadFails, CountsFault, CountsLoad}
use Rattle.image_text.specs.steps.LoadStages.{IsNoStream, NoStreamFails}
use Rattle.image_text.specs.Reading.{version_in, header_of, header_told, zone_in, total_kept, limits_kept}
use Rattle.image_text.specs.Text.{written_blocks}
use Rattle.image_text.proofs.BadHeaders.{header_wrong}
use Rattle.image_text.proofs.ReadingCalls.{bind_fails, is_this, wrong}
use Rattle.image_text.proofs.ToldRows.{row_wrong}

abbrev pub IsOfText : LoadFault → Type 0
IsOfText Stream = ⊥
IsOfText Memory = ⊥
IsOfText _ = Unit {0}

pub no_stream : (fault : LoadFault) → IsOfText fault → IsNoStream fault
no_stream Stream h = h
no_stream fault h = tt

pub fails_text : {Y : Type 0} (wanted : Type 0) (fault : LoadFault) (reading : Result Y LoadFault) → IsOfText fault → reading ≡ Err fault → LoadFails wanted fault reading
fails_text wanted Stream reading h e = absurd h
fails_text wanted Memory reading h e = absurd h
fails_text wanted fault reading h e = e

counts_no_stream : (before after : ℕ) (fault : LoadFault) → IsNoStream fault → after ≡ before → CountsFault before after fault
counts_no_stream before after Stream h e = absurd h
counts_no_stream before after fault h e = e

-- a last part in which no stream fails
pub counts_last : {X : Type 0} (before after : ℕ) (result : Result X LoadFault) → NoStreamFails result → after ≡ before → CountsLoad before after result
counts_last before after (Ok x) h e = e
counts_last before after (Err fault) h e = counts_no_stream before after fault h e

-- what holds of the fault that a test fails with
pub kept_fault : (P : LoadFault → Type 0) (test : Bool) (first fault : LoadFault) → P first → (let r : Result (Unit {0}) LoadFault = cond test (Ok tt) (Err first) in r) ≡ Err fault → P fault
kept_fault P test first fault h e = subst P (wrong test tt first fault e).1 h

magic_fault : (version : Option Version) (fault : LoadFault) → ok_or version Magic ≡ Err fault → IsOfText fault
magic_fault None fault e = subst IsOfText (is_this {X = Version} Magic fault e) tt
magic_fault (Some version) fault e = absurd cc

pub header_text_fault : (bytes : List ℕ) (fault : LoadFault) → header_told bytes ≡ Err fault → IsOfText fault
header_text_fault bytes fault e =
    bind_fails IsOfText (ok_or (version_in bytes) Magic) (header_of bytes) fault e (magic_fault (version_in bytes))
    (λ version told later. let bad = header_wrong version bytes fault later in subst IsOfText (sym bad.is) tt)

pub zone_text_fault : (zone capacity : ℕ) (bytes : List ℕ) (fault : LoadFault) → zone_in zone capacity bytes ≡ Err fault → IsOfText fault
zone_text_fault zone capacity bytes fault e = let bad = row_wrong zone capacity bytes fault e in subst IsOfText (sym bad.is) tt

pub total_text_fault : (total : Option ℕ) (zs : List CountedZone) (fault : LoadFault) → total_kept total zs ≡ Err fault → IsOfText fault
total_text_fault None zs fault e = absurd cc
total_text_fault (Some total) zs fault e = kept_fault IsOfText (total == written_blocks zs) (Total total (written_blocks zs)) fault tt e

pub limits_text_fault : (limits : Limits) (zs : List CountedZone) (fault : LoadFault) → limits_kept limits zs ≡ Err fault → IsOfText fault
limits_text_fault limits zs fault e =
    kept_fault IsOfText (nat_le (open_count zs) limits.open_limit && nat_le (active_count zs) limits.active_limit) (PastLimits (open_count zs) (active_count zs) limits) fault tt e
