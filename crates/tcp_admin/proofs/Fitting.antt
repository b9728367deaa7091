-- Data is as long as the SGL descriptor says.
use Rattle.std.proofs.Common.{◌≡◌, ◌⊎◌, ℕ, Bool, true, false, ◌+◌, ◌-◌, ◌%◌, ◌==◌, nat_le, nat_lt, List, [], ◌∷◌, length, take, drop, replicate, Option, Some, None, Result, Ok, Err, if◌then◌else◌, slice_index, refl, sym, ◌∙◌, inl, inr, arith, length-append}
use Rattle.std.proofs.lemmas.Bool.{eqb-true}
use Rattle.std.proofs.lemmas.List.{length-take, length-replicate}
use Rattle.std.specs.Option.{ok_or}
use Rattle.common_definitions.specs.Checks.{demand, first_failed, unless_failed}
use Rattle.common_definitions.specs.Readings.{◌>>=◌}
use Rattle.zone_state.specs.declared.status.Status.{Status}
use Rattle.tcp_pdus.specs.Sgl.{descriptor_in}
use Rattle.tcp_admin.specs.declared.admin.AdminCommand.{AdminCommand}
use Rattle.tcp_admin.specs.declared.admin.AdminCommand.TheVariants.{GetLogPage, Identify, Abort, SetFeatures, GetFeatures, AsynchronousEventRequest, KeepAlive}
use Rattle.tcp_admin.specs.declared.answer.Answer.TheVariants.{Kept}
use Rattle.tcp_admin.specs.declared.controller.Controller.{Controller}
use Rattle.tcp_admin.specs.declared.identify.Structure.{Structure}
use Rattle.tcp_admin.specs.declared.logs.LogPage.{LogPage}
use Rattle.tcp_admin.specs.declared.logs.LogPart.{LogPart}
use Rattle.tcp_admin.specs.declared.status.TheConstants.{ASYNCHRONOUS_EVENT_REQUEST_LIMIT_EXCEEDED, INVALID_LOG_PAGE}
use Rattle.tcp_admin.specs.declared.subsystem.NamespaceFormat.{NamespaceFormat}
use Rattle.tcp_admin.specs.declared.subsystem.Subsystem.{Subsystem}
use Rattle.tcp_admin.specs.Admin.{command_of, response_by}
use Rattle.tcp_admin.specs.Answers.{data_of, tells}
use Rattle.tcp_admin.specs.Identify.{identify_checks, may_name, namespace_in, structure_bytes, structure_in}
use Rattle.tcp_admin.specs.Laws.{DataFitsSgl, FitsSgl, IsSubsystem}
use Rattle.tcp_admin.specs.Logs.{is_within, log_bytes, log_checks, log_page_of, part_bytes, part_in}
use Rattle.tcp_admin.specs.Pages.{part_of}
use Rattle.tcp_admin.proofs.Whole.{structures_are_whole}

-- a part of a page is as long as it is wanted
length-part : (offset size : ℕ) (bytes : List ℕ) → length (part_of offset size bytes) ≡ size
length-part offset size bytes =
    omega (
      arith,
      length-append (take size (drop offset bytes)) (replicate (size - length (take size (drop offset bytes))) 0),
      length-replicate {A = ℕ} (size - length (take size (drop offset bytes))) 0,
      length-take size (drop offset bytes),
    )

-- no data, or so many bytes
abbrev Fits : ℕ → List ℕ → Type 0
Fits wanted bytes = (bytes ≡ []) ⊎ (length bytes ≡ wanted)

-- two checks, of which the second sees to the length
by_two : (wanted : ℕ) (bytes : List ℕ) (one fits : Bool) (first second : Status) → (fits ≡ true → length bytes ≡ wanted)
    → Fits wanted (data_of (unless_failed (first_failed (demand one first ∷ demand fits second ∷ [])) bytes))
by_two wanted bytes true true first second same = inr (same refl)
by_two wanted bytes true false first second same = inl refl
by_two wanted bytes false fits first second same = inl refl

identify_fits : (asked : Result Structure Status) (entry : List ℕ) (id : ℕ) (s : Subsystem) (n : NamespaceFormat) → IsSubsystem s
    → FitsSgl entry
    (data_of
    (asked >>= λ structure.
    unless_failed (first_failed (identify_checks structure entry)) (structure_bytes structure (namespace_in entry) id s n)))
identify_fits (Err status) entry id s n is = inl refl
identify_fits (Ok structure) entry id s n is =
    by_two (descriptor_in entry).length (structure_bytes structure (namespace_in entry) id s n)
    (may_name structure (namespace_in entry)) ((descriptor_in entry).length == 4096) _ _
    (λ equal. structures_are_whole structure (namespace_in entry) id s n is ∙ sym (eqb-true (descriptor_in entry).length 4096 equal))

-- ---- log pages

by_four : (wanted : ℕ) (part : LogPart) (s : Subsystem) (one two three fits : Bool) (first second third fourth : Status)
    → (fits ≡ true → length (part_bytes part s) ≡ wanted)
    → Fits wanted
    (data_of
    (unless_failed (first_failed (demand one first ∷ demand two second ∷ demand three third ∷ demand fits fourth ∷ [])) part
    >>= λ (given : LogPart). Ok (part_bytes given s)))
by_four wanted part s true true true true first second third fourth same = inr (same refl)
by_four wanted part s true true true false first second third fourth same = inl refl
by_four wanted part s true true false fits first second third fourth same = inl refl
by_four wanted part s true false three fits first second third fourth same = inl refl
by_four wanted part s false two three fits first second third fourth same = inl refl

log_fits : (asked : Result LogPage Status) (entry : List ℕ) (s : Subsystem)
    → FitsSgl entry
    (data_of
    ((asked >>= λ (log : LogPage). unless_failed (first_failed (log_checks (part_in log entry) entry)) (part_in log entry))
    >>= λ (part : LogPart). Ok (part_bytes part s)))
log_fits (Err status) entry s = inl refl
log_fits (Ok log) entry s =
    let part : LogPart = part_in log entry in
    let wanted : ℕ = (descriptor_in entry).length in
    let bytes : List ℕ = log_bytes part.page part.command_set s in
    by_four wanted part s (nat_le part.size 4096) (part.offset % 4 == 0) (is_within part) (wanted == part.size) _ _ _ _
    (λ equal. length-part part.offset part.size bytes ∙ sym (eqb-true wanted part.size equal))

-- ---- all commands

event_gives_none : (few : Bool) (c : Controller)
    → (if few then record { controller = record c { event_requests = c.event_requests + 1 }; answer = Kept; «data» = [] }
    else tells c (Err ASYNCHRONOUS_EVENT_REQUEST_LIMIT_EXCEEDED)).«data» ≡ []
event_gives_none true c = refl
event_gives_none false c = refl

fits_by : (command : Option AdminCommand) (entry : List ℕ) (s : Subsystem) (n : NamespaceFormat) (c : Controller) → IsSubsystem s
    → FitsSgl entry (response_by command entry s n c).«data»
fits_by None entry s n c is = inl refl
fits_by (Some GetLogPage) entry s n c is = log_fits (ok_or (log_page_of (slice_index entry 40)) INVALID_LOG_PAGE) entry s
fits_by (Some Identify) entry s n c is = identify_fits (structure_in entry) entry c.id s n is
fits_by (Some Abort) entry s n c is = inl refl
fits_by (Some SetFeatures) entry s n c is = inl refl
fits_by (Some GetFeatures) entry s n c is = inl refl
fits_by (Some AsynchronousEventRequest) entry s n c is = inl (event_gives_none (nat_lt c.event_requests 4) c)
fits_by (Some KeepAlive) entry s n c is = inl refl

pub data_fits_sgl : DataFitsSgl
data_fits_sgl entry s n c is = fits_by (command_of (slice_index entry 0)) entry s n c is
